-- A version of a lawful page is replaced by another.
use Rattle.std.proofs.Common.{◌≡◌, ℕ, ◌+◌, ◌-◌, ◌*◌, ◌<◌, ◌≤◌, true, leb, ◌≢◌, ◌⊎◌, List, length, get_or, set, is_some, sym, refl, ap, ◌∙◌, inl, inr, ⊎_elim, arith}
use Rattle.std.proofs.lemmas.Bool.{cases_lt, cases_eq, cond-true, le-leb}
use Rattle.page.specs.Headers.{header_of, count_of, pointer_count}
use Rattle.page.specs.Kinds.{body_len, fits}
use Rattle.page.specs.LinePointers.{line_pointer_at, meaning_of, pointer_of, pointer_at}
use Rattle.page.specs.Slots.{Version, Slot, slot_of, slot_no, slot_at, view_of, decoded}
use Rattle.page.specs.Slots.Slot.{unused, holds}
use Rattle.page.specs.Versions.{header_at, row_of}
use Rattle.page.specs.declared.headers.PageHeader.{PageHeader}
use Rattle.page.specs.declared.kinds.Kind.{Kind}
use Rattle.page.specs.declared.line_pointers.State.{State}
use Rattle.page.specs.declared.line_pointers.State.TheVariants as state
use Rattle.page.specs.declared.line_pointers.LinePointer.{LinePointer}
use Rattle.page.specs.declared.line_pointers.Pointer.{Pointer}
use Rattle.page.specs.declared.line_pointers.Pointer.TheVariants.{Unused, Normal, Redirect, Dead}
use Rattle.page.specs.declared.versions.VersionHeader.{VersionHeader}
use Rattle.page_check.specs.All.{all_of}
use Rattle.page_check.specs.Rules.{name_of, leads_well, other_name, apart, version_holds, version_rules}
use Rattle.page_check.specs.Lawful.{own_holds}
use Rattle.page_check.proofs.Slots.{slot_no_in, slot_no_past}
use Rattle.page_laws.specs.Keeps.{Keeps}
use Rattle.page_laws.specs.Windows.{Same}
use Rattle.page_laws.proofs.Own.{VersionKeeps, own_from, others_same, apart_two}
use Rattle.page_laws.proofs.Views.{view_at, view_fun, view_length, view_set}
use Rattle.page_laws.proofs.Windows.{get16_same, get32_same, line_pointer_at_same, between_same}
use Rattle.page_write.specs.Fields.{encoded}
use Rattle.page_write.specs.Changing.{rewrite, change_at, change_version}
use Rattle.page_write_laws.specs.Slots.{NamesAlone, Replaces}
use Rattle.page_write_laws.proofs.Names.{Names, Alike, alike_same, alike_holds, name_alike, leads_alike, names_change}
use Rattle.page_write_laws.proofs.Beside.{Beside, keeps_version, keeps_names, slot_beside, keeps_beside}
use Rattle.page_write_laws.proofs.Encoded.{head_tells, head_from, decoded_is, word_small, word2_small}
use Rattle.page_write_laws.proofs.Rewriting.{Small, rewritten, length_rewrite, same_rewrite, rewrite_reads}

pub header_of_same : (p q : List ℕ) → Same 0 24 p q → header_of p ≡ header_of q
header_of_same p q s =
    let a = get32_same p q 0 (λ k h l. s k h (omega arith)) in
    let b = get32_same p q 4 (λ k h l. s k (omega arith) (omega arith)) in
    let c = get16_same p q 8 (λ k h l. s k (omega arith) (omega arith)) in
    let d = get16_same p q 10 (λ k h l. s k (omega arith) (omega arith)) in
    let e = get16_same p q 12 (λ k h l. s k (omega arith) (omega arith)) in
    let f = get16_same p q 14 (λ k h l. s k (omega arith) (omega arith)) in
    let g = get16_same p q 16 (λ k h l. s k (omega arith) (omega arith)) in
    let h = get16_same p q 18 (λ k h l. s k (omega arith) (omega arith)) in
    let i = get32_same p q 20 (λ k h l. s k (omega arith) (omega arith)) in cc

-- a normal pointer keeps its rules where its version does
pub own_normal : (kinds : List Kind) (q : List ℕ) (l : LinePointer) (o n : ℕ) → pointer_of l ≡ Normal o n → VersionKeeps kinds q o n → own_holds kinds q l ≡ true
own_normal kinds q l o n e v = split l.state refl e
  where
    no : {X : Type 0} → ◌≡◌ {A = ℕ} 0 1 → X
    no z = absurd (omega arith)

    split : (s : State) → l.state ≡ s → meaning_of s l.offset l.len ≡ Normal o n → own_holds kinds q l ≡ true
    split state.Unused d e = no cc
    split state.Redirect d e = no cc
    split state.Dead d e = no cc
    split state.Normal d e =
        let a : l.offset ≡ o = cc in
        let b : l.len ≡ n = cc in
        own_from kinds q l state.Normal d (rw (a, b) v)

-- what a slot that holds a version says of its pointer
pub record Held (p : List ℕ) (m : ℕ) (u : Version) : Type 0 where
  pub offset : ℕ
  pub len : ℕ
  pub one : 1 ≤ m
  pub last : m ≤ count_of p
  pub pointer : pointer_at p m ≡ Normal offset len
  pub is : u ≡ decoded (header_at p offset) (row_of p offset len)

unused_holds : (u : Version) → unused ≡ holds u → ⊥
unused_holds u e = let z : ◌≡◌ {A = ℕ} 0 1 = cc in omega arith

slot_holds : (p : List ℕ) (x : Pointer) (u : Version) → slot_of p x ≡ holds u
    → (o : ℕ) × (n : ℕ) × (x ≡ Normal o n) × (u ≡ decoded (header_at p o) (row_of p o n))
slot_holds p Unused u e = absurd (unused_holds u e)
slot_holds p (Redirect t) u e = absurd (let z : ◌≡◌ {A = ℕ} 0 1 = cc in omega arith)
slot_holds p Dead u e = absurd (let z : ◌≡◌ {A = ℕ} 0 1 = cc in omega arith)
slot_holds p (Normal o n) u e = (o, n, refl, cc)

pub held : (p : List ℕ) (m : ℕ) (u : Version) → slot_at (view_of p) m ≡ holds u → Held p m u
held p m u e =
    let f : slot_no p m ≡ holds u = sym (view_at p m) ∙ e in
    let one : 1 ≤ m = ⊎_elim (λ (z : m ≡ 0). absurd (unused_holds u (sym (ap (slot_no p) z) ∙ f))) (λ (z : m ≡ 0 → ⊥). omega arith) (cases_eq m 0) in
    let last : m ≤ count_of p = ⊎_elim (λ (z : count_of p < m). absurd (unused_holds u (sym (slot_no_past p m z) ∙ f))) (λ z. z) (cases_lt (count_of p) m) in
    let r = slot_holds p (pointer_at p m) u (sym (slot_no_in p m one last) ∙ f) in
    record { offset = r.0; len = r.1; one = one; last = last; pointer = r.2; is = r.3 }

module _ (kinds : List Kind) (b : ℕ) (p : List ℕ) (len : length p ≡ 8192) (k : Keeps kinds b p) (m : ℕ) (u w : Version) (h : Held p m u) (r : Replaces u w) where
  abbrev o : ℕ
  o = h.offset

  abbrev n : ℕ
  n = h.len

  abbrev q : List ℕ
  q = rewrite p o (encoded w)

  old : VersionKeeps kinds p o n
  old = rw h.pointer at (keeps_version kinds b p k m h.one h.last)

  small : Small (encoded w)
  small = record {
    remover = r.remover;
    block = r.block;
    pointer = r.pointer;
    infomask2 = word2_small w.hot_updated w.heap_only;
    infomask = word_small w.creator_committed w.creator_invalid w.remover_committed w.remover_invalid w.updated;
  }

  long : length q ≡ 8192
  long = length_rewrite p o (encoded w) ∙ len

  -- the header of the page and its pointers stay, and so do other versions
  below : (a e : ℕ) → e ≤ (header_of p).upper → Same a e p q
  below a e l i x y = let above = old.above in sym (same_rewrite p o (encoded w) a e (inl (omega arith)) i x y)

  outside : (a e : ℕ) → (e ≤ o) ⊎ (o + n ≤ a) → Same a e p q
  outside a e out i x y =
      let full = old.lies.holds_kind in
      sym (same_rewrite p o (encoded w) a e (⊎_elim (λ z. inl (omega arith)) (λ z. inr (omega arith)) out) i x y)

  header_stays : header_of p ≡ header_of q
  header_stays = let a = k.header.lower_past_header in let c = k.header.lower_by_upper in header_of_same p q (below 0 24 (omega arith))

  count_stays : count_of q ≡ count_of p
  count_stays = sym (ap pointer_count header_stays)

  pointers_end : (i : ℕ) → i ≤ count_of p → 24 + 4 * i ≤ (header_of p).upper
  pointers_end i l = omega (arith, k.header.lower_past_header, k.header.lower_by_upper)

  pointer_stays : (i : ℕ) → i ≤ count_of p → line_pointer_at p i ≡ line_pointer_at q i
  pointer_stays i l = line_pointer_at_same p q i (below (20 + 4 * i) (24 + 4 * i) (pointers_end i l))

  beside : Beside p q m
  beside = record {
    long = long;
    upper = omega (arith, ap (λ (x : PageHeader). x.upper) header_stays);
    count = omega (arith, count_stays);
    within = λ i x y ne. omega (arith, count_stays);
    pointer = λ i x y ne. pointer_stays i y;
    version = λ i x y ne. others_same p q o n (pointer_at p i) (rw h.pointer at (apart_two kinds b p k m i h.one h.last x y (λ e. ne (sym e)))) outside;
  }

  -- the version afterwards
  reads : header_at q o ≡ rewritten (header_at p o) (encoded w)
  reads = let a = old.lies.ends in let c = old.lies.holds_kind in rewrite_reads p o (encoded w) (omega arith) small

  row_stays : row_of q o n ≡ row_of p o n
  row_stays =
      let a = old.lies.ends in
      between_same q p (o + 24) (o + n) (long ∙ sym len) (omega (arith, long)) (same_rewrite p o (encoded w) (o + 24) (o + n) (inr (omega arith)))

  bits : (v : VersionHeader) → v ≡ rewritten (header_at p o) (encoded w) → decoded v (row_of p o n) ≡ w
  bits v e =
      ap (λ (x : VersionHeader). decoded x (row_of p o n)) e
      ∙ decoded_is (rewritten (header_at p o) (encoded w)) w (record { infomask = refl; infomask2 = refl }) (row_of p o n)
      (sym (r.creator ∙ ap (λ (x : Version). x.creator) h.is)) refl refl (sym (r.row ∙ ap (λ (x : Version). x.row) h.is))

  pointer_here : pointer_at q m ≡ Normal o n
  pointer_here = sym (ap pointer_of (pointer_stays m h.last)) ∙ h.pointer

  slot_here : slot_no q m ≡ holds w
  slot_here =
      slot_no_in q m h.one (omega (arith, h.last, count_stays))
      ∙ ap (slot_of q) pointer_here
      ∙ ap (λ (x : List ℕ). holds (decoded (header_at q o) x)) row_stays
      ∙ ap holds (bits (header_at q o) reads)

  slot_old : slot_no p m ≡ holds u
  slot_old = slot_no_in p m h.one h.last ∙ ap (slot_of p) h.pointer ∙ ap holds (sym h.is)

  rest : (i : ℕ) → i ≢ m → slot_no q i ≡ slot_no p i
  rest = slot_beside kinds b p q m len k beside

  new : VersionKeeps kinds q o n
  new =
      let head = head_tells (header_at p o) old.head in
      let full = old.lies.holds_kind in
      let kind : get_or q (o + 24) 0 ≡ get_or p (o + 24) 0 = same_rewrite p o (encoded w) (o + 24) (o + 25) (inr (omega arith)) (o + 24) (omega arith) (omega arith) in
      record {
        lies = old.lies;
        above = omega (arith, old.above, ap (λ (x : PageHeader). x.upper) header_stays);
        known = ap (λ (x : ℕ). is_some (body_len kinds x)) kind ∙ old.known;
        row = ap (λ (x : ℕ). fits (body_len kinds x) (n - 25)) kind ∙ old.row;
        head = ap (λ (v : VersionHeader). all_of (version_holds v) (version_rules state.Normal)) reads
            ∙ head_from (rewritten (header_at p o) (encoded w)) w (record { infomask = refl; infomask2 = refl })
            head.hoff head.zero head.creator refl r.one_bit r.number;
      }

  alike : (t : ℕ) → Alike (slot_no q t) (slot_no p t)
  alike t =
      ⊎_elim
      (λ (e : t ≡ m). rw e (rw slot_here (rw slot_old (alike_holds w u r.heap_only r.creator))))
      (λ (e : t ≡ m → ⊥). alike_same (slot_no q t) (slot_no p t) (rest t e))
      (cases_eq t m)

  name_stays : (s : Slot) → name_of b (slot_no q) s ≡ name_of b (slot_no p) s
  name_stays s = name_alike b (slot_no q) (slot_no p) s alike

  names : NamesAlone b (view_of p) m (holds w) → Names b (count_of p) (slot_no q)
  names alone =
      names_change b (count_of p) m (slot_no p) (slot_no q) (keeps_names kinds b p k)
      (λ i x y ne. name_stays (slot_no q i) ∙ ap (name_of b (slot_no p)) (rest i ne))
      (λ i x y. ⊎_elim
      (λ (e : i ≡ m). rw e (ap (leads_well (slot_no q)) slot_here))
      (λ (e : i ≡ m → ⊥).
      ap (leads_well (slot_no q)) (rest i e) ∙ leads_alike (slot_no q) (slot_no p) (slot_no p i) alike ∙ k.redirect_target i x y)
      (cases_eq i m))
      (λ i x y ne.
      ap (λ (v : ℕ). other_name v (name_of b (slot_no p) (slot_no p i))) (name_stays (slot_no q m) ∙ ap (name_of b (slot_no p)) slot_here)
      ∙ sym (ap (λ (f : ℕ → Slot). other_name (name_of b f (holds w)) (name_of b f (f i))) (view_fun p))
      ∙ alone i x (omega (arith, view_length p)) ne)

  pub change_long : length q ≡ 8192
  change_long = long

  pub change_count : count_of q ≡ count_of p
  change_count = count_stays

  pub change_view : view_of q ≡ set (view_of p) (m - 1) (holds w)
  change_view =
      let one = h.one in let last = h.last in
      let e : (m - 1) + 1 ≡ m = omega arith in
      view_set p q (m - 1) (holds w) count_stays (omega arith) (rw e slot_here) (λ i ne. rest (i + 1) (omega arith))

  pub change_keeps : NamesAlone b (view_of p) m (holds w) → Keeps kinds b q
  change_keeps alone =
      keeps_beside kinds b p q m len k beside (rw (sym header_stays) k.header) (own_normal kinds q (line_pointer_at q m) o n pointer_here new)
      (λ i x y ne. ap (λ (z : Pointer). apart z (pointer_at p i)) (sym (ap pointer_of (pointer_stays m h.last))) ∙ apart_two kinds b p k m i h.one h.last x y (λ e. ne (sym e)))
      (rw count_stays (names alone))

-- what a page becomes by a change of its slot m
pub record Changed (kinds : List Kind) (b : ℕ) (p q : List ℕ) (m : ℕ) (w : Version) : Type 0 where
  pub view : view_of q ≡ set (view_of p) (m - 1) (holds w)
  pub keeps : Keeps kinds b q
  pub long : length q ≡ 8192
  pub count : count_of q ≡ count_of p

pub changed : (kinds : List Kind) (b : ℕ) (p : List ℕ) (f : Version → Version) (m : ℕ) (u : Version) → length p ≡ 8192 → Keeps kinds b p
    → slot_at (view_of p) m ≡ holds u → Replaces u (f u) → NamesAlone b (view_of p) m (holds (f u)) → Changed kinds b p (change_version f p m) m (f u)
changed kinds b p f m u len k e r alone =
    let h = held p m u e in
    let old : VersionKeeps kinds p h.offset h.len = rw h.pointer at (keeps_version kinds b p k m h.one h.last) in
    let is : change_version f p m ≡ rewrite p h.offset (encoded (f u))
    = ap (change_at f p) h.pointer
    ∙ cond-true (leb (h.offset + 24) 8192) (rewrite p h.offset (encoded (f (decoded (header_at p h.offset) (row_of p h.offset h.len))))) p
    (le-leb (h.offset + 24) 8192 (omega (arith, old.lies.ends, old.lies.holds_kind)))
    ∙ ap (λ (x : Version). rewrite p h.offset (encoded (f x))) (sym h.is) in
    record {
      view = ap view_of is ∙ change_view kinds b p len k m u (f u) h r;
      keeps = rw is (change_keeps kinds b p len k m u (f u) h r alone);
      long = ap length is ∙ change_long kinds b p len k m u (f u) h r;
      count = ap count_of is ∙ change_count kinds b p len k m u (f u) h r;
    }
