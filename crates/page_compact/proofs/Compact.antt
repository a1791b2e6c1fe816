-- The page after its versions were laid anew.
use Rattle.std.proofs.Common.{◌≡◌, ℕ, ◌+◌, ◌-◌, ◌*◌, ◌/◌, ◌%◌, ◌<◌, ◌≤◌, min, true, leb, ◌⊎◌, List, length, get_or, is_some, sym, refl, ap, ◌∙◌, inl, inr, ⊎_elim, arith}
use Rattle.std.specs.List.{between}
use Rattle.std.proofs.lemmas.List.{ext_get_or}
use Rattle.std.proofs.lemmas.List.Edits.{length-between, get_or-between}
use Rattle.std.proofs.lemmas.Bool.{cases_lt, le-leb, or_left}
use Rattle.page.specs.Bytes.{get16, get32}
use Rattle.page.specs.Kinds.{body_len, fits}
use Rattle.page.specs.Headers.{header_of, count_of}
use Rattle.page.specs.LinePointers.{line_pointer_of, line_pointer_at, pointer_of, pointer_at, state_of, meaning_of, word_at, word_of}
use Rattle.page.specs.Versions.{header_at, row_of}
use Rattle.page.specs.Slots.{slot_of, slot_no, view_of, decoded}
use Rattle.page.specs.Slots.Slot.{unused, holds}
use Rattle.page.specs.declared.kinds.Kind.{Kind}
use Rattle.page.specs.declared.line_pointers.State.{State}
use Rattle.page.specs.declared.line_pointers.State.TheVariants as state
use Rattle.page.specs.declared.line_pointers.LinePointer.{LinePointer}
use Rattle.page.specs.declared.line_pointers.Pointer.{Pointer}
use Rattle.page.specs.declared.line_pointers.Pointer.TheVariants.{Unused, Normal, Redirect, Dead}
use Rattle.page.specs.declared.versions.VersionHeader.{VersionHeader}
use Rattle.page_check.specs.All.{all_of}
use Rattle.page_check.specs.Rules.{apart, version_holds, version_rules}
use Rattle.page_check.specs.Lawful.{own_holds}
use Rattle.page_check.specs.Marking.{LiesIn}
use Rattle.page_check.proofs.Slots.{slot_no_in, slot_no_past}
use Rattle.page_laws.specs.Keeps.{HeaderKeeps}
use Rattle.page_laws.specs.Windows.{Same}
use Rattle.page_laws.proofs.Windows.{same_put16, get16_same, get32_same, get16-put16, length-put16}
use Rattle.page_laws.proofs.Own.{VersionKeeps, OwnKeeps, own_tells, own_from}
use Rattle.page_laws.proofs.Views.{view_get, view_length}
use Rattle.page_room.specs.Room.{up8}
use Rattle.page_compact.specs.Compaction.{size_of, top_to, laid_to, compacted}
use Rattle.page_compact.specs.Laws.{Padded}
use Rattle.page_compact.proofs.Sound.{Sound, lower_above, lies_at}
use Rattle.page_compact.proofs.Tops.{top_high, top_low, top_step, top_aligned, top_order}
use Rattle.page_compact.proofs.Lay.{Laid, laid_all, moved, BodyOf, body_over, floor}

-- The pointer of a version that was laid at t.

abbrev moved_to : ℕ → Pointer → Pointer
moved_to t Unused = Unused
moved_to t (Normal o l) = Normal t l
moved_to t (Redirect r) = Redirect r
moved_to t Dead = Dead

abbrev line_of : ℕ → State → ℕ → LinePointer
line_of o s n = record { offset = o; state = s; len = n }

normal_reads : (t l : ℕ) → t < 32768 → l < 32768 → line_pointer_of (word_of (Normal t l)) ≡ line_of t state.Normal l
normal_reads t l a b =
    let d : (t % 32768 + 32768 + l % 32768 * 131072) / 32768 ≡ 1 + 4 * l = omega arith in
    let e0 : (t % 32768 + 32768 + l % 32768 * 131072) / 32768 % 4 ≡ 1 = omega arith in
    let e1 : (t % 32768 + 32768 + l % 32768 * 131072) % 32768 ≡ t = omega arith in
    let e2 : (t % 32768 + 32768 + l % 32768 * 131072) / 131072 ≡ l = omega arith in
    let e3 : state_of ((t % 32768 + 32768 + l % 32768 * 131072) / 32768) ≡ state.Normal = rw e0 in cc

moved_reads : (w t : ℕ) (x : Pointer) → pointer_of (line_pointer_of w) ≡ x → LiesIn x → t < 32768 → pointer_of (line_pointer_of (moved w t x)) ≡ moved_to t x
moved_reads w t Unused e l h = e
moved_reads w t (Redirect r) e l h = e
moved_reads w t Dead e l h = e
moved_reads w t (Normal o n) e l h = let a = l.ends in ap pointer_of (normal_reads t n h (omega arith))

-- The same bytes at another place.

abbrev Shift : List ℕ → List ℕ → ℕ → ℕ → ℕ → Type 0
Shift q p t o l = (x : ℕ) → x < l → get_or q (t + x) 0 ≡ get_or p (o + x) 0

shift_at : (q p : List ℕ) (t o l i j x : ℕ) → Shift q p t o l → x < l → i ≡ t + x → j ≡ o + x → get_or q i 0 ≡ get_or p j 0
shift_at q p t o l i j x s h a b = ap (λ (k : ℕ). get_or q k 0) a ∙ s x h ∙ ap (λ (k : ℕ). get_or p k 0) (sym b)

shift16 : (q p : List ℕ) (t o l i j x : ℕ) → Shift q p t o l → x + 2 ≤ l → i ≡ t + x → j ≡ o + x → get16 q i ≡ get16 p j
shift16 q p t o l i j x s h a b =
    let e = shift_at q p t o l i j x s (omega arith) a b in
    let f = shift_at q p t o l (i + 1) (j + 1) (x + 1) s (omega arith) (omega arith) (omega arith) in omega arith

shift32 : (q p : List ℕ) (t o l i j x : ℕ) → Shift q p t o l → x + 4 ≤ l → i ≡ t + x → j ≡ o + x → get32 q i ≡ get32 p j
shift32 q p t o l i j x s h a b =
    let e = shift_at q p t o l i j x s (omega arith) a b in
    let f = shift_at q p t o l (i + 1) (j + 1) (x + 1) s (omega arith) (omega arith) (omega arith) in
    let g = shift_at q p t o l (i + 2) (j + 2) (x + 2) s (omega arith) (omega arith) (omega arith) in
    let m = shift_at q p t o l (i + 3) (j + 3) (x + 3) s (omega arith) (omega arith) (omega arith) in omega arith

shift_header : (q p : List ℕ) (t o l : ℕ) → Shift q p t o l → 24 ≤ l → header_at q t ≡ header_at p o
shift_header q p t o l s h =
    let a = shift32 q p t o l t o 0 s (omega arith) (omega arith) (omega arith) in
    let b = shift32 q p t o l (t + 4) (o + 4) 4 s (omega arith) (omega arith) (omega arith) in
    let x = shift32 q p t o l (t + 8) (o + 8) 8 s (omega arith) (omega arith) (omega arith) in
    let c = shift16 q p t o l (t + 12) (o + 12) 12 s (omega arith) (omega arith) (omega arith) in
    let d = shift16 q p t o l (t + 14) (o + 14) 14 s (omega arith) (omega arith) (omega arith) in
    let e = shift16 q p t o l (t + 16) (o + 16) 16 s (omega arith) (omega arith) (omega arith) in
    let f = shift16 q p t o l (t + 18) (o + 18) 18 s (omega arith) (omega arith) (omega arith) in
    let g = shift16 q p t o l (t + 20) (o + 20) 20 s (omega arith) (omega arith) (omega arith) in
    let i = shift_at q p t o l (t + 22) (o + 22) 22 s (omega arith) (omega arith) (omega arith) in
    let j = shift_at q p t o l (t + 23) (o + 23) 23 s (omega arith) (omega arith) (omega arith) in cc

shift_row : (q p : List ℕ) (t o l : ℕ) → Shift q p t o l → 24 ≤ l → length q ≡ 8192 → length p ≡ 8192 → t + l ≤ 8192 → o + l ≤ 8192
    → row_of q t l ≡ row_of p o l
shift_row q p t o l s h lq lp a b =
    let x1 = length-between q (t + 24) (t + l) (omega arith) in
    let x2 = length-between p (o + 24) (o + l) (omega arith) in
    ext_get_or 0 (between (t + 24) (t + l) q) (between (o + 24) (o + l) p) (omega arith)
    (λ i m.
    get_or-between q (t + 24) (t + l) i 0 (omega arith)
    ∙ shift_at q p t o l (t + 24 + i) (o + 24 + i) (24 + i) s (omega arith) (omega arith) (omega arith)
    ∙ sym (get_or-between p (o + 24) (o + l) i 0 (omega arith)))

slot_moved : (q p : List ℕ) (t : ℕ) (x : Pointer) → length q ≡ 8192 → length p ≡ 8192 → LiesIn x → t + size_of x ≤ 8192 → BodyOf q p t x → slot_of q (moved_to t x) ≡ slot_of p x
slot_moved q p t Unused lq lp l h b = refl
slot_moved q p t (Redirect r) lq lp l h b = refl
slot_moved q p t Dead lq lp l h b = refl
slot_moved q p t (Normal o n) lq lp l h b =
    let l1 = l.ends in let l2 = l.holds_kind in
    ap (λ (v : VersionHeader). holds (decoded v (row_of q t n))) (shift_header q p t o n b.0 (omega arith))
    ∙ ap (λ (r : List ℕ). holds (decoded (header_at p o) r)) (shift_row q p t o n b.0 (omega arith) lq lp (omega arith) l1)

version_moved : (kinds : List Kind) (q p : List ℕ) (t o n : ℕ) → t % 8 ≡ 0 → (header_of q).upper ≤ t → t + up8 n ≤ 8192 → Shift q p t o n → VersionKeeps kinds p o n → VersionKeeps kinds q t n
version_moved kinds q p t o n a d h s k =
    let full = k.lies.holds_kind in
    let e = shift_header q p t o n s (omega arith) in
    let f = s 24 (omega arith) in
    record {
      lies = record { aligned = a; ends = omega arith; holds_kind = full };
      above = d;
      known = ap (λ (x : ℕ). is_some (body_len kinds x)) f ∙ k.known;
      row = ap (λ (x : ℕ). fits (body_len kinds x) (n - 25)) f ∙ k.row;
      head = ap (λ (v : VersionHeader). all_of (version_holds v) (version_rules state.Normal)) e ∙ k.head;
    }

-- the rules of the pointer of the word w, by its state
own_moved : (kinds : List Kind) (q p : List ℕ) (w t : ℕ) (s : State) → (line_pointer_of w).state ≡ s → t % 8 ≡ 0 → (header_of q).upper ≤ t
    → t + size_of (meaning_of s (w % 32768) (w / 131072)) ≤ 8192 → BodyOf q p t (meaning_of s (w % 32768) (w / 131072)) → OwnKeeps kinds p s (w % 32768) (w / 131072)
    → own_holds kinds q (line_pointer_of (moved w t (meaning_of s (w % 32768) (w / 131072)))) ≡ true
own_moved kinds q p w t state.Unused e a d h b k = own_from kinds q (line_pointer_of w) state.Unused e k
own_moved kinds q p w t state.Redirect e a d h b k = own_from kinds q (line_pointer_of w) state.Redirect e k
own_moved kinds q p w t state.Dead e a d h b k = own_from kinds q (line_pointer_of w) state.Dead e k
own_moved kinds q p w t state.Normal e a d h b k =
    let l = k.lies.ends in let full = k.lies.holds_kind in
    ap (own_holds kinds q) (normal_reads t (w / 131072) (omega arith) (omega arith))
    ∙ own_from kinds q (line_of t state.Normal (w / 131072)) state.Normal refl (version_moved kinds q p t (w % 32768) (w / 131072) a d h b.0 k)

apart_moved : (t u : ℕ) (x y : Pointer) → t % 8 ≡ 0 → t + size_of x ≤ u → apart (moved_to t x) (moved_to u y) ≡ true
apart_moved t u Unused y a h = refl
apart_moved t u (Redirect r) y a h = refl
apart_moved t u Dead y a h = refl
apart_moved t u (Normal o n) Unused a h = refl
apart_moved t u (Normal o n) (Redirect r) a h = refl
apart_moved t u (Normal o n) Dead a h = refl
apart_moved t u (Normal o n) (Normal o' n') a h = or_left (leb ((t + n + 7) / 8 * 8) u) (leb ((u + n' + 7) / 8 * 8) t) (le-leb ((t + n + 7) / 8 * 8) u (omega arith))

padded : (q p : List ℕ) (t : ℕ) (x : Pointer) → BodyOf q p t x → Padded q (moved_to t x)
padded q p t Unused b = tt
padded q p t (Redirect r) b = tt
padded q p t Dead b = tt
padded q p t (Normal o n) b = b.1

module _ (kinds : List Kind) (p : List ℕ) (lp : length p ≡ 8192) (s : Sound kinds p) where
  all : Laid p (laid_to p (count_of p)) (count_of p)
  all = laid_all kinds p lp s (count_of p) (omega arith)

  least : (header_of p).upper ≤ top_to p (count_of p)
  least = top_high kinds p s (count_of p) (omega arith)

  pub compacted_long : length (compacted p) ≡ 8192
  compacted_long = length-put16 (laid_to p (count_of p)) 14 (top_to p (count_of p)) ∙ all.long

  over : (a e : ℕ) → (e ≤ 14) ⊎ (16 ≤ a) → Same a e (compacted p) (laid_to p (count_of p))
  over a e out = same_put16 (laid_to p (count_of p)) 14 (top_to p (count_of p)) a e (⊎_elim (λ x. inl x) (λ x. inr (omega arith)) out)

  pub head_same : Same 0 14 (compacted p) p × Same 16 24 (compacted p) p
  head_same = (
    λ k a b. over 0 14 (inl (omega arith)) k a b ∙ all.head k (omega arith) (omega arith),
    λ k a b. over 16 24 (inr (omega arith)) k a b ∙ all.head k (omega arith) (omega arith),
  )

  low16 : (i : ℕ) → i + 2 ≤ 14 → get16 (compacted p) i ≡ get16 p i
  low16 i h = get16_same (compacted p) p i (λ k a b. head_same.0 k (omega arith) (omega arith))

  high16 : (i : ℕ) → 16 ≤ i → i + 2 ≤ 24 → get16 (compacted p) i ≡ get16 p i
  high16 i g h = get16_same (compacted p) p i (λ k a b. head_same.1 k (omega arith) (omega arith))

  pub upper_after : (header_of (compacted p)).upper ≡ top_to p (count_of p)
  upper_after = let a = all.long in let b = top_low p (count_of p) in get16-put16 (laid_to p (count_of p)) 14 (top_to p (count_of p)) (omega arith) (omega arith)

  pub lower_after_lem : (header_of (compacted p)).lower ≡ (header_of p).lower
  lower_after_lem = low16 12 (omega arith)

  pub count_same : count_of (compacted p) ≡ count_of p
  count_same = ap (λ (x : ℕ). (min x 8192 - 24) / 4) lower_after_lem

  header_after : HeaderKeeps (header_of (compacted p))
  header_after =
      let h = s.header in
      let l = lower_after_lem in let u = upper_after in let a = least in let b = top_low p (count_of p) in
      let o = h.lower_by_upper in let g = h.lower_past_header in let w = h.whole_pointers in
      record {
        special_at_end = high16 16 (omega arith) (omega arith) ∙ h.special_at_end;
        layout_version = high16 18 (omega arith) (omega arith) ∙ h.layout_version;
        no_flags = low16 10 (omega arith) ∙ h.no_flags;
        lower_past_header = omega arith;
        lower_by_upper = omega arith;
        upper_in_page = omega arith;
        whole_pointers = ap (λ (x : ℕ). (x - 24) % 4) l ∙ w;
        upper_aligned = ap (λ (x : ℕ). x % 8) u ∙ top_aligned kinds p s (count_of p) (omega arith);
        pointer_limit = let e = count_same in let f = h.pointer_limit in omega arith;
      }

  word_after : (k : ℕ) → k < count_of p → word_at (compacted p) (k + 1) ≡ moved (word_at p (k + 1)) (top_to p (k + 1)) (pointer_at p (k + 1))
  word_after k l =
      get32_same (compacted p) (laid_to p (count_of p)) (20 + 4 * (k + 1)) (over (20 + 4 * (k + 1)) (20 + 4 * (k + 1) + 4) (inr (omega arith))) ∙ all.done k l

  pointer_after : (k : ℕ) → k < count_of p → pointer_at (compacted p) (k + 1) ≡ moved_to (top_to p (k + 1)) (pointer_at p (k + 1))
  pointer_after k l =
      let b = top_low p (k + 1) in
      ap (λ (w : ℕ). pointer_of (line_pointer_of w)) (word_after k l) ∙ moved_reads (word_at p (k + 1)) (top_to p (k + 1)) (pointer_at p (k + 1)) refl (lies_at kinds p s k l) (omega arith)

  body_after : (k : ℕ) → k < count_of p → BodyOf (compacted p) p (top_to p (k + 1)) (pointer_at p (k + 1))
  body_after k l =
      let h1 = lower_above kinds p s k l in let f = floor kinds p lp s (k + 1) (omega arith) in
      body_over (laid_to p (count_of p)) (compacted p) p (top_to p (k + 1)) (pointer_at p (k + 1)) (all.body k l)
      (λ j h. over j (j + 1) (inr (omega arith)) j (omega arith) (omega arith))

  fits_in : (k : ℕ) → k < count_of p → top_to p (k + 1) + size_of (pointer_at p (k + 1)) ≤ 8192
  fits_in k l = let a = top_step kinds p s k l in let b = top_low p k in omega arith

  slot_after_lem : (t : ℕ) → slot_no (compacted p) (t + 1) ≡ slot_no p (t + 1)
  slot_after_lem k =
      let ct = count_same in
      ⊎_elim
      (λ (l : k < count_of p).
      slot_no_in (compacted p) (k + 1) (omega arith) (omega arith)
      ∙ ap (slot_of (compacted p)) (pointer_after k l)
      ∙ slot_moved (compacted p) p (top_to p (k + 1)) (pointer_at p (k + 1)) compacted_long lp (lies_at kinds p s k l) (fits_in k l) (body_after k l)
      ∙ sym (slot_no_in p (k + 1) (omega arith) (omega arith)))
      (λ (l : count_of p ≤ k). slot_no_past (compacted p) (k + 1) (omega arith) ∙ sym (slot_no_past p (k + 1) (omega arith)))
      (cases_lt k (count_of p))

  pub compact_view : view_of (compacted p) ≡ view_of p
  compact_view =
      ext_get_or unused (view_of (compacted p)) (view_of p) (view_length (compacted p) ∙ count_same ∙ sym (view_length p))
      (λ k h. view_get (compacted p) k ∙ slot_after_lem k ∙ sym (view_get p k))

  own_after : (k : ℕ) → k < count_of p → own_holds kinds (compacted p) (line_pointer_at (compacted p) (k + 1)) ≡ true
  own_after k l =
      let o = top_order kinds p s (k + 1) (count_of p) (omega arith) (omega arith) in let u = upper_after in
      ap (λ (w : ℕ). own_holds kinds (compacted p) (line_pointer_of w)) (word_after k l)
      ∙ own_moved kinds (compacted p) p (word_at p (k + 1)) (top_to p (k + 1)) (line_pointer_at p (k + 1)).state refl (top_aligned kinds p s (k + 1) (omega arith)) (omega arith)
      (fits_in k l) (body_after k l) (own_tells kinds p (line_pointer_at p (k + 1)) (line_pointer_at p (k + 1)).state refl (s.own (k + 1) (omega arith) (omega arith)))

  apart_after : (k j : ℕ) → j < k → k < count_of p → apart (pointer_at (compacted p) (k + 1)) (pointer_at (compacted p) (j + 1)) ≡ true
  apart_after k j m l =
      let a = top_step kinds p s k l in let b = top_order kinds p s (j + 1) k (omega arith) (omega arith) in
      ap (λ (x : Pointer). apart x (pointer_at (compacted p) (j + 1))) (pointer_after k l)
      ∙ ap (apart (moved_to (top_to p (k + 1)) (pointer_at p (k + 1)))) (pointer_after j (omega arith))
      ∙ apart_moved (top_to p (k + 1)) (top_to p (j + 1)) (pointer_at p (k + 1)) (pointer_at p (j + 1)) (top_aligned kinds p s (k + 1) (omega arith)) (omega arith)

  pub compact_sound : Sound kinds (compacted p)
  compact_sound = record {
    header = header_after;
    own = λ n a b. let ct = count_same in let e : (n - 1) + 1 ≡ n = omega arith in rw e at (own_after (n - 1) (omega arith));
    no_overlap = λ n m a l b. let ct = count_same in let e : (n - 1) + 1 ≡ n = omega arith in let f : (m - 1) + 1 ≡ m = omega arith in
        rw f at (rw e at (apart_after (n - 1) (m - 1) (omega arith) (omega arith)));
  }

  pub room_after : (k : ℕ) → (header_of (compacted p)).lower ≤ k → k < (header_of (compacted p)).upper → get_or (compacted p) k 0 ≡ 0
  room_after k a b =
      let l = lower_after_lem in let u = upper_after in let g = s.header.lower_past_header in
      over k (k + 1) (inr (omega arith)) k (omega arith) (omega arith) ∙ all.free k (omega arith) (omega arith)

  pub padding_after : (n : ℕ) → 1 ≤ n → n ≤ count_of (compacted p) → Padded (compacted p) (pointer_at (compacted p) n)
  padding_after n a b =
      let ct = count_same in let e : (n - 1) + 1 ≡ n = omega arith in let l : n - 1 < count_of p = omega arith in
      rw e at (at_index (n - 1) l)
    where
      at_index : (k : ℕ) → k < count_of p → Padded (compacted p) (pointer_at (compacted p) (k + 1))
      at_index k l = rw (pointer_after k l) (padded (compacted p) p (top_to p (k + 1)) (pointer_at p (k + 1)) (body_after k l))
