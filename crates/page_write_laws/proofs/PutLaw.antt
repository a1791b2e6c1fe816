-- A new version on a lawful page.
use Rattle.std.proofs.Common.{◌≡◌, ℕ, suc, ◌+◌, ◌-◌, ◌*◌, ◌/◌, ◌<◌, ◌≤◌, max, Bool, true, false, ◌&&◌, ◌||◌, eqb, leb, ◌≢◌, List, [], ◌∷◌, ◌++◌, length, get_or, set, is_some, Some, None, Option, sym, refl, ap, ◌∙◌, ⊎_elim, arith}
use Rattle.std.proofs.lemmas.List.Edits.{get_or-between}
use Rattle.std.proofs.lemmas.Bool.{or_left, le-leb, lt-leb, both_ways, cases_lt, cases_eq, cond-true, cond-false}
use Rattle.page.specs.Headers.{header_of, count_of}
use Rattle.page.specs.Kinds.{body_len, fits, row_fits}
use Rattle.page.specs.LinePointers.{line_pointer_at, pointer_at}
use Rattle.page.specs.Slots.{Version, Slot, slot_of, slot_no, view_of, decoded}
use Rattle.page.specs.Slots.Slot.{unused, holds}
use Rattle.page.specs.Versions.{header_at, row_of}
use Rattle.page.specs.declared.kinds.Kind.{Kind}
use Rattle.page.specs.declared.line_pointers.State.TheVariants as state
use Rattle.page.specs.declared.line_pointers.Pointer.{Pointer}
use Rattle.page.specs.declared.line_pointers.Pointer.TheVariants.{Unused, Normal, Redirect, Dead}
use Rattle.page.specs.declared.versions.VersionHeader.{VersionHeader}
use Rattle.page_check.specs.All.{all_of}
use Rattle.page_check.specs.Rules.{apart, kind_at, version_holds, version_rules}
use Rattle.page_check.proofs.Slots.{slot_no_in, slot_no_past}
use Rattle.page_laws.specs.Keeps.{Keeps}
use Rattle.page_laws.specs.Windows.{Same, SameOf}
use Rattle.page_laws.proofs.Own.{VersionKeeps}
use Rattle.page_laws.proofs.Views.{view_get, view_length, view_fun, view_set, view_push}
use Rattle.page_room.specs.Room.{least_to, is_unused, free_pointer}
use Rattle.page_write.specs.Fields.{encoded}
use Rattle.page_write.specs.Placing.{place_of, lower_after, put_version}
use Rattle.page_write_laws.specs.Slots.{is_free, free_slot, put_slot, awaits, NoneAwaits}
use Rattle.page_room.proofs.Least.{least_hit, least_same}
use Rattle.page_write_laws.proofs.Names.{Names, names_grow, names_put}
use Rattle.page_write_laws.proofs.Beside.{Beside, VersionOf, keeps_version, keeps_names, slot_beside, keeps_beside}
use Rattle.page_write_laws.proofs.Changes.{own_normal}
use Rattle.page_write_laws.proofs.Encoded.{head_from, decoded_is, word_small, word2_small}
use Rattle.page_write_laws.proofs.Rewriting.{Small}
use Rattle.page_write_laws.proofs.Putting.{SpotOn, put_long, put_header, put_row, put_upper, put_count, put_head, put_pointer, pointer_stays, above_stays}

-- The lowest unused pointer is that of the lowest unused slot.

free_unused : (p : List ℕ) (x : Pointer) → is_unused x ≡ is_free (slot_of p x)
free_unused p Unused = refl
free_unused p (Normal o n) = refl
free_unused p (Redirect t) = refl
free_unused p Dead = refl

pub free_is : (p : List ℕ) → free_pointer p ≡ free_slot (view_of p)
free_is p =
    ap (λ (x : ℕ). x + 1)
    (least_same (λ k. is_unused (pointer_at p (k + 1))) (λ k. is_free (get_or (view_of p) k unused)) (count_of p)
    (λ k l. free_unused p (pointer_at p (k + 1)) ∙ ap is_free (sym (view_get p k ∙ slot_no_in p (k + 1) (omega arith) (omega arith))))
    ∙ ap (least_to (λ k. is_free (get_or (view_of p) k unused))) (sym (view_length p)))

unused_slot : (p : List ℕ) (x : Pointer) → is_unused x ≡ true → slot_of p x ≡ unused
unused_slot p Unused h = refl
unused_slot p (Normal o n) h = absurd (both_ways false refl h)
unused_slot p (Redirect t) h = absurd (both_ways false refl h)
unused_slot p Dead h = absurd (both_ways false refl h)

pub free_slot_lem : (p : List ℕ) → slot_no p (free_pointer p) ≡ unused
free_slot_lem p =
    ⊎_elim
    (λ (z : count_of p < free_pointer p). slot_no_past p (free_pointer p) z)
    (λ (z : free_pointer p ≤ count_of p).
    slot_no_in p (free_pointer p) (omega arith) z ∙ unused_slot p (pointer_at p (free_pointer p)) (least_hit (λ k. is_unused (pointer_at p (k + 1))) (count_of p) (omega arith)))
    (cases_lt (count_of p) (free_pointer p))

-- A row that fits its kind.

pub record RowKeeps (kinds : List Kind) (row : List ℕ) : Type 0 where
  pub kind : 1 ≤ length row
  pub known : is_some (body_len kinds (get_or row 0 0)) ≡ true
  pub body : fits (body_len kinds (get_or row 0 0)) (length row - 1) ≡ true

fits_some : (r : Option ℕ) (n : ℕ) → fits r n ≡ true → is_some r ≡ true
fits_some None n h = absurd (both_ways false refl h)
fits_some (Some m) n h = refl

pub row_keeps : (kinds : List Kind) (row : List ℕ) → row_fits kinds row ≡ true → RowKeeps kinds row
row_keeps kinds [] h = absurd (both_ways false refl h)
row_keeps kinds (k ∷ body) h =
    let e : suc (length body) - 1 ≡ length body = omega arith in
    record { kind = omega arith; known = fits_some (body_len kinds k) (length body) h; body = ap (fits (body_len kinds k)) e ∙ h }

-- versions that stand at upper and above are left, and the new one lies below them
above_same : (kinds : List Kind) (p q : List ℕ) (x : Pointer) → VersionOf kinds p x → ((a e : ℕ) → (header_of p).upper ≤ a → Same a e p q) → SameOf x p q
above_same kinds p q Unused v s = tt
above_same kinds p q (Normal o n) v s = s o (o + n) v.above
above_same kinds p q (Redirect t) v s = tt
above_same kinds p q Dead v s = tt

apart_below : (kinds : List Kind) (p : List ℕ) (o n : ℕ) (x : Pointer) → VersionOf kinds p x → (o + n + 7) / 8 * 8 ≤ (header_of p).upper → apart (Normal o n) x ≡ true
apart_below kinds p o n Unused v h = refl
apart_below kinds p o n (Normal o' n') v h =
    let a = v.above in or_left (leb ((o + n + 7) / 8 * 8) o') (leb ((o' + n' + 7) / 8 * 8) o) (le-leb ((o + n + 7) / 8 * 8) o' (omega arith))
apart_below kinds p o n (Redirect t) v h = refl
apart_below kinds p o n Dead v h = refl

-- a version that can be new on a page
pub record New (w : Version) : Type 0 where
  pub creator : w.creator < 4294967296
  pub number : 3 ≤ w.creator
  pub remover : w.remover ≡ 0
  pub block : w.ctid.block < 4294967296
  pub pointer : w.ctid.pointer < 65536
  pub not_committed : w.remover_committed ≡ false
  pub invalid : w.remover_invalid ≡ true
  pub cold : w.hot_updated ≡ false

module _ (kinds : List Kind) (b : ℕ) (p : List ℕ) (w : Version) (len : length p ≡ 8192) (k : Keeps kinds b p) (at : SpotOn p w.row)
    (row : RowKeeps kinds w.row) (new : New w) where
  abbrev o : ℕ
  o = place_of p (24 + length w.row)

  abbrev l : ℕ
  l = lower_after p

  abbrev i : ℕ
  i = free_pointer p

  abbrev v : VersionHeader
  v = encoded w

  abbrev q : List ℕ
  q = put_version p w

  count : count_of q ≡ max (count_of p) i
  count = put_count p o l i v w.row len at

  upper : (header_of q).upper ≡ o
  upper = put_upper p o l i v w.row len at

  pointer_here : pointer_at q i ≡ Normal o (24 + length w.row)
  pointer_here = put_pointer p o l i v w.row len at

  beside : Beside p q i
  beside = record {
    long = put_long p o l i v w.row len at;
    upper = omega (arith, upper, at.top);
    count = omega (arith, count);
    within = λ n x y ne. omega (arith, count, at.next);
    pointer = pointer_stays p o l i v w.row len at;
    version = λ n x y ne. above_same kinds p q (pointer_at p n) (keeps_version kinds b p k n x y) (above_stays p o l i v w.row len at);
  }

  rest : (n : ℕ) → n ≢ i → slot_no q n ≡ slot_no p n
  rest = slot_beside kinds b p q i len k beside

  small : Small v
  small = record {
    remover = omega (arith, new.remover);
    block = new.block;
    pointer = new.pointer;
    infomask2 = word2_small w.hot_updated w.heap_only;
    infomask = word_small w.creator_committed w.creator_invalid w.remover_committed w.remover_invalid w.updated;
  }

  header_here : header_at q o ≡ v
  header_here = put_header p o l i v w.row len at small new.creator (omega arith)

  row_here : row_of q o (24 + length w.row) ≡ w.row
  row_here = put_row p o l i v w.row len at

  slot_here : slot_no q i ≡ holds w
  slot_here =
      slot_no_in q i at.first (omega (arith, count))
      ∙ ap (slot_of q) pointer_here
      ∙ ap (λ (x : VersionHeader). holds (decoded x (row_of q o (24 + length w.row)))) header_here
      ∙ ap (λ (x : List ℕ). holds (decoded v x)) row_here
      ∙ ap holds (decoded_is v w (record { infomask = refl; infomask2 = refl }) w.row refl refl refl refl)

  kind_here : kind_at q o ≡ get_or w.row 0 0
  kind_here =
      ap (λ (x : ℕ). get_or q x 0) (omega arith)
      ∙ sym (get_or-between q (o + 24) (o + (24 + length w.row)) 0 0 (omega (arith, row.kind)))
      ∙ ap (λ (x : List ℕ). get_or x 0 0) row_here

  version_here : VersionKeeps kinds q o (24 + length w.row)
  version_here =
      let body : 24 + length w.row - 25 ≡ length w.row - 1 = omega arith in
      record {
        lies = record { aligned = at.aligned; ends = omega (arith, at.top, at.high, at.short); holds_kind = omega (arith, row.kind) };
        above = omega (arith, upper);
        known = ap (λ (x : ℕ). is_some (body_len kinds x)) kind_here ∙ row.known;
        row = ap (λ (x : ℕ). fits (body_len kinds x) (24 + length w.row - 25)) kind_here
            ∙ ap (fits (body_len kinds (get_or w.row 0 0))) body ∙ row.body;
        head = ap (λ (x : VersionHeader). all_of (version_holds x) (version_rules state.Normal)) header_here
            ∙ head_from v w (record { infomask = refl; infomask2 = refl }) refl refl new.number refl
            (ap (λ (x : Bool). x && w.remover_invalid) new.not_committed)
            (ap (λ (x : ℕ). leb 3 x || (eqb x 0 && w.remover_invalid)) new.remover ∙ new.invalid);
      }

  names : (w.heap_only ≡ true → (n : ℕ) → awaits b i w.creator (slot_no p n) ≡ false) → Names b (count_of q) (slot_no q)
  names wait =
      names_put b i (slot_no p) (slot_no q) w (free_slot_lem p) slot_here rest new.cold (count_of q)
      (names_grow b (count_of p) (count_of q) (slot_no p) (keeps_names kinds b p k) (slot_no_past p)) wait

  pub put_view : view_of q ≡ put_slot (view_of p) i (holds w)
  put_view =
      let first = at.first in let next = at.next in let long = view_length p in
      ⊎_elim
      (λ (z : count_of p < i).
      let e : count_of p + 1 ≡ i = omega arith in
      view_push p q (holds w) (omega (arith, count)) (ap (slot_no q) e ∙ slot_here) (λ n ne. rest (n + 1) (omega arith))
      ∙ sym (cond-false (leb i (length (view_of p))) (set (view_of p) (i - 1) (holds w)) (view_of p ++ holds w ∷ []) (lt-leb i (length (view_of p)) (omega arith))))
      (λ (z : i ≤ count_of p).
      let e : (i - 1) + 1 ≡ i = omega arith in
      view_set p q (i - 1) (holds w) (omega (arith, count)) (omega arith) (ap (slot_no q) e ∙ slot_here) (λ n ne. rest (n + 1) (omega arith))
      ∙ sym (cond-true (leb i (length (view_of p))) (set (view_of p) (i - 1) (holds w)) (view_of p ++ holds w ∷ []) (le-leb i (length (view_of p)) (omega arith))))
      (cases_lt (count_of p) i)

  pub put_keeps : (w.heap_only ≡ true → NoneAwaits b i w.creator (view_of p)) → Keeps kinds b q
  put_keeps wait =
      let long = view_length p in
      keeps_beside kinds b p q i len k beside (put_head p o l i v w.row len at k.header)
      (own_normal kinds q (line_pointer_at q i) o (24 + length w.row) pointer_here version_here)
      (λ n x y ne. ap (λ (z : Pointer). apart z (pointer_at p n)) pointer_here
      ∙ apart_below kinds p o (24 + length w.row) (pointer_at p n) (keeps_version kinds b p k n x y) (omega (arith, at.top, at.aligned)))
      (names (λ e n.
      ⊎_elim
      (λ (z : count_of p < n). ap (awaits b i w.creator) (slot_no_past p n z))
      (λ (z : n ≤ count_of p).
      ⊎_elim
      (λ (y : n ≡ 0). ap (λ (x : ℕ). awaits b i w.creator (slot_no p x)) y)
      (λ (y : n ≡ 0 → ⊥). sym (ap (λ (f : ℕ → Slot). awaits b i w.creator (f n)) (view_fun p)) ∙ wait e n (omega arith) (omega arith))
      (cases_eq n 0))
      (cases_lt (count_of p) n)))
