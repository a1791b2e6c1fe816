-- A version is put on a page of a heap: it gets an unused slot, and no other slot changes.
use Rattle.std.proofs.Common.{◌≡◌, ℕ, zero, suc, ◌+◌, ◌-◌, ◌<◌, ◌≤◌, true, false, ◌&&◌, eqb, leb, List, [], ◌∷◌, ◌++◌, length, get_or, set, sym, refl, ap, ◌∙◌, ⊎_elim, arith}
use Rattle.std.proofs.lemmas.List.{get_or_push, get_or_append_left, get_or_past, length_push}
use Rattle.std.proofs.lemmas.Bool.{and_parts, cases_Bool, cases_eq, cases_lt, cond-false, cond-true, eqb-true, le-leb, lt-leb}
use Rattle.page.specs.Kinds.{row_fits}
use Rattle.page.specs.Slots.{Version, Slot, slot_no, slot_at, view_of}
use Rattle.page.specs.Slots.Slot.{unused, dead, redirect, holds}
use Rattle.page.specs.declared.kinds.Kind.{Kind}
use Rattle.page.specs.declared.versions.Address.{Address}
use Rattle.page_laws.specs.Keeps.{Keeps}
use Rattle.page_laws.proofs.Facts.{lawful_tells, lawful_from}
use Rattle.page_laws.proofs.Views.{slot_at_one, view_at, view_length}
use Rattle.page_room.specs.Room.{free_pointer, takes}
use Rattle.page_write.specs.Fields.{encoded, is_heap_only_update, new_version}
use Rattle.page_write.specs.Placing.{place_of, lower_after, put_version}
use Rattle.page_write.specs.declared.fields.Origin.{Origin}
use Rattle.page_write_laws.specs.Slots.{awaits, put_slot, NoneAwaits}
use Rattle.page_write_laws.proofs.Putting.{SpotOn, takes_spot, put_long}
use Rattle.page_write_laws.proofs.PutLaw.{New, free_slot_lem, row_keeps, put_view, put_keeps}
use Rattle.heap_read.specs.Reading.{address_in}
use Rattle.history.specs.Archive.{page_at, slot_in}
use Rattle.history.specs.Granted.{fresh_in, put_in}
use Rattle.history.proofs.Effects.{Puts}
use Rattle.history.proofs.Addresses.{address}
use Rattle.history.proofs.Heap.{set_here, set_beside, slot_same, slot_other, sound_set}
use Rattle.history.proofs.Invariant.{Sound}

-- A slot of a list replaced, or one added.

module _ (ss : List Slot) (n : ℕ) (s : Slot) (one : 1 ≤ n) (last : n ≤ length ss + 1) where
  put_set : n ≤ length ss → put_slot ss n s ≡ set ss (n - 1) s
  put_set l = cond-true (leb n (length ss)) (set ss (n - 1) s) (ss ++ s ∷ []) (le-leb n (length ss) l)

  put_push : length ss < n → put_slot ss n s ≡ ss ++ s ∷ []
  put_push l = cond-false (leb n (length ss)) (set ss (n - 1) s) (ss ++ s ∷ []) (lt-leb n (length ss) l)

  pushed : length ss < n → (m : ℕ) → (suc m ≡ n → ⊥) → get_or (ss ++ s ∷ []) m unused ≡ get_or ss m unused
  pushed l m ne =
      ⊎_elim
      (λ (z : m < length ss). get_or_append_left ss (s ∷ []) unused m z)
      (λ (z : length ss ≤ m).
      let more : length ss < m = ⊎_elim (λ (e : m ≡ length ss). absurd (ne (omega arith))) (λ (e : m ≡ length ss → ⊥). omega arith) (cases_eq m (length ss)) in
      get_or_past (ss ++ s ∷ []) m unused (omega (arith, length_push ss s)) ∙ sym (get_or_past ss m unused z))
      (cases_lt m (length ss))

  put_here : slot_at (put_slot ss n s) n ≡ s
  put_here =
      ⊎_elim
      (λ (l : length ss < n).
      let e : n ≡ length ss + 1 = omega arith in
      ap (λ (xs : List Slot). slot_at xs n) (put_push l) ∙ ap (slot_at (ss ++ s ∷ [])) e ∙ slot_at_one (ss ++ s ∷ []) (length ss) ∙ get_or_push ss s unused (length ss) refl)
      (λ (l : n ≤ length ss). ap (λ (xs : List Slot). slot_at xs n) (put_set l) ∙ set_here ss n s one l)
      (cases_lt (length ss) n)

  put_beside : (m : ℕ) → (m ≡ n → ⊥) → slot_at (put_slot ss n s) m ≡ slot_at ss m
  put_beside zero ne = refl
  put_beside (suc m) ne =
      ⊎_elim
      (λ (l : length ss < n). ap (λ (xs : List Slot). slot_at xs (suc m)) (put_push l) ∙ pushed l m ne)
      (λ (l : n ≤ length ss). ap (λ (xs : List Slot). slot_at xs (suc m)) (put_set l) ∙ set_beside ss n s one (suc m) ne)
      (cases_lt (length ss) n)

-- none awaits an address where no HOT-updated version names it with its creator
none_awaits : (b n t : ℕ) (s : Slot) → ((u : Version) → s ≡ holds u → u.hot_updated ≡ true → u.ctid ≡ address_in b n → u.remover ≡ t → ⊥) → awaits b n t s ≡ false
none_awaits b n t unused h = refl
none_awaits b n t dead h = refl
none_awaits b n t (redirect to) h = refl
none_awaits b n t (holds u) h =
    let hot = u.hot_updated in
    let block = eqb u.ctid.block b in
    let pointer = eqb u.ctid.pointer n in
    let by = eqb u.remover t in
    ⊎_elim
    (λ (e : (hot && block && pointer && by) ≡ true).
    let last = and_parts (hot && block && pointer) by e in
    let third = and_parts (hot && block) pointer last.0 in
    let two = and_parts hot block third.0 in
    absurd (h u refl two.0
    (address u.ctid (address_in b n) (eqb-true u.ctid.block b two.1) (eqb-true u.ctid.pointer n third.1))
    (eqb-true u.remover t last.1)))
    (λ (e : (hot && block && pointer && by) ≡ false). e)
    (cases_Bool (hot && block && pointer && by))

module _ (kinds : List Kind) (pages : List (List ℕ)) (h : Sound kinds pages) (b : ℕ) (in_heap_lem : b < length pages) (x : ℕ) (three : 3 ≤ x) (small : x < 4294967296)
    (o : Origin) (row : List ℕ) (fits : row_fits kinds row ≡ true) (room : takes 0 (page_at pages b) (24 + length row) ≡ true) where
  abbrev p : List ℕ
  p = page_at pages b

  abbrev n : ℕ
  n = free_pointer p

  abbrev w : Version
  w = new_version x (fresh_in pages b) o row

  abbrev q : List ℕ
  q = put_version p w

  len : length p ≡ 8192
  len = h.long b in_heap_lem

  keeps : Keeps kinds b p
  keeps = lawful_tells kinds b p (h.lawful b in_heap_lem)

  at : SpotOn p row
  at = takes_spot p 0 row keeps.header room

  new : New w
  new = record {
    creator = small;
    number = three;
    remover = refl;
    block = omega (arith, h.few_pages);
    pointer = omega (arith, at.next, keeps.header.pointer_limit);
    not_committed = refl;
    invalid = refl;
    cold = refl;
  }

  view : view_of q ≡ put_slot (view_of p) n (holds w)
  view = put_view kinds b p w len keeps at (row_keeps kinds row fits) new

  last : n ≤ length (view_of p) + 1
  last = omega (arith, at.next, view_length p)

  slot_here : slot_no q n ≡ holds w
  slot_here = sym (view_at q n) ∙ ap (λ (ss : List Slot). slot_at ss n) view ∙ put_here (view_of p) n (holds w) at.first last

  slot_beside : (m : ℕ) → (m ≡ n → ⊥) → slot_no q m ≡ slot_no p m
  slot_beside m ne = sym (view_at q m) ∙ ap (λ (ss : List Slot). slot_at ss m) view ∙ put_beside (view_of p) n (holds w) at.first last m ne ∙ view_at p m

  -- a heap-only version wants that no HOT-updated version names its slot with its creator
  pub put_effect : (is_heap_only_update o ≡ true
      → (c : Address) (u : Version) → slot_in pages c ≡ holds u → u.hot_updated ≡ true → u.ctid ≡ fresh_in pages b → u.remover ≡ x → ⊥)
      → Puts (slot_in pages) (slot_in (put_in pages b x o row)) (fresh_in pages b) (new_version x (fresh_in pages b) o row) × Sound kinds (put_in pages b x o row)
  put_effect wait =
      let none : is_heap_only_update o ≡ true → NoneAwaits b n x (view_of p)
      = λ e k l m. none_awaits b n x (slot_at (view_of p) k) (λ u is. wait e (address_in b k) u (sym (view_at p k) ∙ is)) in (
        record {
          was = free_slot_lem p;
          here = slot_same pages b q in_heap_lem (fresh_in pages b) refl ∙ slot_here;
          others = λ a ne. ⊎_elim
              (λ (e : a.block ≡ b).
              slot_same pages b q in_heap_lem a e
              ∙ slot_beside a.pointer (λ f. ne (address a (fresh_in pages b) e f))
              ∙ ap (λ (k : ℕ). slot_no (page_at pages k) a.pointer) (sym e))
              (λ (e : a.block ≡ b → ⊥). slot_other pages b q a e)
              (cases_eq a.block b);
        },
        sound_set pages b q kinds h (put_long p (place_of p (24 + length row)) (lower_after p) n (encoded w) row len at)
            (lawful_from kinds b q (put_keeps kinds b p w len keeps at (row_keeps kinds row fits) new none)),
      )
