-- A version that is asked for by its pointer is that of its slot, and a source that means the same says the same of it.
use Rattle.std.proofs.Common.{◌≡◌, ℕ, zero, suc, ◌+◌, ◌<◌, ◌≤◌, Bool, true, false, ◌⊎◌, List, [], is_le, is_lt, nat_cmp, sym, refl, ap, ◌∙◌, inl, inr, ⊎_elim, arith}
use Rattle.std.proofs.lemmas.Bool.Decides.{nat_tests}
use Rattle.std.specs.declared.ops.Range.{Range}
use Rattle.page.specs.Headers.{count_of}
use Rattle.page.specs.LinePointers.{pointer_at}
use Rattle.page.specs.Slots.{slot_of, slot_no}
use Rattle.page.specs.Slots.Slot.{unused}
use Rattle.page_check.proofs.Slots.{slot_no_in, slot_no_past}
use Rattle.xid.specs.Meaning.{Meaning}
use Rattle.snapshot.specs.Snapshots.{SnapshotData}
use Rattle.heap_read.specs.Reading.{visible_slot}

pub shown : (m n : Meaning) (s : SnapshotData) (p : List ℕ) (i : ℕ) (r : Bool) → n ≡ m → 1 ≤ i → i ≤ count_of p
    → r ≡ visible_slot n.status s (slot_of p (pointer_at p i)) → r ≡ visible_slot m.status s (slot_no p i)
shown m n s p i r e a b h =
    h ∙ ap (λ (x : Meaning). visible_slot x.status s (slot_of p (pointer_at p i))) e ∙ ap (visible_slot m.status s) (sym (slot_no_in p i a b))

-- what it says that the numbers of a page contain n
module _ (p : List ℕ) (n : ℕ) (r : Range ℕ) (numbers : r ≡ record { start = 1; end = count_of p + 1 }) where
  pub number_in : (is_le (nat_cmp r.start n) ≡ true) × (is_lt (nat_cmp n r.end) ≡ true) → (1 ≤ n) × (n ≤ count_of p)
  number_in h = (grind (arith, nat_tests), grind (arith, nat_tests))

  pub number_out : (is_le (nat_cmp r.start n) ≡ false) ⊎ (is_lt (nat_cmp n r.end) ≡ false) → (n ≡ 0) ⊎ (count_of p < n)
  number_out (inl h) = inl (grind (arith, nat_tests))
  number_out (inr h) = inr (grind (arith, nat_tests))

  pub slot_out : (is_le (nat_cmp r.start n) ≡ false) ⊎ (is_lt (nat_cmp n r.end) ≡ false) → slot_no p n ≡ unused
  slot_out h =
      ⊎_elim (λ (z : n ≡ 0). ap (slot_no p) z) (λ (l : count_of p < n). slot_no_past p n l) (number_out h)

-- where there is no page there is no version
pub slot_no_nowhere : (n : ℕ) → slot_no [] n ≡ unused
slot_no_nowhere zero = refl
slot_no_nowhere (suc n) = slot_no_past [] (suc n) (omega arith)
