-- The unmarked numbers of every page lie in the source's window, and what a forget asks of pages.
use Rattle.std.proofs.Common.{◌≡◌, ℕ, ◌+◌, ◌-◌, true, false, List, [], length, get_or, sym, refl, ap, ◌∙◌, arith}
use Rattle.page.specs.Headers.{count_of}
use Rattle.page.specs.Slots.{Version, Slot, slot_no}
use Rattle.page.specs.Slots.Slot.{unused, dead, redirect, holds}
use Rattle.page.specs.declared.versions.Address.{Address}
use Rattle.page_check.proofs.All.{all_to_from, any_to_none}
use Rattle.page_laws.proofs.Facts.{each_from}
use Rattle.heap_checks.specs.Numbers.{slot_known, version_needs, slot_needs, page_needs, still_needed}
use Rattle.heap_read.specs.Reading.{address_in}
use Rattle.history.specs.Archive.{Archive, page_at, slot_in}
use Rattle.history.specs.Checks.{numbers_known, all_known}
use Rattle.history.specs.Ledger.{Ledger}
use Rattle.history.proofs.Invariant.{Agrees, SlotsAgree}
use Rattle.history.proofs.Fates.{numbers_known_lem}
use Rattle.history.proofs.Heap.{held_in}

module _ (s : Archive) (l : Ledger) (base low : ℕ) (g : Agrees s.xacts l.transactions base low)
    (q : SlotsAgree s.xacts l.transactions l.versions base low (slot_in s.pages)) where
  slot_known_lem : (b n : ℕ) (x : Slot) → slot_no (page_at s.pages b) n ≡ x → slot_known s.xacts.source.oldest s.xacts.source.next x ≡ true
  slot_known_lem b n unused e = refl
  slot_known_lem b n dead e = refl
  slot_known_lem b n (redirect t) e = refl
  slot_known_lem b n (holds v) e = numbers_known_lem s.xacts l.transactions l.versions base low g (address_in b n) v (q.stands (address_in b n) v e)

  pub page_known_lem : (b : ℕ) → numbers_known s b ≡ true
  page_known_lem b = each_from _ (count_of (page_at s.pages b)) (λ n _ _. slot_known_lem b n (slot_no (page_at s.pages b) n) refl)

  pub all_known_lem : all_known s ≡ true
  all_known_lem = all_to_from (numbers_known s) (length s.pages) (λ b _. page_known_lem b)

-- no page needs a number before the cutoff: then no version does
pub not_needed : (pages : List (List ℕ)) (c : ℕ) → still_needed c pages ≡ false → (a : Address) (v : Version) → slot_in pages a ≡ holds v
    → version_needs c v ≡ false
not_needed pages c h a v e =
    let i = held_in pages a v e in
    let low = i.pointer_low in
    let n : a.pointer - 1 + 1 ≡ a.pointer = omega arith in
    let page = any_to_none (λ k. page_needs c (get_or pages k [])) (length pages) a.block h i.block_in in
    let slot = any_to_none (λ k. slot_needs c (slot_no (page_at pages a.block) (k + 1))) (count_of (page_at pages a.block)) (a.pointer - 1) page (let u = i.pointer_high in omega arith) in
    ap (slot_needs c) (sym e ∙ ap (slot_no (page_at pages a.block)) (sym n)) ∙ slot
