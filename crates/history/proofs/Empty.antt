-- An unused archive: its pages are sound, and have no slots.
use Rattle.std.proofs.Common.{◌≡◌, ℕ, zero, suc, ◌<◌, ◌≤◌, List, [], length, get_or, sym, refl, ap, ◌∙◌, ⊎_elim, arith}
use Rattle.std.proofs.lemmas.List.{get_or_past, get_or-replicate}
use Rattle.std.proofs.lemmas.Bool.{cases_lt}
use Rattle.page.specs.Slots.{Slot, slot_no, slot_at, view_of}
use Rattle.page.specs.Slots.Slot.{unused}
use Rattle.page.specs.declared.versions.Address.{Address}
use Rattle.page_check.specs.Lawful.{is_lawful}
use Rattle.page_laws.proofs.Facts.{lawful_from}
use Rattle.page_laws.proofs.Views.{view_at}
use Rattle.page_write.specs.Empty.{empty_page}
use Rattle.page_write_laws.proofs.Filling.{empty_keeps, empty_view, all_filled}
use Rattle.history.specs.Archive.{Archive, page_at, slot_in}
use Rattle.history.specs.Runs.{Unused}
use Rattle.history.proofs.Invariant.{Sound}

slotless : (n : ℕ) → slot_at [] n ≡ unused
slotless zero = refl
slotless (suc n) = refl

no_slot : (p : List ℕ) → view_of p ≡ [] → (n : ℕ) → slot_no p n ≡ unused
no_slot p e n = sym (view_at p n) ∙ ap (λ (ss : List Slot). slot_at ss n) e ∙ slotless n

module _ (s : Archive) (h : Unused s) where
  is_empty : (b : ℕ) → b < length s.pages → page_at s.pages b ≡ empty_page
  is_empty b l = ap (λ (ps : List (List ℕ)). get_or ps b []) h.empty_pages ∙ get_or-replicate (length s.pages) b empty_page [] l

  pub empty_sound : Sound s.kinds s.pages
  empty_sound = record {
    some_page = h.some_page;
    few_pages = h.few_pages;
    long = λ b l. ap length (is_empty b l) ∙ (all_filled 25 [] tt (omega arith)).long;
    lawful = λ b l. ap (is_lawful s.kinds b) (is_empty b l) ∙ lawful_from s.kinds b empty_page (empty_keeps s.kinds b);
  }

  pub empty_slots : (a : Address) → slot_in s.pages a ≡ unused
  empty_slots a =
      ⊎_elim
      (λ (l : a.block < length s.pages). ap (λ (p : List ℕ). slot_no p a.pointer) (is_empty a.block l) ∙ no_slot empty_page empty_view a.pointer)
      (λ (l : length s.pages ≤ a.block). ap (λ (p : List ℕ). slot_no p a.pointer) (get_or_past s.pages a.block [] l) ∙ no_slot [] refl a.pointer)
      (cases_lt a.block (length s.pages))
