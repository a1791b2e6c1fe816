-- A refusal is read back from its number.
use mathlib.Core.Path.{◌≡◌, refl, sym, ap, ◌∙◌}
use mathlib.Core.List.{[], ◌∷◌}
use Prim.Native.Nat.{ℕ}
use lib.ListN.{get_or}
use Rattle.refusal.specs.Numbers.{refusal_number}
use Rattle.refusal.specs.declared.Refusal.{Refusal}
use Rattle.refusal.specs.declared.Refusal.TheVariants.{WrongSize, NoSuchBlock, UnlawfulPage, NotActive, PlaceNotTaken, RowDoesNotFit, WrongPointer, OutsideWindow, CreatorNotCommitted, RemoverPending, RemoverCommitted, NoRoom, NoPlaceFree, TooManyActive, SourceFull, NumberOutOfRange, StillNeeded, BadOrder}

abbrev by_number : ℕ → Refusal
by_number n = get_or (WrongSize ∷ WrongSize ∷ NoSuchBlock ∷ UnlawfulPage ∷ NotActive ∷ PlaceNotTaken ∷ RowDoesNotFit ∷ WrongPointer ∷ OutsideWindow ∷ CreatorNotCommitted ∷ RemoverPending ∷ RemoverCommitted ∷ NoRoom ∷ NoPlaceFree ∷ TooManyActive ∷ SourceFull ∷ NumberOutOfRange ∷ StillNeeded ∷ BadOrder ∷ []) n WrongSize

back : (a : Refusal) → by_number (refusal_number a) ≡ a
back WrongSize = refl
back NoSuchBlock = refl
back UnlawfulPage = refl
back NotActive = refl
back PlaceNotTaken = refl
back RowDoesNotFit = refl
back WrongPointer = refl
back OutsideWindow = refl
back CreatorNotCommitted = refl
back RemoverPending = refl
back RemoverCommitted = refl
back NoRoom = refl
back NoPlaceFree = refl
back TooManyActive = refl
back SourceFull = refl
back NumberOutOfRange = refl
back StillNeeded = refl
back BadOrder = refl

pub numbers_differ : (a b : Refusal) → refusal_number a ≡ refusal_number b → a ≡ b
numbers_differ a b e = sym (back a) ∙ ap by_number e ∙ back b
