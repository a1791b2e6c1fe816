-- The numbers of the refusals.
use Rattle.std.specs.Prelude.{◌≡◌, ℕ}
use Rattle.refusal.specs.declared.Refusal.{Refusal}
use Rattle.refusal.specs.declared.Refusal.TheVariants.{WrongSize, NoSuchBlock, UnlawfulPage, NotActive, PlaceNotTaken, RowDoesNotFit, WrongPointer, OutsideWindow, CreatorNotCommitted, RemoverPending, RemoverCommitted, NoRoom, NoPlaceFree, TooManyActive, SourceFull, NumberOutOfRange, StillNeeded, BadOrder}

abbrev pub refusal_number : Refusal → ℕ
refusal_number WrongSize = 1
refusal_number NoSuchBlock = 2
refusal_number UnlawfulPage = 3
refusal_number NotActive = 4
refusal_number PlaceNotTaken = 5
refusal_number RowDoesNotFit = 6
refusal_number WrongPointer = 7
refusal_number OutsideWindow = 8
refusal_number CreatorNotCommitted = 9
refusal_number RemoverPending = 10
refusal_number RemoverCommitted = 11
refusal_number NoRoom = 12
refusal_number NoPlaceFree = 13
refusal_number TooManyActive = 14
refusal_number SourceFull = 15
refusal_number NumberOutOfRange = 16
refusal_number StillNeeded = 17
refusal_number BadOrder = 18

abbrev pub NumbersDiffer : Type 0
NumbersDiffer = (a b : Refusal) → refusal_number a ≡ refusal_number b → a ≡ b
