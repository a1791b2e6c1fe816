-- Two laws beside the claim: every change can be made after every run, and the pages of a run are lawful.
use Rattle.std.specs.Prelude.{◌≡◌, true, List}
use Rattle.history.specs.Archive.{Archive}
use Rattle.history.specs.Calls.{Change, Reply}
use Rattle.history.specs.Checks.{heap_fits, all_lawful}
use Rattle.history.specs.Runs.{Step, Unused, Event, Run}

-- so that the claim is not about nothing: after every run every change is answered or refused
abbrev pub ChangesGoOn : Type 0
ChangesGoOn = (s : Archive) → Unused s → (es : List Event) (t : Archive) → Run s es t → (c : Change) → (r : Reply c) × (t' : Archive) × Step t c r t'

-- the heap keeps its size, and every page stays lawful: what these calls have written is accepted when it is read again
pub record SoundHeap (s : Archive) : Type 0 where
  pub size : heap_fits s.pages ≡ true
  pub lawful : all_lawful s ≡ true

abbrev pub PagesStayLawful : Type 0
PagesStayLawful = (s : Archive) → Unused s → (es : List Event) (t : Archive) → Run s es t → SoundHeap t
