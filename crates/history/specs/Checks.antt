-- The checks that each call makes, in their order, each with the refusal that it gives where it fails.
use Rattle.std.specs.Prelude.{ℕ, ◌+◌, Bool, true, false, cond, not, ◌&&◌, ◌||◌, List, [], ◌∷◌, ◌++◌, length, is_some, Some, None, Option, ◌==◌, nat_le, nat_lt, slice_index_or}
use Rattle.page.specs.Kinds.{row_fits}
use Rattle.page.specs.Slots.{Version, Slot}
use Rattle.page.specs.Slots.Slot.{unused, dead, redirect, holds}
use Rattle.page_check.specs.All.{all_to}
use Rattle.page_check.specs.Lawful.{is_lawful}
use Rattle.page_room.specs.Room.{first_block_taking}
use Rattle.page_prune.specs.Pruned.{has_version}
use Rattle.xid.specs.Numbers.{distance, in_window}
use Rattle.xid.specs.Statuses.{is_open}
use Rattle.xid.specs.Meaning.{Meaning, forgettable}
use Rattle.xid.specs.declared.statuses.Status.{Status}
use Rattle.snapshot.specs.Lists.{is_listed}
use Rattle.snapshot.specs.Snapshots.{lowest_free}
use Rattle.heap_checks.specs.Numbers.{slot_known, page_known, still_needed}
use Rattle.heap_read.specs.Fates.{creator_fate, remover_fate}
use Rattle.heap_read.specs.Links.{is_root}
use Rattle.heap_read.specs.declared.fates.RemoverFate.{RemoverFate}
use Rattle.heap_read.specs.declared.fates.RemoverFate.TheVariants as remover
use Rattle.heap_upkeep.specs.Dead.{is_made, is_removed}
use Rattle.refusal.specs.declared.Refusal.{Refusal}
use Rattle.refusal.specs.declared.Refusal.TheVariants.{WrongSize, NoSuchBlock, UnlawfulPage, NotActive, PlaceNotTaken, RowDoesNotFit, WrongPointer, OutsideWindow, CreatorNotCommitted, RemoverPending, RemoverCommitted, NoRoom, NoPlaceFree, TooManyActive, SourceFull, NumberOutOfRange, StillNeeded}
use Rattle.history.specs.Archive.{Archive, Transactions, page_at, slot_in, horizon}
use Rattle.history.specs.Calls.{Change, Reading}
use Rattle.history.specs.Calls.Change.{begin, commit, abort, register, release, insert, update, delete, hint, prune, freeze, forget}
use Rattle.history.specs.Calls.Reading.{next, fetch}

abbrev pub Check : Type 0
Check = Bool × Refusal

-- the refusal of the first check that fails
abbrev pub first_failing : List Check → Option Refusal
first_failing [] = None
first_failing (c ∷ cs) = cond c.0 (first_failing cs) (Some c.1)

-- What is asked.

-- 1 to 64 pages; that a page has 8,192 bytes is said by its type in the code
abbrev pub heap_fits : List (List ℕ) → Bool
heap_fits pages = nat_le 1 (length pages) && nat_le (length pages) 64

abbrev pub block_exists : Archive → ℕ → Bool
block_exists s b = nat_lt b (length s.pages)

abbrev pub page_lawful : Archive → ℕ → Bool
page_lawful s b = is_lawful s.kinds b (page_at s.pages b)

abbrev pub all_lawful : Archive → Bool
all_lawful s = all_to (page_lawful s) (length s.pages)

-- among the active transactions, and open in the source
abbrev pub is_active : Transactions → ℕ → Bool
is_active t x = is_listed x t.active && is_open (t.source.status x)

abbrev pub place_taken : Transactions → ℕ → Bool
place_taken t k = is_some (slice_index_or t.places k None)

-- the unmarked numbers of a page lie in the source's window
abbrev pub numbers_known : Archive → ℕ → Bool
numbers_known s b = page_known s.xacts.source.oldest s.xacts.source.next (page_at s.pages b)

abbrev pub all_known : Archive → Bool
all_known s = all_to (numbers_known s) (length s.pages)

-- how many bytes a version with this row has
abbrev pub version_length : List ℕ → ℕ
version_length row = 24 + length row

-- the room that a new version must leave over on its page
abbrev pub reserve : ℕ
reserve = 0

-- the block that takes a row
abbrev pub block_for : List (List ℕ) → List ℕ → Option ℕ
block_for pages row = first_block_taking reserve pages (version_length row)

-- the cutoff c is in the window or next, and not behind the horizon
abbrev pub cutoff_fits : Transactions → ℕ → Bool
cutoff_fits t c =
    (in_window t.source.oldest t.source.next c || c == t.source.next)
    && nat_le (distance t.source.oldest c) (distance t.source.oldest (horizon t))

-- f holds of the version in a slot, where there is one
abbrev pub of_version : (Version → Bool) → Slot → Bool
of_version f unused = true
of_version f dead = true
of_version f (redirect t) = true
of_version f (holds v) = f v

-- the creator is committed or frozen, or x itself
abbrev pub is_made_for : (ℕ → Status) → ℕ → Version → Bool
is_made_for told x v = is_made (creator_fate told v) || v.creator == x

abbrev pub is_pending : RemoverFate → Bool
is_pending remover.None = false
is_pending remover.Pending = true
is_pending remover.Committed = false
is_pending remover.Unknown = false

abbrev pub not_pending : (ℕ → Status) → Version → Bool
not_pending told v = not (is_pending (remover_fate told v))

abbrev pub not_removed : (ℕ → Status) → Version → Bool
not_removed told v = not (is_removed (remover_fate told v))

-- the version in a slot can be replaced or deleted by x
abbrev pub version_checks : Meaning → ℕ → Slot → List Check
version_checks m x slot =
    (has_version slot, WrongPointer)
    ∷ (slot_known m.oldest m.next slot, OutsideWindow)
    ∷ (of_version (is_made_for m.status x) slot, CreatorNotCommitted)
    ∷ (of_version (not_pending m.status) slot, RemoverPending)
    ∷ (of_version (not_removed m.status) slot, RemoverCommitted)
    ∷ []

-- What each call asks.

-- of a page that upkeep is done to
abbrev pub page_checks : Archive → ℕ → List Check
page_checks s b =
    (heap_fits s.pages, WrongSize)
    ∷ (block_exists s b, NoSuchBlock)
    ∷ (page_lawful s b, UnlawfulPage)
    ∷ (numbers_known s b, OutsideWindow)
    ∷ []

abbrev pub checks : Archive → Change → List Check
checks s begin =
    (nat_lt (length s.xacts.active) 64, TooManyActive)
    ∷ (not s.xacts.source.full, SourceFull)
    ∷ []
checks s (commit x) = (is_active s.xacts x, NotActive) ∷ []
checks s (abort x) = (is_active s.xacts x, NotActive) ∷ []
checks s register = (nat_lt (lowest_free s.xacts.places) 16, NoPlaceFree) ∷ []
checks s (release k) = (place_taken s.xacts k, PlaceNotTaken) ∷ []
checks s (insert x row) =
    (heap_fits s.pages, WrongSize)
    ∷ (all_lawful s, UnlawfulPage)
    ∷ (is_active s.xacts x, NotActive)
    ∷ (row_fits s.kinds row, RowDoesNotFit)
    ∷ (is_some (block_for s.pages row), NoRoom)
    ∷ []
checks s (update x a keep row) =
    (heap_fits s.pages, WrongSize)
    ∷ (block_exists s a.block, NoSuchBlock)
    ∷ (all_lawful s, UnlawfulPage)
    ∷ (is_active s.xacts x, NotActive)
    ∷ (row_fits s.kinds row, RowDoesNotFit)
    ∷ (version_checks s.xacts.source x (slot_in s.pages a) ++ ((is_some (block_for s.pages row), NoRoom) ∷ []))
checks s (delete x a) =
    (heap_fits s.pages, WrongSize)
    ∷ (block_exists s a.block, NoSuchBlock)
    ∷ (page_lawful s a.block, UnlawfulPage)
    ∷ (is_active s.xacts x, NotActive)
    ∷ version_checks s.xacts.source x (slot_in s.pages a)
checks s (hint b) = page_checks s b
checks s (prune b) = page_checks s b
checks s (freeze b c) = page_checks s b ++ ((cutoff_fits s.xacts c, NumberOutOfRange) ∷ [])
checks s (forget c) =
    (heap_fits s.pages, WrongSize)
    ∷ (all_lawful s, UnlawfulPage)
    ∷ (cutoff_fits s.xacts c, NumberOutOfRange)
    ∷ (not (still_needed c s.pages) && forgettable s.xacts.source c, StillNeeded)
    ∷ []

abbrev pub reading_checks : Archive → Reading → List Check
reading_checks s (next k a) =
    (heap_fits s.pages, WrongSize)
    ∷ (block_exists s a.block, NoSuchBlock)
    ∷ (all_lawful s, UnlawfulPage)
    ∷ (place_taken s.xacts k, PlaceNotTaken)
    ∷ (all_known s, OutsideWindow)
    ∷ []
reading_checks s (fetch k a) =
    (heap_fits s.pages, WrongSize)
    ∷ (block_exists s a.block, NoSuchBlock)
    ∷ (page_lawful s a.block, UnlawfulPage)
    ∷ (place_taken s.xacts k, PlaceNotTaken)
    ∷ (is_root (slot_in s.pages a), WrongPointer)
    ∷ (numbers_known s a.block, OutsideWindow)
    ∷ []
