-- What a granted call answers, and what it leaves.
use Rattle.std.specs.Prelude.{ℕ, Bool, cond, ◌&&◌, List, Some, None, Ok, Err, Option, Result, slice_index_or, slice_set}
use Rattle.page.specs.declared.versions.Address.{Address}
use Rattle.page_room.specs.Room.{takes, free_pointer}
use Rattle.page_write.specs.Changing.{mark_removed}
use Rattle.page_write.specs.Placing.{put_version, placed_version}
use Rattle.page_write.specs.declared.fields.Origin.{Origin}
use Rattle.page_write.specs.declared.fields.Origin.TheVariants as origin
use Rattle.page_write.specs.declared.fields.Removal.{Removal}
use Rattle.page_write.specs.declared.fields.Removal.TheVariants as removal
use Rattle.xid.specs.Meaning.{after_open, after_close, after_forget}
use Rattle.xid.specs.declared.statuses.End.{End}
use Rattle.xid.specs.declared.statuses.End.TheVariants.{Commit, Abort}
use Rattle.snapshot.specs.Snapshots.{SnapshotData, snapshot_at, lowest_free}
use Rattle.snapshot.specs.Operations.{after_enter, after_strike, after_take, after_free}
use Rattle.heap_read.specs.Reading.{FoundRow, next_in, handed}
use Rattle.heap_read.specs.Links.{fetch_in}
use Rattle.heap_upkeep.specs.Hints.{hinted_page, hint_count}
use Rattle.heap_upkeep.specs.Freezing.{marked_page, frozen_count, cleared_count}
use Rattle.heap_upkeep.specs.Pruning.{pruned_at, removed_at, made_dead_at}
use Rattle.refusal.specs.declared.Refusal.{Refusal}
use Rattle.history.specs.Archive.{Archive, Transactions, page_at, horizon}
use Rattle.history.specs.Calls.{Change, Reading, Answer, Shown}
use Rattle.history.specs.Calls.Change.{begin, commit, abort, register, release, insert, update, delete, hint, prune, freeze, forget}
use Rattle.history.specs.Calls.Reading.{next, fetch}
use Rattle.history.specs.Checks.{first_failing, reading_checks, version_length, reserve, block_for}

-- Where a new version goes.

abbrev pub or_zero : Option ℕ → ℕ
or_zero None = 0
or_zero (Some n) = n

-- in a block it takes the lowest unused pointer, else a new one
abbrev pub fresh_in : List (List ℕ) → ℕ → Address
fresh_in pages b = record { block = b; pointer = free_pointer (page_at pages b) }

-- that of an insert goes to the lowest block that takes it
abbrev pub insert_at : List (List ℕ) → List ℕ → Address
insert_at pages row = fresh_in pages (or_zero (block_for pages row))

-- that of an update stays on the old one's page, heap-only, if the keys are unchanged and the page takes it
abbrev pub is_heap_only_update : List (List ℕ) → Address → Bool → List ℕ → Bool
is_heap_only_update pages a keep row = keep && takes reserve (page_at pages a.block) (version_length row)

abbrev pub update_at : List (List ℕ) → Address → Bool → List ℕ → Address
update_at pages a keep row = cond (is_heap_only_update pages a keep row) (fresh_in pages a.block) (insert_at pages row)

-- The pages.

-- in a block the transaction x puts a new version
abbrev pub put_in : List (List ℕ) → ℕ → ℕ → Origin → List ℕ → List (List ℕ)
put_in pages b x o row = slice_set pages b (put_version (page_at pages b) (placed_version b (page_at pages b) x o row))

-- the version at an address is marked as removed by the transaction x
abbrev pub mark_at : List (List ℕ) → Address → ℕ → Removal → List (List ℕ)
mark_at pages a x r = slice_set pages a.block (mark_removed (page_at pages a.block) a x r)

abbrev pub update_origin : Bool → Origin
update_origin heap_only = cond heap_only origin.HeapOnlyUpdate origin.Update

abbrev pub update_removal : Bool → Address → Removal
update_removal heap_only to = cond heap_only (removal.HeapOnlyUpdate to) (removal.Update to)

-- the page of block b becomes q
abbrev pub with_page : List (List ℕ) → ℕ → List ℕ → List (List ℕ)
with_page pages b q = slice_set pages b q

abbrev pub pages_after : Transactions → List (List ℕ) → Change → List (List ℕ)
pages_after t pages begin = pages
pages_after t pages (commit x) = pages
pages_after t pages (abort x) = pages
pages_after t pages register = pages
pages_after t pages (release k) = pages
pages_after t pages (insert x row) = put_in pages (insert_at pages row).block x origin.Insert row
pages_after t pages (update x a keep row) =
    mark_at (put_in pages (update_at pages a keep row).block x (update_origin (is_heap_only_update pages a keep row)) row)
    a x (update_removal (is_heap_only_update pages a keep row) (update_at pages a keep row))
pages_after t pages (delete x a) = mark_at pages a x removal.Delete
pages_after t pages (hint b) = with_page pages b (hinted_page t.source.status (page_at pages b))
pages_after t pages (prune b) = with_page pages b (pruned_at t.source.status (horizon t) b (page_at pages b))
pages_after t pages (freeze b c) =
    with_page pages b (marked_page t.source.status c (pruned_at t.source.status (horizon t) b (page_at pages b)))
pages_after t pages (forget c) = pages

-- The transactions. Whether the source is full afterwards is free within its laws: full says it.

abbrev pub closed : Transactions → ℕ → End → Bool → Transactions
closed t x e full = record { source = after_close t.source x e full; active = after_strike t.active x; places = t.places }

abbrev pub transactions_after : Transactions → Change → Bool → Transactions
transactions_after t begin full = record {
  source = after_open t.source full;
  active = after_enter t.active t.source.next;
  places = t.places;
}
transactions_after t (commit x) full = closed t x Commit full
transactions_after t (abort x) full = closed t x Abort full
transactions_after t register full = record {
  source = t.source;
  active = t.active;
  places = after_take t.places (snapshot_at t.source.oldest t.source.next t.active);
}
transactions_after t (release k) full = record { source = t.source; active = t.active; places = after_free t.places k }
transactions_after t (insert x row) full = t
transactions_after t (update x a keep row) full = t
transactions_after t (delete x a) full = t
transactions_after t (hint b) full = t
transactions_after t (prune b) full = t
transactions_after t (freeze b c) full = t
transactions_after t (forget c) full = record { source = after_forget t.source c full; active = t.active; places = t.places }

abbrev pub after : Archive → Change → Bool → Archive
after s c full = record {
  kinds = s.kinds;
  pages = pages_after s.xacts s.pages c;
  xacts = transactions_after s.xacts c full;
}

-- The answers.

abbrev pub answer : (s : Archive) (c : Change) → Answer c
answer s begin = s.xacts.source.next
answer s (commit x) = tt
answer s (abort x) = tt
answer s register = lowest_free s.xacts.places
answer s (release k) = tt
answer s (insert x row) = insert_at s.pages row
answer s (update x a keep row) = (update_at s.pages a keep row, is_heap_only_update s.pages a keep row)
answer s (delete x a) = tt
answer s (hint b) = hint_count s.xacts.source.status (page_at s.pages b)
answer s (prune b) = (
  removed_at s.xacts.source.status (horizon s.xacts) b (page_at s.pages b),
  made_dead_at s.xacts.source.status (horizon s.xacts) b (page_at s.pages b),
)
answer s (freeze b c) = (
  removed_at s.xacts.source.status (horizon s.xacts) b (page_at s.pages b),
  made_dead_at s.xacts.source.status (horizon s.xacts) b (page_at s.pages b),
  frozen_count s.xacts.source.status c (pruned_at s.xacts.source.status (horizon s.xacts) b (page_at s.pages b)),
  cleared_count s.xacts.source.status c (pruned_at s.xacts.source.status (horizon s.xacts) b (page_at s.pages b)),
)
answer s (forget c) = tt

-- The readings.

-- the visible version with the lowest address above a
abbrev pub next_for : Archive → SnapshotData → Address → Option FoundRow
next_for s sn a = handed s.pages (next_in s.xacts.source.status sn s.pages a)

-- the first visible version of the chain of a root
abbrev pub fetch_for : Archive → SnapshotData → Address → Option FoundRow
fetch_for s sn root = handed s.pages (fetch_in s.xacts.source.status sn s.pages root)

-- what f finds for the snapshot of a place
abbrev pub for_place : (SnapshotData → Option FoundRow) → Option SnapshotData → Option FoundRow
for_place f None = None
for_place f (Some sn) = f sn

abbrev pub found : Archive → Reading → Option FoundRow
found s (next k a) = for_place (λ sn. next_for s sn a) (slice_index_or s.xacts.places k None)
found s (fetch k a) = for_place (λ sn. fetch_for s sn a) (slice_index_or s.xacts.places k None)

abbrev pub reply_by : {A : Type 0} → Option Refusal → A → Result A Refusal
reply_by None r = Ok r
reply_by (Some q) r = Err q

abbrev pub shown : Archive → Reading → Shown
shown s r = reply_by (first_failing (reading_checks s r)) (found s r)
