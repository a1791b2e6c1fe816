-- What became of creators and removers, and what a snapshot sees; `status` is the meaning of a source.
use Rattle.std.specs.Prelude.{ℕ, Bool, true, false, cond, not, ◌&&◌, ◌||◌, ◌==◌}
use Rattle.page.specs.Slots.{Version}
use Rattle.xid.specs.declared.statuses.Status.{Status}
use Rattle.xid.specs.declared.statuses.Status.TheVariants as status
use Rattle.snapshot.specs.Snapshots.{SnapshotData, running}
use Rattle.heap_read.specs.declared.fates.CreatorFate.{CreatorFate}
use Rattle.heap_read.specs.declared.fates.CreatorFate.TheVariants as creator
use Rattle.heap_read.specs.declared.fates.RemoverFate.{RemoverFate}
use Rattle.heap_read.specs.declared.fates.RemoverFate.TheVariants as remover

abbrev pub creator_by_status : Status → CreatorFate
creator_by_status status.Open = creator.Open
creator_by_status status.Committed = creator.Committed
creator_by_status status.Aborted = creator.Aborted
creator_by_status status.Unknown = creator.Unknown

abbrev pub remover_by_status : Status → RemoverFate
remover_by_status status.Open = remover.Pending
remover_by_status status.Committed = remover.Committed
remover_by_status status.Aborted = remover.None
remover_by_status status.Unknown = remover.Unknown

-- the bits decide; with none set, the source says
abbrev pub creator_fate : (ℕ → Status) → Version → CreatorFate
creator_fate told v =
    cond v.creator_committed
    (cond v.creator_invalid creator.Frozen creator.Committed)
    (cond v.creator_invalid creator.Aborted (creator_by_status (told v.creator)))

-- none if it is 0, marked invalid or aborted
abbrev pub remover_fate : (ℕ → Status) → Version → RemoverFate
remover_fate told v =
    cond (v.remover == 0 || v.remover_invalid) remover.None
    (cond v.remover_committed remover.Committed (remover_by_status (told v.remover)))

-- frozen, or committed and not running
abbrev pub is_seen : CreatorFate → SnapshotData → ℕ → Bool
is_seen creator.Frozen s x = true
is_seen creator.Committed s x = not (running s x)
is_seen creator.Aborted s x = false
is_seen creator.Open s x = false
is_seen creator.Unknown s x = false

-- committed and not running
abbrev pub is_gone : RemoverFate → SnapshotData → ℕ → Bool
is_gone remover.None s x = false
is_gone remover.Pending s x = false
is_gone remover.Committed s x = not (running s x)
is_gone remover.Unknown s x = false

-- the creator is seen, and what the remover removed is not gone
abbrev pub visible : (ℕ → Status) → SnapshotData → Version → Bool
visible told s v = is_seen (creator_fate told v) s v.creator && not (is_gone (remover_fate told v) s v.remover)
