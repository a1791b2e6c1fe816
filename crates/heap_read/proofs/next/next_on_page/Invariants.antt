use Rattle.std.proofs.Common.{◌≡◌, ℕ, ◌<◌, false}
use Rattle.page.specs.Slots.{slot_no}
use Rattle.snapshot.specs.Snapshots.{data_of}
use Rattle.heap_read.specs.Reading.{visible_slot}
use Rattle.heap_read.proofs.next.next_on_page.Given as goal

-- none of the versions passed is visible
abbrev pub invariant-loop-number : goal.invariant-loop-number
invariant-loop-number g l =
    let m = g.S.StatusSource.meaning l.initial.source in
    (g.S.StatusSource.meaning l.source ≡ m)
    × ((k : ℕ) → k < l.number → l.after < k → visible_slot m.status (data_of l.snapshot) (slot_no l.page k) ≡ false)
