use Rattle.std.proofs.Common.{◌≡◌, ℕ, ◌<◌, None}
use Rattle.snapshot.specs.Snapshots.{data_of}
use Rattle.heap_read.proofs.Blocks.{in_block}
use Rattle.heap_read.proofs.next.next_address.Given as goal

-- the blocks passed show nothing
abbrev pub invariant-loop-block : goal.invariant-loop-block
invariant-loop-block g l =
    let m = g.S.StatusSource.meaning l.initial.source in
    (g.S.StatusSource.meaning l.source ≡ m) × ((k : ℕ) → k < l.block → in_block m (data_of l.snapshot) l.pages l.after k ≡ None)
