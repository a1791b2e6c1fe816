use Rattle.std.proofs.Common.{◌≡◌, ◌-◌}
use Rattle.snapshot.specs.Snapshots.{data_of}
use Rattle.heap_read.specs.Links.{fetch_on}
use Rattle.heap_read.proofs.Walks.{ahead}
use Rattle.heap_read.proofs.links.first_visible.Given as goal

-- what is still ahead gives the answer
abbrev pub invariant-loop : goal.invariant-loop
invariant-loop g l =
    let m = g.S.StatusSource.meaning l.initial.source in
    let s = data_of l.snapshot in
    (g.S.StatusSource.meaning l.source ≡ m)
    × (ahead m.status s l.block l.page (l.end - l.counter) l.at ≡ fetch_on m.status s l.block l.page l.initial.at)
