use Rattle.std.proofs.Common.{◌≡◌, ◌+◌, drop, is_some}
use Rattle.std.specs.List.{prefix_len}
use Rattle.snapshot.proofs.places.Places.lowest_free.Given as goal

-- the places passed are taken
abbrev pub invariant-loop-i : goal.invariant-loop-i
invariant-loop-i l = l.i + prefix_len is_some (drop l.i l.place-items) ≡ prefix_len is_some l.place-items
