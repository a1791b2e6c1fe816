use Rattle.std.proofs.Common.{◌≡◌, ℕ, ◌+◌, ◌-◌, ◌<◌, ◌≤◌, false, [], length, get_or}
use Rattle.page_room.specs.Room.{takes}
use Rattle.page_room.proofs.blocks.place_taking.Given as goal

-- the blocks passed do not take the row
abbrev pub invariant-loop-block : goal.invariant-loop-block
invariant-loop-block l = record {
  within : l.block ≤ length l.pages;
  before : (k : ℕ) → k < l.block → takes l.reserve (get_or l.pages k []) (24 + l.row_len) ≡ false;
}

abbrev pub decreases-loop-block : goal.decreases-loop-block
decreases-loop-block l = length l.pages - l.block
