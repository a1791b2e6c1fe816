use Rattle.page_prune.proofs.Whole.{nothing_dead}
use Rattle.page_prune.proofs.nothing_dead_left.Goals as goal

pub returns : goal.returns
returns c = nothing_dead
