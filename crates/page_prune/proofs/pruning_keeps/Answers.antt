use Rattle.page_prune.proofs.Whole.{prunes}
use Rattle.page_prune.proofs.pruning_keeps.Goals as goal

pub returns : goal.returns
returns c = prunes
