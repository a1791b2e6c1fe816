use Rattle.page_prune.proofs.Whole.{chains_end}
use Rattle.page_prune.proofs.chains_end.Goals as goal

pub returns : goal.returns
returns c = chains_end
