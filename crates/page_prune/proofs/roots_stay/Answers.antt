use Rattle.page_prune.proofs.Whole.{roots_stay}
use Rattle.page_prune.proofs.roots_stay.Goals as goal

pub returns : goal.returns
returns c = roots_stay
