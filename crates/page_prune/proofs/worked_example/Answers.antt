use Rattle.std.proofs.Common.{refl}
use Rattle.page_prune.proofs.worked_example.Goals as goal

pub returns : goal.returns
returns c = (refl, refl, refl)
