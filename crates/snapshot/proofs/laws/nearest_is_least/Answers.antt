use Rattle.snapshot.proofs.Nearest.{nearest_is_least}
use Rattle.snapshot.proofs.laws.nearest_is_least.Goals as goal

pub returns : goal.returns
returns c = nearest_is_least
