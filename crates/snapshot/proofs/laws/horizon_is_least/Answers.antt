use Rattle.snapshot.proofs.Nearest.{horizon_is_least}
use Rattle.snapshot.proofs.laws.horizon_is_least.Goals as goal

pub returns : goal.returns
returns c = horizon_is_least
