use Rattle.xid.proofs.Forget.{forget_rule}
use Rattle.xid.proofs.laws.forget_follows_rule.Goals as goal

pub returns : goal.returns
returns c = forget_rule
