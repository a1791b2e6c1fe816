use lib.Bits.{and_mask}
use Rattle.clog.proofs.codes.code_in.Goals as goal

pub returns : goal.returns
returns c = and_mask _ 2
