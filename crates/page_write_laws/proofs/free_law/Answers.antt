use Rattle.page_write_laws.proofs.PutLaw.{free_is}
use Rattle.page_write_laws.proofs.free_law.Goals as goal

pub returns : goal.returns
returns c = free_is
