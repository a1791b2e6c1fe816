use Rattle.page_compact.proofs.Uppers.{compacts}
use Rattle.page_compact.proofs.compaction_keeps.Goals as goal

pub returns : goal.returns
returns c = compacts
