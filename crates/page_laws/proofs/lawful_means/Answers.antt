use Rattle.page_laws.proofs.Facts.{lawful_tells, lawful_from}
use Rattle.page_laws.proofs.lawful_means.Goals as goal

pub returns : goal.returns
returns c kinds b p = (lawful_tells kinds b p, lawful_from kinds b p)
