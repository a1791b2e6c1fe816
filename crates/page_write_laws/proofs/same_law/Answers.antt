use Rattle.page_laws.proofs.Facts.{lawful_tells}
use Rattle.page_write_laws.proofs.Naming.{same_replaces}
use Rattle.page_write_laws.proofs.same_law.Goals as goal

pub returns : goal.returns
returns c kinds b p m u bytes law e = same_replaces kinds b p m u bytes (lawful_tells kinds b p law) e
