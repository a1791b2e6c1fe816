use Rattle.page_laws.proofs.Facts.{lawful_tells, lawful_from}
use Rattle.page_write.specs.Changing.{change_version}
use Rattle.page_write_laws.proofs.Changes.{changed}
use Rattle.page_write_laws.proofs.change_law.Goals as goal

pub returns : goal.returns
returns c kinds b p f m u len law e r alone =
    let d = changed kinds b p f m u len (lawful_tells kinds b p law) e r alone in
    record { view = d.view; lawful = lawful_from kinds b (change_version f p m) d.keeps }
