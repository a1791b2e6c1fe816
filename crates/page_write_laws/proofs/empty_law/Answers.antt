use Rattle.page_laws.proofs.Facts.{lawful_from}
use Rattle.page_write.specs.Empty.{empty_page}
use Rattle.page_write_laws.proofs.Filling.{empty_keeps, empty_view}
use Rattle.page_write_laws.proofs.empty_law.Goals as goal

pub returns : goal.returns
returns c kinds b = record { view = empty_view; lawful = lawful_from kinds b empty_page (empty_keeps kinds b) }
