use Rattle.page.specs.Slots.{view_of}
use Rattle.page_laws.proofs.Facts.{lawful_tells, lawful_from}
use Rattle.page_write.specs.Changing.{mark_removed}
use Rattle.page_write.specs.Fields.{leads_to, is_hot, removed_by}
use Rattle.page_write_laws.proofs.Changes.{changed}
use Rattle.page_write_laws.proofs.Naming.{removed_replaces, removed_alone}
use Rattle.page_write_laws.proofs.mark_law.Goals as goal

pub returns : goal.returns
returns c kinds b p own t r u len law e three small block pointer alone =
    let to = leads_to own r in
    let d = changed kinds b p (removed_by t to (is_hot r)) own.pointer u len (lawful_tells kinds b p law) e
    (removed_replaces u t to (is_hot r) three small block pointer) (removed_alone b (view_of p) own.pointer u t to (is_hot r) alone) in
    record { view = d.view; lawful = lawful_from kinds b (mark_removed p own t r) d.keeps }
