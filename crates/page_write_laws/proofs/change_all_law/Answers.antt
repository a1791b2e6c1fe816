use Rattle.std.proofs.Common.{arith}
use Rattle.page.specs.Headers.{count_of}
use Rattle.page_laws.proofs.Facts.{lawful_tells, lawful_from}
use Rattle.page_write.specs.Changing.{change_to}
use Rattle.page_write_laws.proofs.ChangeAll.{done, done_view}
use Rattle.page_write_laws.proofs.change_all_law.Goals as goal

pub returns : goal.returns
returns c kinds b p f len law mild =
    let d = done kinds b p f mild len (lawful_tells kinds b p law) (count_of p) (omega arith) in
    record {
      view = done_view kinds b p (change_to f p (count_of p)) f d;
      lawful = lawful_from kinds b (change_to f p (count_of p)) d.keeps;
    }
