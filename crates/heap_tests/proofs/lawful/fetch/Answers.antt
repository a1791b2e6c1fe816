use Rattle.std.proofs.Common.{rules}
use Rattle.page_laws.proofs.Facts.{lawful_tells}
use Rattle.page_laws.proofs.Own.{keeps_lie}
use Rattle.heap_upkeep.specs.Pruning.{LawfulOn}
use Rattle.heap_tests.proofs.lawful.fetch.Goals as goal

pub first_visible-requires : goal.first_visible-requires
first_visible-requires g c =
    let checked : LawfulOn 0 c.args.page.now = search rules in
    keeps_lie checked.kinds 0 c.args.page.now (lawful_tells checked.kinds 0 c.args.page.now checked.lawful)
