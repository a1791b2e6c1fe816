use Rattle.std.proofs.Common.{[], true, ◌∙◌, arith, rules, tests}
use Rattle.std.specs.Option.{option_map_or}
use Rattle.std.proofs.lemmas.Iterator.{YieldsList-from_range}
use Rattle.std.proofs.lemmas.Iterator.Search.{all_from_yields_List}
use Rattle.page.specs.LinePointers.{pointer_at}
use Rattle.page.specs.Slots.{decoded, header_in}
use Rattle.heap_checks.specs.Numbers.{version_known}
use Rattle.heap_checks.proofs.Asking.{all_known}
use Rattle.heap_checks.proofs.is_page_known.Goals as goal

pub returns : goal.returns
returns c =
    let w = c.args.window in
    all_from_yields_List (λ n. option_map_or (λ v. version_known w.oldest w.next (decoded v [])) (header_in c.args.page.now (pointer_at c.args.page.now n)) true) _ _ _ c.all.ensures.ran
    (YieldsList-from_range 1 _ _ c.pointer_numbers.ensures (omega arith)) (λ x b q k. search (rules, tests))
    ∙ all_known w.oldest w.next c.args.page.now c.requires
