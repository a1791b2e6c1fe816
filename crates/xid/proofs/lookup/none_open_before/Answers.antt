use Rattle.std.proofs.Common.{not, refl, ap, ◌∙◌, arith, rules, tests}
use Rattle.std.proofs.lemmas.Iterator.{YieldsList-from_range}
use Rattle.std.proofs.lemmas.Iterator.Search.{all_from_yields_List}
use Rattle.xid.specs.Numbers.{number_at}
use Rattle.xid.specs.Statuses.{is_open}
use Rattle.xid.specs.Meaning.{none_open}
use Rattle.xid.proofs.Ranges.{all_shut}
use Rattle.xid.proofs.lookup.none_open_before.Goals as goal

pub returns : goal.returns
returns g c =
    let status = g.L.Lookup.statuses c.args.source.now in
    let oldest = c.args.oldest in
    all_from_yields_List (λ k. not (is_open (status (number_at oldest k)))) _ _ _ c.all.ensures.ran
    (YieldsList-from_range 0 _ _ refl (omega arith)) (λ x b q k. search (rules, tests))
    ∙ all_shut status oldest c.distance.result ∙ ap (none_open status oldest) c.distance.ensures
