use Rattle.std.proofs.Common.{rules}
use Rattle.page_check.proofs.Reports.{all_lie}
use Rattle.page_check.proofs.check.find_broken.Goals as goal

pub invariant_of-among_broken : goal.invariant_of-among_broken
invariant_of-among_broken c = record {
  few = search rules;
  lie = all_lie c.args.kinds.now c.args.page.now c.in_default-first_own_break.ensures;
}
