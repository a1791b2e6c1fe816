use Rattle.std.proofs.Common.{not, is_some, IfSome, Option, sym, ap, ◌∙◌, subst}
use Rattle.page_check.specs.Lawful.{Fails}
use Rattle.page_check.specs.declared.rules.Broken.{Broken}
use Rattle.page_check.proofs.Reports.{none_lawful, report_fails}
use Rattle.page_check.proofs.check.first_broken.Goals as goal

pub returns : goal.returns
returns c = record {
  first = c.find_broken.ensures;
  none = ap (λ (r : Option Broken). not (is_some r)) c.find_broken.ensures ∙ none_lawful c.args.kinds.now c.args.block c.args.page.now;
  fails = subst (λ (r : Option Broken). IfSome r (Fails c.args.kinds.now c.args.block c.args.page.now)) (sym c.find_broken.ensures)
      (report_fails c.args.kinds.now c.args.block c.args.page.now);
}
