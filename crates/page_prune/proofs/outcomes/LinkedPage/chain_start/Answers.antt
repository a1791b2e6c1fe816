use Rattle.page_check.proofs.Slots.{has_header_at}
use Rattle.std.proofs.Common.{sym, ◌∙◌}
use Rattle.page_prune.proofs.outcomes.LinkedPage.chain_start.Goals as goal

pub returns-in_err-version-in-Normal : goal.returns-in_err-version-in-Normal
returns-in_err-version-in-Normal c =
    let s = c.args.self.now in
    absurd (has_header_at s.page.now c.args.number c.in-Normal.offset c.in-Normal.len s.lie c.requires.first c.requires.last c.in-Normal.ensures
    (sym c.in_err-version-in-Normal.was ∙ c.version_at.ensures))
