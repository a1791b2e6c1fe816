use Rattle.std.proofs.Common.{◌≡◌, ◌∙◌, rules}
use Rattle.std.specs.Option.{option_map}
use Rattle.page.specs.declared.line_pointers.State.TheVariants as state
use Rattle.page_check.specs.declared.rules.Broken.TheVariants.{InVersion}
use Rattle.page_check.proofs.OwnRules.{own_version}
use Rattle.page_check.proofs.own.own_break.Goals as goal

pub returns : goal.returns
returns c =
    let e : c.map.result ≡ option_map (InVersion c.args.number) c.version_break.result = search rules in
    let n : c.line_pointer_at-at.result.state ≡ state.Normal = search rules in
    e ∙ own_version c.args.kinds.now c.args.page.now c.args.number c.line_pointer_at-at.result _ c.in_ok-version.version _
    c.line_pointer_at-at.ensures c.in_default.ensures n c.in_ok-version.ensures c.version_break.ensures
