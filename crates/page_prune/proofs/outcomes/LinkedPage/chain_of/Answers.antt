use Rattle.std.proofs.Common.{◌+◌, ℕ, ap, ◌∙◌, arith}
use Rattle.std.specs.Option.{unwrap_or}
use Rattle.page_laws.specs.Chains.{chain}
use Rattle.page_prune.specs.Members.{next_in}
use Rattle.page_prune.proofs.Walks.{chain_within}
use Rattle.page_prune.proofs.Ready.{chain_is}
use Rattle.page_prune.proofs.outcomes.LinkedPage.chain_of.Goals as goal

pub returns-clause-ahead : goal.returns-clause-ahead
returns-clause-ahead c =
    let s = c.args.self.now in let p = s.page.now in let nx = next_in s.members.now in let a = unwrap_or c.chain_start.result 0 in
    ap (λ (k : ℕ). chain nx (k + 1) a) s.counted ∙ chain_is p nx c.args.number a c.requires.first c.requires.last c.chain_start.ensures

pub returns-clause-inside : goal.returns-clause-inside
returns-clause-inside c =
    let s = c.args.self.now in
    chain_within (next_in s.members.now) (s.count + 1) (unwrap_or c.chain_start.result 0) 291 s.links
    (omega (arith, s.starts c.args.number c.requires.first c.requires.last, c.chain_start.ensures))
