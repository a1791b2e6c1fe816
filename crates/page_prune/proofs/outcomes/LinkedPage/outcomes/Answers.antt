use Rattle.std.proofs.Common.{◌≤◌, ◌∙◌, arith}
use Rattle.std.proofs.lemmas.List.{length-set}
use Rattle.page.specs.Headers.{count_of}
use Rattle.page.specs.Slots.{view_of}
use Rattle.page_prune.specs.Members.{next_in, dead_in}
use Rattle.page_prune.specs.Pruned.{outcome}
use Rattle.page_prune.proofs.Ready.{decide_more}
use Rattle.page_prune.proofs.outcomes.LinkedPage.outcomes.Goals as goal

pub loop-number-preserved : goal.loop-number-preserved
loop-number-preserved c =
    let s = c.args.self.now in let n = c.loop-number.number in let os = c.loop-number.outcomes in let i = c.loop-number.invariant in
    let last : n ≤ count_of s.page.now = omega (arith, s.counted, c.loop-number-test.true) in
    record {
      long = length-set os n c.outcome_of.result ∙ i.long;
      decided = decide_more os (outcome (next_in s.members.now) (dead_in s.members.now) (view_of s.page.now)) n c.outcome_of.result (omega (arith, s.few, i.long, last)) i.decided c.outcome_of.ensures;
    }
