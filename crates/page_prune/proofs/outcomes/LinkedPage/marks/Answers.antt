use Rattle.std.proofs.Common.{◌≡◌, ◌+◌, ◌-◌, Bool, ◌||◌, List, length, ap, ◌∙◌, arith}
use Rattle.std.proofs.lemmas.List.{get_or-replicate}
use Rattle.page.specs.Slots.{view_of}
use Rattle.page_check.specs.All.{any_to}
use Rattle.page_laws.proofs.Views.{view_length}
use Rattle.page_prune.specs.Chains.{chain_of, member, lost}
use Rattle.page_prune.specs.Members.{next_in, dead_in, ahead}
use Rattle.page_prune.specs.Marking.{unmarked}
use Rattle.page_prune.specs.declared.chains.Member.{Member}
use Rattle.page_prune.specs.declared.marks.ChainMark.{ChainMark}
use Rattle.page_prune.proofs.MarkSteps.{chains_more}
use Rattle.page_prune.proofs.outcomes.LinkedPage.marks.Goals as goal

pub loop-number-init : goal.loop-number-init
loop-number-init c = record {
  chained = λ x l. ap (λ (m : ChainMark). m.chained) (get_or-replicate 292 x c.default-marks.result unmarked (omega arith)) ∙ cc;
  lost = λ x l. ap (λ (m : ChainMark). m.lost) (get_or-replicate 292 x c.default-marks.result unmarked (omega arith)) ∙ cc;
}

pub loop-number-preserved : goal.loop-number-preserved
loop-number-preserved c =
    let s = c.args.self.now in let nx = next_in s.members.now in let gone = dead_in s.members.now in let ss = view_of s.page.now in
    let n = c.loop-number.number in let i = c.loop-number.invariant in let h = c.chain_of-chain in
    record {
      chained = λ x l. c.mark_lost.ensures.chained x ∙ c.mark_members.ensures.chained x l
          ∙ chains_more (chain_of nx ss) x n (ahead h.result) _ (omega arith) h.ensures.ahead (i.chained x l);
      lost = λ x l. c.mark_lost.ensures.lost x l
          ∙ ap (λ (b : Bool). member x (lost (dead_in h.result.members.now) (ahead h.result)) || b) (c.mark_members.ensures.lost x)
          ∙ chains_more (λ m. lost gone (chain_of nx ss m)) x n (lost (dead_in h.result.members.now) (ahead h.result)) _ (omega arith)
          (ap (λ (t : List Member). lost (dead_in t) (ahead h.result)) h.ensures.members ∙ ap (lost gone) h.ensures.ahead) (i.lost x l);
    }

pub returns : goal.returns
returns c =
    let s = c.args.self.now in let nx = next_in s.members.now in let gone = dead_in s.members.now in let ss = view_of s.page.now in
    let e : c.loop-number.number - 1 ≡ length ss = omega (arith, view_length s.page.now, s.counted, c.loop-number-test.false) in
    record {
      chained = λ x l. c.loop-number.invariant.chained x l ∙ ap (any_to (λ r. member x (chain_of nx ss (r + 1)))) e;
      lost = λ x l. c.loop-number.invariant.lost x l ∙ ap (any_to (λ r. member x (lost gone (chain_of nx ss (r + 1))))) e;
    }
