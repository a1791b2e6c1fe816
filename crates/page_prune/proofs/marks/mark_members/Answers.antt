use Rattle.std.proofs.Common.{◌<◌, true, length, get_or, refl, ap, ◌∙◌, arith}
use Rattle.std.proofs.lemmas.List.{length-set}
use Rattle.std.proofs.lemmas.Iterator.Consumers.{YieldsList-from_first, YieldsList-turn}
use Rattle.page_prune.specs.Members.{ahead}
use Rattle.page_prune.specs.Marking.{unmarked}
use Rattle.page_prune.specs.declared.marks.ChainMark.{ChainMark}
use Rattle.page_prune.proofs.MarkSteps.{passed_more, kept_more}
use Rattle.page_prune.proofs.marks.mark_members.Goals as goal

pub loop-number-preserved : goal.loop-number-preserved
loop-number-preserved c =
    let all = ahead c.args.chain in
    let ms = c.loop-number.marks in let n = c.in-Some.number in let i = c.loop-number.invariant in
    let t = YieldsList-turn (YieldsList-from_first (λ x. x) ahead {s = c.into_iter-number-iterator.result} all (ap ahead c.into_iter-number-iterator.ensures.into_iter_gives)) c.loop-number.yielded _ c.loop-number.yielded_by c.next.result c.next.new.self n c.in-Some.is c.next.ensures.steps in
    let small = (c.requires) (length c.loop-number.yielded) n t.0 in
    let l : n < length ms = omega (arith, i.long, t.1) in
    let v : ChainMark = record { chained = true; lost = (get_or ms n unmarked).lost } in
    record {
      long = length-set ms n v ∙ i.long;
      passed = λ x le. passed_more (λ m. m.chained) ms n v l x c.loop-number.yielded _ refl (i.passed x le);
      kept = λ x. kept_more (λ m. m.lost) ms n v l x _ refl (i.kept x);
    }
