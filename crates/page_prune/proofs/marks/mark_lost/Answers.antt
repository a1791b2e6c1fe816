use Rattle.std.proofs.Common.{◌<◌, ◌≤◌, ℕ, true, ◌||◌, List, length, take, get_or, sym, refl, ap, ◌∙◌, arith}
use Rattle.std.proofs.lemmas.List.{length-set}
use Rattle.std.proofs.lemmas.List.Folds.{map_fixed}
use Rattle.std.proofs.lemmas.List.Elements.{All-take}
use Rattle.std.proofs.lemmas.Iterator.{YieldsList-from_take}
use Rattle.std.proofs.lemmas.Iterator.Consumers.{YieldsList-from_first, YieldsList-turn, YieldsList-end}
use Rattle.page_prune.specs.Members.{ahead, dead_along}
use Rattle.page_prune.specs.Marking.{unmarked, is_lost}
use Rattle.page_prune.specs.declared.marks.ChainMark.{ChainMark}
use Rattle.page_prune.specs.Chains.{member}
use Rattle.page_prune.proofs.Walks.{lost-take}
use Rattle.page_prune.proofs.MarkSteps.{passed_more, kept_more}
use Rattle.page_prune.proofs.marks.mark_lost.Goals as goal

pub loop-number-preserved : goal.loop-number-preserved
loop-number-preserved c =
    let all = ahead c.args.chain in
    let ms = c.loop-number.marks in let n = c.in-Some.number in let i = c.loop-number.invariant in
    let t = YieldsList-turn (YieldsList-from_take {s = c.into_iter-number-iterator.result} c.lost_count.result (YieldsList-from_first (λ x. x) ahead all cc) cc) c.loop-number.yielded _ c.loop-number.yielded_by c.next.result c.next.new.self n c.in-Some.is c.next.ensures.steps in
    let small = (All-take (λ k. k ≤ 291) c.lost_count.result all c.requires) (length c.loop-number.yielded) n t.0 in
    let l : n < length ms = omega (arith, i.long, t.1) in
    let v : ChainMark = record { chained = (get_or ms n unmarked).chained; lost = true } in
    record {
      long = length-set ms n v ∙ i.long;
      passed = λ x le. passed_more (λ m. m.lost) ms n v l x c.loop-number.yielded _ refl (i.passed x le);
      kept = λ x. kept_more (λ m. m.chained) ms n v l x _ refl (i.kept x);
    }

pub returns-clause-lost : goal.returns-clause-lost
returns-clause-lost c =
    let all = ahead c.args.chain in
    let t = YieldsList-end (YieldsList-from_take {s = c.into_iter-number-iterator.result} c.lost_count.result (YieldsList-from_first (λ x. x) ahead all cc) cc) c.loop-number.yielded _ c.loop-number.yielded_by c.next.result c.next.new.self c.in-None.is c.next.ensures.steps in
    λ x le. c.loop-number.invariant.passed x le
    ∙ ap (λ (ys : List ℕ). member x ys || is_lost c.args.marks.now x)
    (sym (map_fixed (λ y. y) c.loop-number.yielded (λ k d l. refl)) ∙ t.0 ∙ ap (λ (k : ℕ). take k all) c.lost_count.ensures ∙ lost-take (dead_along c.args.chain) all)
