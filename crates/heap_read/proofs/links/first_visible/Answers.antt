use Rattle.std.proofs.Common.{◌≡◌, ℕ, suc, ◌-◌, None, sym, refl, ap, ◌∙◌, inl, inr, arith}
use Rattle.std.specs.declared.ops.Range.{Range}
use Rattle.page.specs.Headers.{count_of}
use Rattle.snapshot.specs.Snapshots.{data_of}
use Rattle.heap_read.proofs.Shown.{number_in}
use Rattle.heap_read.proofs.Walks.{ahead, walk_end, step_hit, step_on}
use Rattle.heap_read.proofs.links.first_visible.Goals as goal

pub loop-init : goal.loop-init
loop-init g c =
    let m = g.S.StatusSource.meaning c.args.source.now in
    let e : c.pointer_numbers-numbers.result.end - 0 ≡ suc (count_of c.args.page.now) = omega (arith, ap (λ (r : Range ℕ). r.end) c.pointer_numbers-numbers.ensures) in
    (refl, ap (λ (n : ℕ). ahead m.status (data_of c.args.snapshot.now) c.args.block c.args.page.now n c.args.root) e)

pub returns-then-shows-clause-answer : goal.returns-then-shows-clause-answer
returns-then-shows-clause-answer g c =
    let m = g.S.StatusSource.meaning c.args.source.now in
    let i = number_in c.args.page.now c.loop.at _ c.pointer_numbers-numbers.ensures c.if-not-contains.ensures.cases in
    step_hit m _ (data_of c.args.snapshot.now) c.args.block c.args.page.now (c.pointer_numbers-numbers.result.end - c.loop.counter) c.loop.at c.loop.invariant.0 i.0 i.1 (omega arith)
    c.if-shows.ensures.answer ∙ c.loop.invariant.1

pub returns-in_err-at-clause-answer : goal.returns-in_err-at-clause-answer
returns-in_err-at-clause-answer g c =
    let m = g.S.StatusSource.meaning c.args.source.now in
    let i = number_in c.args.page.now c.loop.at _ c.pointer_numbers-numbers.ensures c.if-not-contains.ensures.cases in
    c.from_residual.ensures
    ∙ sym (walk_end m.status (data_of c.args.snapshot.now) c.args.block c.args.page.now (c.pointer_numbers-numbers.result.end - c.loop.counter - 1) 0 (inr (inl refl)))
    ∙ step_on m _ (data_of c.args.snapshot.now) c.args.block c.args.page.now (c.pointer_numbers-numbers.result.end - c.loop.counter) c.loop.at c.loop.invariant.0 i.0 i.1 (omega arith)
    _ None _ c.if-shows.ensures.answer c.shows.ensures.kept c.in_err-at.ensures.answer refl
    ∙ c.loop.invariant.1

pub loop-preserved : goal.loop-preserved
loop-preserved g c =
    let m = g.S.StatusSource.meaning c.args.source.now in
    let i = number_in c.args.page.now c.loop.at _ c.pointer_numbers-numbers.ensures c.if-not-contains.ensures.cases in (
      c.link_of.ensures.kept ∙ c.shows.ensures.kept ∙ c.loop.invariant.0,
      step_on m _ (data_of c.args.snapshot.now) c.args.block c.args.page.now (c.pointer_numbers-numbers.result.end - c.loop.counter) c.loop.at c.loop.invariant.0 i.0 i.1 (omega arith)
          _ _ _ c.if-shows.ensures.answer c.shows.ensures.kept c.in_ok-at.ensures.answer (omega arith) ∙ c.loop.invariant.1,
    )
