use Rattle.std.proofs.Common.{◌∙◌, arith}
use Rattle.xid.specs.Meaning.{Meaning}
use Rattle.heap_upkeep.specs.Hints.{hinted, bits_set}
use Rattle.heap_upkeep.proofs.Changes.{changed_more, counted_more}
use Rattle.heap_upkeep.proofs.hint.hint_page.Goals as goal

pub loop-number-preserved : goal.loop-number-preserved
loop-number-preserved g c =
    let m = g.S.StatusSource.meaning c.args.source.now in
    let i = c.loop-number.invariant in
    let e = c.hint_one-bits.ensures in
    let F = λ (x : Meaning). hinted x.status in (
      omega (arith, e.few),
      e.kept ∙ i.1,
      changed_more F m _ c.args.page.now c.loop-number.page c.loop-number.number (omega arith) i.1 i.2 c.hint_one-bits.new.page e.page,
      counted_more F m _ c.args.page.now c.loop-number.page c.loop-number.number (omega arith) i.1 i.2 (λ (x : Meaning). bits_set x.status) c.loop-number.bits c.hint_one-bits.result i.3 e.bits,
    )
