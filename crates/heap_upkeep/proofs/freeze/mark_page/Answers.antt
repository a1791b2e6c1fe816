use Rattle.std.proofs.Common.{◌≡◌, ◌-◌, sym, ◌∙◌, arith}
use Rattle.page.specs.Headers.{count_of}
use Rattle.xid.specs.Meaning.{Meaning}
use Rattle.heap_upkeep.specs.Along.{one}
use Rattle.heap_upkeep.specs.Freezing.{to_freeze, to_clear, frozen_at}
use Rattle.heap_upkeep.proofs.Changes.{changed_more, counted_more}
use Rattle.heap_upkeep.proofs.freeze.mark_page.Goals as goal

pub loop-number-preserved : goal.loop-number-preserved
loop-number-preserved g c =
    let m = g.S.StatusSource.meaning c.args.source.now in
    let cut = c.args.cutoff in
    let p = c.args.page.now in
    let i = c.loop-number.invariant in
    let e = c.mark_one-one.ensures in
    let F = λ (x : Meaning). frozen_at x.status cut in (
      omega (arith, e.few.0),
      omega (arith, e.few.1),
      e.kept ∙ i.2,
      changed_more F m _ p c.loop-number.page c.loop-number.number (omega arith) i.2 i.3 c.mark_one-one.new.page e.marks.bytes,
      counted_more F m _ p c.loop-number.page c.loop-number.number (omega arith) i.2 i.3 (λ (x : Meaning). λ v. one (to_freeze x.status cut v)) _ _ i.4 e.marks.frozen,
      counted_more F m _ p c.loop-number.page c.loop-number.number (omega arith) i.2 i.3 (λ (x : Meaning). λ v. one (to_clear x.status cut v)) _ _ i.5 e.marks.cleared,
    )

pub returns-clause-marks : goal.returns-clause-marks
returns-clause-marks g c =
    let i = c.loop-number.invariant in
    let e : c.loop-number.number - 1 ≡ count_of c.args.page.now = omega arith in
    record { bytes = rw (sym e) i.3; frozen = rw (sym e) i.4; cleared = rw (sym e) i.5 }
