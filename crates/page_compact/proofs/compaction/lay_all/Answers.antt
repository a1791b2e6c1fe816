use Rattle.std.proofs.Common.{◌≡◌, ◌+◌, ◌-◌, arith}
use Rattle.page_compact.proofs.Steps.{laid_step}
use Rattle.page_compact.proofs.compaction.lay_all.Goals as goal

pub loop-number-preserved : goal.loop-number-preserved
loop-number-preserved c =
    let n = c.loop-number.number in
    let s = laid_step c.args.old.now c.loop-number.page c.lay-top.new.page n (n - 1) c.loop-number.top c.lay-top.result (omega arith)
    c.loop-number.invariant.0 c.loop-number.invariant.1 c.lay-top.ensures.begin c.lay-top.ensures.page in
    let e : n + 1 - 1 ≡ n = omega arith in
    rw e (s.0, s.1, omega (arith, c.lay-top.ensures.begin, c.loop-number.invariant.2))
