use Rattle.std.proofs.Common.{◌<◌, length, sym, ap, ◌∙◌, arith}
use Rattle.snapshot.proofs.Numbers.{keeps_one, drops_one}
use Rattle.snapshot.proofs.lists.XidList.retain.Goals as goal
use Rattle.snapshot.proofs.lists.XidList.retain.Goals.{then-keeps, else-keeps}

pub loop-i-preserved : goal.loop-i-preserved
loop-i-preserved g c =
    let so_far = c.loop-i.invariant in
    let before = c.loop-i.self.items in
    let here : c.loop-i.i < length before = omega arith in
    elim c.if-keeps.branch [
      | then-keeps w ↦ record {
        callable = so_far.callable;
        few = omega (arith, w.count-is, so_far.few);
        kept = λ p h. keeps_one p c.args.self.now.items before c.if-keeps.self.items c.loop-i.count c.if-keeps.count c.loop-i.i (so_far.kept p h) here
            (sym (h _ _ c.keeps.ensures) ∙ w.if-keeps.true) (ap (λ l. l.items) w.self-is) w.count-is;
      }
      | else-keeps w ↦ record {
        callable = so_far.callable;
        few = omega (arith, w.count-is, so_far.few);
        kept = λ p h. drops_one p c.args.self.now.items before c.if-keeps.self.items c.loop-i.count c.if-keeps.count c.loop-i.i (so_far.kept p h) here
            (sym (h _ _ c.keeps.ensures) ∙ w.if-keeps.false) (ap (λ l. l.items) w.self-is) w.count-is;
      }
    ]
