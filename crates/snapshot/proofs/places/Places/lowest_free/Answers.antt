use Rattle.std.proofs.Common.{not, is_some, ap, ◌∙◌, arith}
use Rattle.std.proofs.lemmas.List.Sums.{prefix_len-drop_yes, prefix_len-drop_no, prefix_len-drop_all}
use Rattle.snapshot.specs.Snapshots.{first_free}
use Rattle.snapshot.proofs.Occupied.{first_is, none_is}
use Rattle.snapshot.proofs.places.Places.lowest_free.Goals as goal

pub returns-then-is_none-clause-answer : goal.returns-then-is_none-clause-answer
returns-then-is_none-clause-answer c =
    let at = c.self.inside.at in
    let z = prefix_len-drop_no is_some at c.loop-i.i c.place-item.result (omega (arith, c.self.invariant)) (c.is_none.ensures ∙ ap not c.if-is_none.true) in
    first_is at c.loop-i.i (omega (arith, c.self.invariant)) (omega (arith, z, c.loop-i.invariant)) ∙ ap first_free c.self.view_is

pub loop-i-preserved : goal.loop-i-preserved
loop-i-preserved c =
    let at = c.self.inside.at in
    let z = prefix_len-drop_yes is_some at c.loop-i.i c.place-item.result (omega (arith, c.self.invariant)) (c.is_none.ensures ∙ ap not c.if-is_none.false) in
    omega (arith, z, c.loop-i.invariant)

pub returns-clause-answer : goal.returns-clause-answer
returns-clause-answer c =
    let at = c.self.inside.at in
    let z = prefix_len-drop_all is_some at c.loop-i.i (omega (arith, c.self.invariant)) in
    none_is at (omega (arith, z, c.loop-i.invariant, c.self.invariant)) ∙ ap first_free c.self.view_is
