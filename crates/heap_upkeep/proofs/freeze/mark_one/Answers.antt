use Rattle.std.proofs.Common.{◌≡◌, [], ap, ◌∙◌}
use Rattle.page.specs.Slots.{decoded}
use Rattle.page_write.specs.Fields.{encoded}
use Rattle.xid.specs.Meaning.{Meaning}
use Rattle.heap_upkeep.specs.Along.{one}
use Rattle.heap_upkeep.specs.Freezing.{frozen_at, to_freeze, to_clear}
use Rattle.heap_upkeep.proofs.Changes.{one_from, changed_one, counted_one}
use Rattle.heap_upkeep.proofs.freeze.mark_one.Goals as goal

pub returns-clause-marks : goal.returns-clause-marks
returns-clause-marks g c =
    let m = g.S.StatusSource.meaning c.args.source.now in
    let cut = c.args.cutoff in
    let p = c.args.page.now in
    let v = c.in-Some.version in
    let told : c.is_to_clear-clear.result ≡ to_clear m.status cut (decoded v []) =
    c.is_to_clear-clear.ensures.answer ∙ ap (λ (x : Meaning). to_clear x.status cut (decoded v [])) c.is_to_freeze-freeze.ensures.kept in
    let h : c.into.result ≡ encoded (frozen_at m.status cut (decoded v [])) = cc in
    let x = c.from-2.ensures ∙ one_from c.is_to_freeze-freeze.result ∙ ap one c.is_to_freeze-freeze.ensures.answer in
    let y = c.from-3.ensures ∙ one_from c.is_to_clear-clear.result ∙ ap one told in
    record {
      bytes = changed_one p c.args.number c.in-Some.offset v c.in-Some.ensures (frozen_at m.status cut) c.into.result c.rewrite_header.new.page (λ row. h) c.rewrite_header.ensures;
      frozen = counted_one p c.args.number c.in-Some.offset v c.in-Some.ensures (λ w. one (to_freeze m.status cut w)) _ (λ row. x);
      cleared = counted_one p c.args.number c.in-Some.offset v c.in-Some.ensures (λ w. one (to_clear m.status cut w)) _ (λ row. y);
    }
