use Rattle.std.proofs.Common.{◌≡◌, ◌<◌, false, sym, ◌∙◌, below_more, arith}
use Rattle.page.specs.Headers.{count_of}
use Rattle.page.specs.Slots.{slot_no}
use Rattle.snapshot.specs.Snapshots.{data_of}
use Rattle.heap_read.specs.Reading.{visible_slot}
use Rattle.heap_read.proofs.Firsts.{none_above, first_above}
use Rattle.heap_read.proofs.Shown.{shown}
use Rattle.heap_read.proofs.next.next_on_page.Goals as goal

pub loop-number-preserved : goal.loop-number-preserved
loop-number-preserved g c =
    let m = g.S.StatusSource.meaning c.args.source.now in
    let i = c.loop-number.invariant in (
      c.shows.ensures.kept ∙ i.0,
      below_more (λ k. c.args.after < k → visible_slot m.status (data_of c.args.snapshot.now) (slot_no c.args.page.now k) ≡ false) c.loop-number.number i.1
          (λ l. sym (shown m _ (data_of c.args.snapshot.now) c.args.page.now c.loop-number.number _ i.0 (omega arith) (omega arith) c.if-shows.ensures.answer)),
    )

pub returns-then-shows : goal.returns-then-shows
returns-then-shows g c =
    let m = g.S.StatusSource.meaning c.args.source.now in
    let p = c.args.page.now in
    let i = c.loop-number.invariant in
    record {
      answer = first_above (λ n. visible_slot m.status (data_of c.args.snapshot.now) (slot_no p n)) c.args.after c.loop-number.number (count_of p) (omega arith) (omega arith) i.1
          (shown m _ (data_of c.args.snapshot.now) p c.loop-number.number _ i.0 (omega arith) (omega arith) c.if-shows.ensures.answer);
      kept = c.shows.ensures.kept ∙ i.0;
    }

pub returns : goal.returns
returns g c =
    let m = g.S.StatusSource.meaning c.args.source.now in
    let i = c.loop-number.invariant in
    record {
      answer = none_above (λ n. visible_slot m.status (data_of c.args.snapshot.now) (slot_no c.args.page.now n)) c.args.after c.loop-number.number (count_of c.args.page.now) (omega arith) i.1;
      kept = i.0;
    }
