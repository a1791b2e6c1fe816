use Rattle.std.proofs.Common.{[], get_or, length, refl, sym, ap, ◌∙◌, arith}
use Rattle.snapshot.specs.Snapshots.{data_of}
use Rattle.heap_read.specs.Reading.{next_on}
use Rattle.heap_read.proofs.Blocks.{in_block, block_before, block_told}
use Rattle.heap_read.proofs.Firsts.{none_below, found_below}
use Rattle.heap_read.proofs.next.next_address.Goals as goal

pub loop-block-init : goal.loop-block-init
loop-block-init g c =
    let m = g.S.StatusSource.meaning c.args.source.now in
    (refl, block_before m (data_of c.args.snapshot.now) c.args.pages.now c.args.after)

pub returns-in-Some-clause-answer : goal.returns-in-Some-clause-answer
returns-in-Some-clause-answer g c =
    let m = g.S.StatusSource.meaning c.args.source.now in
    let s = data_of c.args.snapshot.now in
    let pages = c.args.pages.now in
    let k = c.loop-block.block in
    found_below (in_block m s pages c.args.after) k (length pages) _ c.loop-block-test.true c.loop-block.invariant.1
    (block_told m s pages c.args.after _ k (get_or pages k []) _ c.loop-block.invariant.0 (omega arith) refl
    (c.in-Some.ensures.answer ∙ ap (next_on _ s (get_or pages k [])) c.start_in.ensures))
    refl

pub returns-clause-answer : goal.returns-clause-answer
returns-clause-answer g c =
    let m = g.S.StatusSource.meaning c.args.source.now in
    sym (none_below (in_block m (data_of c.args.snapshot.now) c.args.pages.now c.args.after) (length c.args.pages.now) (λ k l. c.loop-block.invariant.1 k (omega arith)))
