use Rattle.std.proofs.Common.{◌+◌, [], sym, ◌∙◌, arith}
use Rattle.page_room.specs.Room.{takes}
use Rattle.page_room.proofs.Least.{none_passes, first_passes}
use Rattle.page_room.proofs.blocks.place_taking.Goals as goal

pub returns-then-block-pages : goal.returns-then-block-pages
returns-then-block-pages c =
    none_passes (λ p. takes c.args.reserve p (24 + c.args.row_len)) [] c.args.pages.now c.loop-block.block
    (omega (arith, c.loop-block.invariant.within, c.if-block-pages.true)) c.loop-block.invariant.before

pub returns-then-takes_row : goal.returns-then-takes_row
returns-then-takes_row c =
    first_passes (λ p. takes c.args.reserve p (24 + c.args.row_len)) [] c.args.pages.now c.loop-block.block
    (omega (arith, c.loop-block.invariant.within, c.if-block-pages.false)) c.loop-block.invariant.before (sym c.takes_row.ensures ∙ c.if-takes_row.true)
