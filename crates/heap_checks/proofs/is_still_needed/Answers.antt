use Rattle.std.proofs.Common.{◌+◌, ◌≤◌, [], length, get_or, sym, arith}
use Rattle.page.specs.Headers.{count_of}
use Rattle.page.specs.Slots.{slot_no}
use Rattle.page_check.proofs.All.{any_to_more, any_to_true}
use Rattle.page_check.proofs.Slots.{lies_no}
use Rattle.heap_checks.specs.Numbers.{slot_needs, page_needs}
use Rattle.heap_checks.proofs.Asking.{needs_no}
use Rattle.heap_checks.proofs.is_still_needed.Goals as goal

pub is_slot_needing-requires : goal.is_slot_needing-requires
is_slot_needing-requires c =
    let p = get_or c.args.pages.now c.blocks-2.block [] in
    lies_no p (c.loop-i.i + 1) (c.requires c.blocks-2.block c.blocks-2-test.true) (omega arith) (omega (arith, c.pointer_count-i-end.ensures))

pub loop-i-preserved : goal.loop-i-preserved
loop-i-preserved c =
    let p = get_or c.args.pages.now c.blocks-2.block [] in
    let last : c.loop-i.i + 1 ≤ count_of p = omega (arith, c.pointer_count-i-end.ensures) in
    record {
      none = c.loop-i.invariant.none;
      before = c.loop-i.invariant.before;
      here = any_to_more (λ k. slot_needs c.args.cutoff (slot_no p (k + 1))) c.loop-i.i c.loop-i.invariant.here
          (sym (needs_no c.args.cutoff p (c.loop-i.i + 1) _ (omega arith) last c.if-is_slot_needing.ensures));
    }

pub returns-then-is_slot_needing : goal.returns-then-is_slot_needing
returns-then-is_slot_needing c =
    let pages = c.args.pages.now in
    let p = get_or pages c.blocks-2.block [] in
    let last : c.loop-i.i + 1 ≤ count_of p = omega (arith, c.pointer_count-i-end.ensures) in
    sym (any_to_true (λ k. page_needs c.args.cutoff (get_or pages k [])) c.blocks-2.block (length pages) c.blocks-2-test.true
    (any_to_true (λ k. slot_needs c.args.cutoff (slot_no p (k + 1))) c.loop-i.i (count_of p) (omega (arith, c.pointer_count-i-end.ensures))
    (sym (needs_no c.args.cutoff p (c.loop-i.i + 1) _ (omega arith) last c.if-is_slot_needing.ensures))))
