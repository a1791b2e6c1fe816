use Rattle.std.proofs.Common.{◌≡◌, ◌+◌, false, [], get_or}
use Rattle.page.specs.Slots.{slot_no}
use Rattle.page_check.specs.All.{any_to}
use Rattle.heap_checks.specs.Numbers.{slot_needs, page_needs}
use Rattle.heap_checks.proofs.is_still_needed.Given as goal

-- no version passed needs a number before the cutoff: in the blocks before, and in this one
abbrev pub invariant-loop-i : goal.invariant-loop-i
invariant-loop-i l =
    record {
      none : l.needed ≡ false;
      before : any_to (λ k. page_needs l.cutoff (get_or l.pages k [])) l.block ≡ false;
      here : any_to (λ k. slot_needs l.cutoff (slot_no (get_or l.pages l.block []) (k + 1))) l.i ≡ false;
    }

abbrev pub invariant-blocks-2 : goal.invariant-blocks-2
invariant-blocks-2 l = record {
  none : l.needed ≡ false;
  before : any_to (λ k. page_needs l.cutoff (get_or l.pages k [])) l.block ≡ false;
}
