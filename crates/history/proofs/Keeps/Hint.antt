-- Hint keeps the invariant.
use Rattle.std.proofs.Common.{◌≡◌, ℕ, Bool, [], None}
use Rattle.heap_read.specs.Reading.{address_in}
use Rattle.heap_upkeep.specs.Hints.{hinted}
use Rattle.history.specs.Archive.{Archive, slot_in}
use Rattle.history.specs.Calls.Change.{hint}
use Rattle.history.specs.Checks.{first_failing, checks}
use Rattle.history.specs.Granted.{pages_after}
use Rattle.history.specs.Ledger.{Ledger}
use Rattle.history.proofs.Invariant.{Invariant}
use Rattle.history.proofs.Asked.{page_block}
use Rattle.history.proofs.Sweeping.{remark_effect}
use Rattle.history.proofs.Upkeep.{slots_hint}
use Rattle.history.proofs.Versions.{milder_hint}
use Rattle.history.proofs.Kept.{Kept}

pub hint_keeps : (s : Archive) (l : Ledger) (base : ℕ) (full : Bool) (b : ℕ) → Invariant s l base → first_failing (checks s (hint b)) ≡ None
    → Kept s l base (hint b) full
hint_keeps s l base full b w h =
    let told = s.xacts.source.status in
    let effect = remark_effect s.kinds s.pages w.heap b (page_block s b [] h) (hinted told)
    (λ n u e. milder_hint s.xacts l.transactions l.versions base w.low (address_in b n) u (w.slots.stands (address_in b n) u e) told) in
    record {
      low = w.low;
      agrees = w.agrees;
      order = w.order;
      slots = slots_hint s.xacts l.transactions l.versions base w.low w.agrees (slot_in s.pages)
          (slot_in (pages_after s.xacts s.pages (hint b))) b w.slots effect.0;
      heap = effect.1;
    }
