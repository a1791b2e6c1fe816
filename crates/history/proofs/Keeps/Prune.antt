-- Prune keeps the invariant.
use Rattle.std.proofs.Common.{◌≡◌, ℕ, Bool, [], None, refl}
use Rattle.history.specs.Archive.{Archive, slot_in, page_at, horizon}
use Rattle.history.specs.Calls.Change.{prune}
use Rattle.history.specs.Checks.{first_failing, checks}
use Rattle.history.specs.Granted.{pages_after}
use Rattle.history.specs.Ledger.{Ledger}
use Rattle.history.proofs.Invariant.{Invariant}
use Rattle.history.proofs.Asked.{page_block}
use Rattle.history.proofs.PrunedRows.{slots_prune}
use Rattle.history.proofs.Sweeping.{prune_effect}
use Rattle.history.proofs.Kept.{Kept}

pub prune_keeps : (s : Archive) (l : Ledger) (base : ℕ) (full : Bool) (b : ℕ) → Invariant s l base → first_failing (checks s (prune b)) ≡ None
    → Kept s l base (prune b) full
prune_keeps s l base full b w h =
    let effect = prune_effect s.kinds s.pages w.heap b (page_block s b [] h) s.xacts.source.status (horizon s.xacts) in
    record {
      low = w.low;
      agrees = w.agrees;
      order = w.order;
      slots = slots_prune s.xacts l.transactions l.versions base w.low w.agrees w.order (slot_in s.pages) w.slots b
          (page_at s.pages b) (λ n. refl) (slot_in (pages_after s.xacts s.pages (prune b))) effect.0;
      heap = effect.1;
    }
