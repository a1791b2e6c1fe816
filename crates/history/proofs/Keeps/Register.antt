-- Register keeps the invariant.
use Rattle.std.proofs.Common.{◌≡◌, ℕ, Bool, None}
use Rattle.snapshot.specs.Snapshots.{lowest_free}
use Rattle.history.specs.Archive.{Archive, slot_in}
use Rattle.history.specs.Calls.Change.{register}
use Rattle.history.specs.Checks.{first_failing, checks}
use Rattle.history.specs.Granted.{transactions_after}
use Rattle.history.specs.Ledger.{Ledger, registers}
use Rattle.history.proofs.Invariant.{Invariant}
use Rattle.history.proofs.Asked.{place_free}
use Rattle.history.proofs.Moves.{moves_register}
use Rattle.history.proofs.Ordered.{order_registers}
use Rattle.history.proofs.Snapshots.{register_agrees}
use Rattle.history.proofs.Upkeep.{slots_moves}
use Rattle.history.proofs.Kept.{Kept}

pub register_keeps : (s : Archive) (l : Ledger) (base : ℕ) (full : Bool) → Invariant s l base → first_failing (checks s register) ≡ None
    → Kept s l base register full
register_keeps s l base full w h =
    let y = place_free s h in
    let d = s.xacts in
    let t = l.transactions in
    record {
      low = w.low;
      agrees = register_agrees d t base w.low w.agrees full y;
      order = order_registers t l.versions (lowest_free d.places) w.order;
      slots = slots_moves d t (transactions_after d register full) (registers t (lowest_free d.places)) l.versions base w.low (slot_in s.pages)
          (moves_register d t base w.low full y) w.slots;
      heap = w.heap;
    }
