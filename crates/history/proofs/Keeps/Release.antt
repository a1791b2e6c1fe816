-- Release keeps the invariant.
use Rattle.std.proofs.Common.{ℕ, Bool}
use Rattle.history.specs.Archive.{Archive, slot_in}
use Rattle.history.specs.Calls.Change.{release}
use Rattle.history.specs.Granted.{transactions_after}
use Rattle.history.specs.Ledger.{Ledger}
use Rattle.history.proofs.Invariant.{Invariant}
use Rattle.history.proofs.Moves.{moves_release}
use Rattle.history.proofs.Snapshots.{release_agrees}
use Rattle.history.proofs.Upkeep.{slots_moves}
use Rattle.history.proofs.Kept.{Kept}

pub release_keeps : (s : Archive) (l : Ledger) (base : ℕ) (full : Bool) (k : ℕ) → Invariant s l base → Kept s l base (release k) full
release_keeps s l base full k w =
    let d = s.xacts in
    let t = l.transactions in
    record {
      low = w.low;
      agrees = release_agrees d t base w.low w.agrees full k;
      order = w.order;
      slots = slots_moves d t (transactions_after d (release k) full) t l.versions base w.low (slot_in s.pages)
          (moves_release d t base w.low full k) w.slots;
      heap = w.heap;
    }
