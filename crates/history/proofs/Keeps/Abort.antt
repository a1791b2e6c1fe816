-- Abort keeps the invariant.
use Rattle.std.proofs.Common.{◌≡◌, ℕ, Bool, None}
use Rattle.xid.specs.Meaning.{Lawful}
use Rattle.history.specs.Archive.{Archive, slot_in}
use Rattle.history.specs.Calls.Change.{abort}
use Rattle.history.specs.Checks.{first_failing, checks}
use Rattle.history.specs.Granted.{transactions_after}
use Rattle.history.specs.Ledger.{Ledger}
use Rattle.history.proofs.Invariant.{Invariant}
use Rattle.history.proofs.Asked.{abort_active}
use Rattle.history.proofs.Closes.{abort_agrees}
use Rattle.history.proofs.Moves.{moves_abort}
use Rattle.history.proofs.Upkeep.{slots_moves}
use Rattle.history.proofs.Kept.{Kept}

pub abort_keeps : (s : Archive) (l : Ledger) (base : ℕ) (full : Bool) (x : ℕ) → Invariant s l base → first_failing (checks s (abort x)) ≡ None
    → Lawful (transactions_after s.xacts (abort x) full).source → Kept s l base (abort x) full
abort_keeps s l base full x w h lw =
    let y = abort_active s x h in
    let d = s.xacts in
    let t = l.transactions in
    record {
      low = w.low;
      agrees = abort_agrees d t base w.low w.agrees full x y lw;
      order = w.order;
      slots = slots_moves d t (transactions_after d (abort x) full) l.transactions l.versions base w.low (slot_in s.pages)
          (moves_abort d t base w.low w.agrees full x y) w.slots;
      heap = w.heap;
    }
