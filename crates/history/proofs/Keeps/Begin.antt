-- Begin keeps the invariant.
use Rattle.std.proofs.Common.{◌≡◌, ℕ, Bool, None}
use Rattle.xid.specs.Meaning.{Lawful}
use Rattle.history.specs.Archive.{Archive, slot_in}
use Rattle.history.specs.Calls.Change.{begin}
use Rattle.history.specs.Checks.{first_failing, checks}
use Rattle.history.specs.Granted.{transactions_after}
use Rattle.history.specs.Ledger.{Ledger, begins_as}
use Rattle.history.proofs.Invariant.{Invariant}
use Rattle.history.proofs.Asked.{begins}
use Rattle.history.proofs.Begins.{begin_agrees}
use Rattle.history.proofs.Moves.{moves_begin}
use Rattle.history.proofs.Ordered.{order_begins}
use Rattle.history.proofs.Upkeep.{slots_moves}
use Rattle.history.proofs.Kept.{Kept}

pub begin_keeps : (s : Archive) (l : Ledger) (base : ℕ) (full : Bool) → Invariant s l base → first_failing (checks s begin) ≡ None
    → Lawful (transactions_after s.xacts begin full).source → Kept s l base begin full
begin_keeps s l base full w h lw =
    let y = begins s h in
    let d = s.xacts in
    let t = l.transactions in
    record {
      low = w.low;
      agrees = begin_agrees d t base w.low w.agrees full y.not_full y.few lw;
      order = order_begins t l.versions d.source.next w.order;
      slots = slots_moves d t (transactions_after d begin full) (begins_as t d.source.next) l.versions base w.low (slot_in s.pages)
          (moves_begin d t base w.low w.agrees full y.not_full y.few) w.slots;
      heap = w.heap;
    }
