-- Commit keeps the invariant.
use Rattle.std.proofs.Common.{◌≡◌, ℕ, Bool, None}
use Rattle.xid.specs.Meaning.{Lawful}
use Rattle.history.specs.Archive.{Archive, slot_in}
use Rattle.history.specs.Calls.Change.{commit}
use Rattle.history.specs.Checks.{first_failing, checks}
use Rattle.history.specs.Granted.{transactions_after}
use Rattle.history.specs.Ledger.{Ledger, commits}
use Rattle.history.proofs.Invariant.{Invariant}
use Rattle.history.proofs.Asked.{commit_active}
use Rattle.history.proofs.Closes.{commit_agrees}
use Rattle.history.proofs.Moves.{moves_commit}
use Rattle.history.proofs.Ordered.{order_commits}
use Rattle.history.proofs.Upkeep.{slots_moves}
use Rattle.history.proofs.Kept.{Kept}

pub commit_keeps : (s : Archive) (l : Ledger) (base : ℕ) (full : Bool) (x : ℕ) → Invariant s l base → first_failing (checks s (commit x)) ≡ None
    → Lawful (transactions_after s.xacts (commit x) full).source → Kept s l base (commit x) full
commit_keeps s l base full x w h lw =
    let y = commit_active s x h in
    let d = s.xacts in
    let t = l.transactions in
    record {
      low = w.low;
      agrees = commit_agrees d t base w.low w.agrees full x y lw;
      order = order_commits l.transactions l.versions x w.order;
      slots = slots_moves d t (transactions_after d (commit x) full) (commits l.transactions x) l.versions base w.low (slot_in s.pages)
          (moves_commit d t base w.low w.agrees full x y) w.slots;
      heap = w.heap;
    }
