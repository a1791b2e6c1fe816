-- Forget keeps the invariant: no page needs a number before the cutoff.
use Rattle.std.proofs.Common.{◌≡◌, ℕ, Bool, None}
use Rattle.xid.specs.Meaning.{Lawful}
use Rattle.history.specs.Archive.{Archive, slot_in}
use Rattle.history.specs.Calls.Change.{forget}
use Rattle.history.specs.Checks.{first_failing, checks}
use Rattle.history.specs.Granted.{transactions_after}
use Rattle.history.specs.Ledger.{Ledger}
use Rattle.history.proofs.Invariant.{Invariant}
use Rattle.history.proofs.Asked.{forgets}
use Rattle.history.proofs.Forgets.{forget_agrees}
use Rattle.history.proofs.Known.{not_needed}
use Rattle.history.proofs.Moves.{moves_forget}
use Rattle.history.proofs.Upkeep.{slots_low, stays_in}
use Rattle.history.proofs.Kept.{Kept}

pub forget_keeps : (s : Archive) (l : Ledger) (base : ℕ) (full : Bool) (c : ℕ) → Invariant s l base → first_failing (checks s (forget c)) ≡ None
    → Lawful (transactions_after s.xacts (forget c) full).source → Kept s l base (forget c) full
forget_keeps s l base full c w h lw =
    let y = forgets s c h in
    let d = s.xacts in
    let t = l.transactions in
    let f = forget_agrees d t base w.low w.agrees full c y.cutoff y.accepted lw in
    record {
      low = f.place;
      agrees = f.agrees;
      order = w.order;
      slots = slots_low d t (transactions_after d (forget c) full) t l.versions base w.low f.place (slot_in s.pages)
          (moves_forget d t base w.low full c f.place f.up)
          (λ a v e. stays_in d t base w.low w.agrees c f.place f.is f.top v (not_needed s.pages c y.not_needed a v e)) w.slots;
      heap = w.heap;
    }
