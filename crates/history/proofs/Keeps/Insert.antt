-- Insert keeps the invariant.
use Rattle.std.proofs.Common.{◌≡◌, ℕ, Bool, false, List, None, refl, arith}
use Rattle.std.proofs.lemmas.Bool.{both_ways}
use Rattle.page_write.specs.declared.fields.Origin.TheVariants as origin
use Rattle.history.specs.Archive.{Archive, slot_in}
use Rattle.history.specs.Calls.Change.{insert}
use Rattle.history.specs.Checks.{first_failing, checks, block_for}
use Rattle.history.specs.Granted.{or_zero, fresh_in, put_in}
use Rattle.history.specs.Ledger.{Ledger}
use Rattle.history.proofs.Invariant.{Invariant}
use Rattle.history.proofs.Asked.{inserts}
use Rattle.history.proofs.Heap.{block_there, fresh_small}
use Rattle.history.proofs.Ordered.{order_adds}
use Rattle.history.proofs.Putting.{put_effect}
use Rattle.history.proofs.Writes.{live_number, slots_insert}
use Rattle.history.proofs.Kept.{Kept}

pub insert_keeps : (s : Archive) (l : Ledger) (base : ℕ) (full : Bool) (x : ℕ) (row : List ℕ) → Invariant s l base
    → first_failing (checks s (insert x row)) ≡ None → Kept s l base (insert x row) full
insert_keeps s l base full x row w h =
    let y = inserts s x row h in
    let b = or_zero (block_for s.pages row) in
    let n = fresh_in s.pages b in
    let there = block_there s.pages row y.room in
    let small = fresh_small s.kinds s.pages w.heap b there.0 in
    let live = live_number s.xacts l.transactions base w.low w.agrees x y.active in
    let few = w.heap.few_pages in
    let effect = put_effect s.kinds s.pages w.heap b there.0 x live.0 live.1 origin.Insert row y.fits there.1
    (λ e. absurd (both_ways false refl e)) in
    record {
      low = w.low;
      agrees = w.agrees;
      order = order_adds l.transactions l.versions (l.transactions.meant x) row n n w.order;
      slots = slots_insert s.xacts l base w.low w.agrees w.order (slot_in s.pages) w.slots x y.active row n
          (let t = there.0 in omega arith) small.small (slot_in (put_in s.pages b x origin.Insert row)) effect.0;
      heap = effect.1;
    }
