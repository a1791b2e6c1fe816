-- Update keeps the invariant, heap-only or not.
use Rattle.std.proofs.Common.{◌≡◌, ℕ, ◌<◌, Bool, List, length, None, sym, refl, ap, ◌∙◌, subst, arith}
use Rattle.page.specs.Slots.Slot.{unused, redirect}
use Rattle.page.specs.declared.versions.Address.{Address}
use Rattle.history.specs.Archive.{Archive, slot_in}
use Rattle.history.specs.Calls.Change.{update}
use Rattle.history.specs.Checks.{first_failing, checks}
use Rattle.history.specs.Granted.{fresh_in, is_heap_only_update, update_at, pages_after}
use Rattle.history.specs.Ledger.{Ledger, records}
use Rattle.history.proofs.Invariant.{Invariant, pointer_in}
use Rattle.history.proofs.Addresses.{address}
use Rattle.history.proofs.Asked.{updates}
use Rattle.history.proofs.Heap.{fresh_small}
use Rattle.history.proofs.Marking.{update_place, update_effect}
use Rattle.history.proofs.Ordered.{order_adds}
use Rattle.history.proofs.RowsKept.{unused_holds}
use Rattle.history.proofs.Writes.{live_number, none_awaits, order_change, slots_update}
use Rattle.history.proofs.Kept.{Kept}

pub update_keeps : (s : Archive) (l : Ledger) (base : ℕ) (full : Bool) (x : ℕ) (a : Address) (keep : Bool) (row : List ℕ) → Invariant s l base
    → first_failing (checks s (update x a keep row)) ≡ None → Kept s l base (update x a keep row) full
update_keeps s l base full x a keep row w h =
    let y = updates s w.agrees.lawful x a keep row h in
    let d = s.xacts in
    let t = l.transactions in
    let S = slot_in s.pages in
    let old = y.old in
    let hot = is_heap_only_update s.pages a keep row in
    let n = update_at s.pages a keep row in
    let place = update_place s.pages a keep row y.block y.room in
    let fresh = fresh_at (update_at s.pages a keep row) place.in_heap place.fresh in
    let live = live_number d t base w.low w.agrees x y.active in
    let few = w.heap.few_pages in
    let waits = none_awaits d t l.versions base w.low w.agrees S w.slots x y.active n fresh.1 in
    let effect = update_effect s.kinds s.pages w.heap a old.what old.is y.block x live.0 live.1 row y.fits hot n place waits
    (no_redirect n fresh.1) in
    record {
      low = w.low;
      agrees = w.agrees;
      order = order_adds t (records l.versions (t.meant x) (l.versions.last_at a)) (t.meant x) row n _
          (order_change d l base w.low w.agrees w.order S w.slots x y.active a old.what old.is old.not_removed_lem old.made);
      slots = slots_update d l base w.low w.agrees w.order S w.slots x y.active a old.what old.is old.not_removed_lem hot n row
          (let i = place.in_heap in omega arith) fresh.0 place.near fresh.1 (slot_in (pages_after d s.pages (update x a keep row)))
          effect.0.new effect.0.old effect.0.others;
      heap = effect.1;
    }
  where
    -- the new address is in an existing block, small and unused
    fresh_at : (n : Address) → n.block < length s.pages → n ≡ fresh_in s.pages n.block → (n.pointer < 65536) × (slot_in s.pages n ≡ unused)
    fresh_at n i e =
        let f = fresh_small s.kinds s.pages w.heap n.block i in
        (subst (λ (c : Address). c.pointer < 65536) (sym e) f.small, ap (slot_in s.pages) e ∙ f.free)

    -- a redirect leads to a version, so none leads to an unused slot
    no_redirect : (n : Address) → slot_in s.pages n ≡ unused → (c : Address) → c.block ≡ a.block → slot_in s.pages c ≡ redirect n.pointer
        → n.block ≡ a.block → ⊥
    no_redirect n free c at e near =
        let t = w.slots.rows.redirected c n.pointer e in
        let same : pointer_in c n.pointer ≡ n = address (pointer_in c n.pointer) n (at ∙ sym near) refl in
        unused_holds (slot_in s.pages n) t.what free (ap (slot_in s.pages) (sym same) ∙ t.is)
