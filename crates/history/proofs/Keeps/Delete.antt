-- Delete keeps the invariant.
use Rattle.std.proofs.Common.{◌≡◌, ℕ, ◌<◌, Bool, false, None, refl, arith}
use Rattle.std.proofs.lemmas.Bool.{both_ways}
use Rattle.page.specs.declared.versions.Address.{Address}
use Rattle.page_write.specs.declared.fields.Removal.TheVariants as removal
use Rattle.history.specs.Archive.{Archive, slot_in}
use Rattle.history.specs.Calls.Change.{delete}
use Rattle.history.specs.Checks.{first_failing, checks}
use Rattle.history.specs.Granted.{mark_at}
use Rattle.history.specs.Ledger.{Ledger}
use Rattle.history.proofs.Invariant.{Invariant}
use Rattle.history.proofs.Asked.{deletes}
use Rattle.history.proofs.Heap.{held_small}
use Rattle.history.proofs.Marking.{mark_effect}
use Rattle.history.proofs.Writes.{live_number, order_change, slots_delete}
use Rattle.history.proofs.Kept.{Kept}

pub delete_keeps : (s : Archive) (l : Ledger) (base : ℕ) (full : Bool) (x : ℕ) (a : Address) → Invariant s l base
    → first_failing (checks s (delete x a)) ≡ None → Kept s l base (delete x a) full
delete_keeps s l base full x a w h =
    let y = deletes s w.agrees.lawful x a h in
    let old = y.old in
    let live = live_number s.xacts l.transactions base w.low w.agrees x y.active in
    let few = w.heap.few_pages in
    let block : a.block < 4294967296 = let t = y.block in omega arith in
    let pointer = held_small s.kinds s.pages w.heap a old.what old.is in
    let effect = mark_effect s.kinds s.pages w.heap a old.what old.is y.block x live.0 live.1 removal.Delete block pointer
    (λ e. absurd (both_ways false refl e)) in
    record {
      low = w.low;
      agrees = w.agrees;
      order = order_change s.xacts l base w.low w.agrees w.order (slot_in s.pages) w.slots x y.active a old.what old.is
          old.not_removed_lem old.made;
      slots = slots_delete s.xacts l base w.low w.agrees w.order (slot_in s.pages) w.slots x y.active a old.what old.is
          old.not_removed_lem block pointer (slot_in (mark_at s.pages a x removal.Delete)) effect.0;
      heap = effect.1;
    }
