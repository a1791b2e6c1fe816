-- Freeze keeps the invariant: it prunes, and then marks what is left.
use Rattle.std.proofs.Common.{◌≡◌, ℕ, ◌<◌, Bool, List, [], ◌∷◌, length, set, None, refl, subst}
use Rattle.std.proofs.lemmas.List.{length-set}
use Rattle.page.specs.Headers.{count_of}
use Rattle.page_write.specs.Changing.{change_to}
use Rattle.heap_read.specs.Reading.{address_in}
use Rattle.heap_upkeep.specs.Freezing.{frozen_at}
use Rattle.heap_upkeep.specs.Pruning.{pruned_at}
use Rattle.refusal.specs.declared.Refusal.TheVariants.{NumberOutOfRange}
use Rattle.history.specs.Archive.{Archive, slot_in, page_at, horizon}
use Rattle.history.specs.Calls.Change.{freeze}
use Rattle.history.specs.Checks.{first_failing, checks, cutoff_fits}
use Rattle.history.specs.Granted.{pages_after}
use Rattle.history.specs.Ledger.{Ledger}
use Rattle.history.proofs.Invariant.{Invariant, SlotsAgree, Sound}
use Rattle.history.proofs.Asked.{page_block, freeze_cutoff}
use Rattle.history.proofs.Heap.{set_again}
use Rattle.history.proofs.PrunedRows.{slots_prune}
use Rattle.history.proofs.Sweeping.{prune_effect, remark_effect}
use Rattle.history.proofs.Upkeep.{slots_freeze}
use Rattle.history.proofs.Versions.{milder_freeze}
use Rattle.history.proofs.Kept.{Kept}

pub freeze_keeps : (s : Archive) (l : Ledger) (base : ℕ) (full : Bool) (b c : ℕ) → Invariant s l base → first_failing (checks s (freeze b c)) ≡ None
    → Kept s l base (freeze b c) full
freeze_keeps s l base full b c w h =
    let d = s.xacts in
    let t = l.transactions in
    let told = d.source.status in
    let inside : b < length s.pages = page_block s b ((cutoff_fits d c, NumberOutOfRange) ∷ []) h in
    let q = pruned_at told (horizon d) b (page_at s.pages b) in
    let pages = set s.pages b q in
    let pruned = prune_effect s.kinds s.pages w.heap b inside told (horizon d) in
    let slots = slots_prune d t l.versions base w.low w.agrees w.order (slot_in s.pages) w.slots b (page_at s.pages b) (λ n. refl)
    (slot_in pages) pruned.0 in
    let marked = remark_effect s.kinds pages pruned.1 b (rw (length-set s.pages b q) inside) (frozen_at told c)
    (λ n u e. milder_freeze d t l.versions base w.low (address_in b n) u (slots.stands (address_in b n) u e) told c) in
    let then = set pages b (change_to (frozen_at told c) (page_at pages b) (count_of (page_at pages b))) in
    let same : then ≡ pages_after d s.pages (freeze b c) = set_again s.pages b q inside (λ p. change_to (frozen_at told c) p (count_of p)) in
    record {
      low = w.low;
      agrees = w.agrees;
      order = w.order;
      slots = subst (λ (ps : List (List ℕ)). SlotsAgree d t l.versions base w.low (slot_in ps)) same
          (slots_freeze d t l.versions base w.low w.agrees (slot_in pages) (slot_in then) b slots c (freeze_cutoff s b c h) marked.0);
      heap = subst (Sound s.kinds) same marked.1;
    }
