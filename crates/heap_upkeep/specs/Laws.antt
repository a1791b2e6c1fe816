-- What hint and the marks of freeze mean for the slots of a page, and that a lawful page stays lawful: over any table of kinds,
-- every block and every meaning of a source.
use Rattle.std.specs.Prelude.{◌≡◌, ℕ, zero, suc, ◌+◌, ◌<◌, true, List, map, length, slice_index}
use Rattle.page.specs.Headers.{count_of}
use Rattle.page.specs.Slots.{Version, Slot, slot_no, view_of}
use Rattle.page.specs.Slots.Slot.{unused, dead, redirect, holds}
use Rattle.page.specs.declared.kinds.Kind.{Kind}
use Rattle.page_check.specs.Lawful.{is_lawful}
use Rattle.page_write_laws.specs.Laws.{Becomes}
use Rattle.page_write_laws.specs.Slots.{on_version}
use Rattle.page_prune.specs.Pruned.{pruned_slots}
use Rattle.xid.specs.declared.statuses.Status.{Status}
use Rattle.heap_read.specs.Links.{link_at}
use Rattle.heap_upkeep.specs.Along.{one}
use Rattle.heap_upkeep.specs.Hints.{hinted, bits_set, hinted_page, hint_count}
use Rattle.heap_upkeep.specs.Freezing.{to_freeze, to_clear, frozen_at, marked_page, frozen_count, cleared_count}
use Rattle.heap_upkeep.specs.Pruning.{dead_at, pruned_at}

abbrev pub in_slot : (Version → ℕ) → Slot → ℕ
in_slot b unused = 0
in_slot b dead = 0
in_slot b (redirect t) = 0
in_slot b (holds v) = b v

-- the sum over the pointers 1 to n
abbrev pub sum_to : (ℕ → ℕ) → ℕ → ℕ
sum_to f zero = 0
sum_to f (suc n) = sum_to f n + f (n + 1)

-- the sum over the versions of a page
abbrev pub sum_on : (Version → ℕ) → List ℕ → ℕ
sum_on b p = sum_to (λ n. in_slot b (slot_no p n)) (count_of p)

-- a page of bytes that is lawful
pub record Sound (kinds : List Kind) (b : ℕ) (p : List ℕ) : Type 0 where
  pub long : length p ≡ 8192
  pub bytes : (k : ℕ) → slice_index p k < 256
  pub lawful : is_lawful kinds b p ≡ true

-- a hint sets the bits of the versions, and nothing else changes; it counts the bits of the page as it was
pub record HintMeans (told : ℕ → Status) (kinds : List Kind) (b : ℕ) (p : List ℕ) : Type 0 where
  pub slots : Becomes kinds b (hinted_page told p) (map (on_version (hinted told)) (view_of p))
  pub count : hint_count told p ≡ sum_on (bits_set told) p

abbrev pub HintLaw : Type 0
HintLaw = (told : ℕ → Status) (kinds : List Kind) (b : ℕ) (p : List ℕ) → Sound kinds b p → HintMeans told kinds b p

-- the marks of freeze change each version by itself, and nothing else; they are counted on the page as it was
pub record MarksMean (told : ℕ → Status) (c : ℕ) (kinds : List Kind) (b : ℕ) (p : List ℕ) : Type 0 where
  pub slots : Becomes kinds b (marked_page told c p) (map (on_version (frozen_at told c)) (view_of p))
  pub frozen : frozen_count told c p ≡ sum_on (λ v. one (to_freeze told c v)) p
  pub cleared : cleared_count told c p ≡ sum_on (λ v. one (to_clear told c v)) p

abbrev pub MarksLaw : Type 0
MarksLaw = (told : ℕ → Status) (c : ℕ) (kinds : List Kind) (b : ℕ) (p : List ℕ) → Sound kinds b p → MarksMean told c kinds b p

-- a freeze prunes the slots and then marks each version that is left; a lawful page stays lawful
abbrev pub FreezeLaw : Type 0
FreezeLaw = (told : ℕ → Status) (h c : ℕ) (kinds : List Kind) (b : ℕ) (p : List ℕ) → Sound kinds b p
    → Becomes kinds b (marked_page told c (pruned_at told h b p)) (map (on_version (frozen_at told c)) (pruned_slots (link_at told b p) (dead_at told h p) (view_of p)))
