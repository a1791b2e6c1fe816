-- How a prune is decided in one pass: the members of all chains are marked by number first.
use Rattle.std.specs.Prelude.{◌≡◌, ℕ, ◌+◌, ◌<◌, ◌≤◌, Bool, false, cond, List, slice_index_or}
use Rattle.std.specs.List.{range_with_len, list_any, count_by}
use Rattle.page.specs.Headers.{count_of}
use Rattle.page.specs.LinePointers.{pointer_at}
use Rattle.page.specs.Slots.{Slot, slot_of, view_of}
use Rattle.page_compact.specs.Compaction.{compacted}
use Rattle.page_prune.specs.Chains.{chained_in, lost_in}
use Rattle.page_prune.specs.Pruned.{outcome_in, outcome, is_change, slot_after, loses_version, becomes_dead, repoint_to}
use Rattle.page_prune.specs.declared.marks.ChainMark.{ChainMark}
use Rattle.page_prune.specs.declared.outcomes.Outcome.{Outcome}

abbrev pub unmarked : ChainMark
unmarked = record { chained = false; lost = false }

abbrev pub is_chained : List ChainMark → ℕ → Bool
is_chained marks x = (slice_index_or marks x unmarked).chained

abbrev pub is_lost : List ChainMark → ℕ → Bool
is_lost marks x = (slice_index_or marks x unmarked).lost

-- the marks are those of all chains of the slots ss
pub record Marked (nx : ℕ → ℕ) (is_dead : ℕ → Bool) (ss : List Slot) (marks : List ChainMark) : Type 0 where
  pub chained : (x : ℕ) → x ≤ 291 → is_chained marks x ≡ chained_in nx ss x
  pub lost : (x : ℕ) → x ≤ 291 → is_lost marks x ≡ lost_in nx is_dead ss x

-- os says what becomes of each pointer of the page p
abbrev pub Decides : (ℕ → ℕ) → (ℕ → Bool) → List ℕ → List Outcome → Type 0
Decides nx is_dead p os = (k : ℕ) → k < count_of p → outcome_in os (k + 1) ≡ outcome nx is_dead (view_of p) (k + 1)

-- What a prune makes of the page p by the outcomes os, told along the numbers of its pointers.

abbrev pub changed_along : (ℕ → Outcome) → List ℕ → Bool
changed_along os p = list_any (λ n. is_change (os n)) (range_with_len 1 (count_of p))

abbrev pub removed_along : (ℕ → Outcome) → List ℕ → ℕ
removed_along os p =
    count_by (λ n. loses_version (slot_of p (pointer_at p n)) (slot_after (os n) (slot_of p (pointer_at p n)))) (range_with_len 1 (count_of p))

abbrev pub made_dead_along : (ℕ → Outcome) → List ℕ → ℕ
made_dead_along os p =
    count_by (λ n. becomes_dead (slot_of p (pointer_at p n)) (slot_after (os n) (slot_of p (pointer_at p n)))) (range_with_len 1 (count_of p))

abbrev pub pruned_along : (ℕ → Outcome) → List ℕ → List ℕ
pruned_along os p = cond (changed_along os p) (compacted (repoint_to p os (count_of p))) p
