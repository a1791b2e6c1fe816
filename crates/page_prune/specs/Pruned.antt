-- What a prune makes of a page: of its slots, of its bytes, and the two numbers that it answers.
use Rattle.std.specs.Prelude.{◌≡◌, ℕ, zero, suc, ◌+◌, ◌*◌, Bool, true, false, cond, not, ◌&&◌, ◌||◌, List, [], ◌∷◌, map, length, slice_index_or}
use Rattle.std.specs.List.{range_with_len}
use Rattle.page.specs.Bytes.{put32}
use Rattle.page.specs.Headers.{count_of}
use Rattle.page.specs.LinePointers.{word_of}
use Rattle.page.specs.Slots.{Slot, slot_at, view_of}
use Rattle.page.specs.Slots.Slot.{unused, dead, redirect, holds}
use Rattle.page.specs.declared.kinds.Kind.{Kind}
use Rattle.page.specs.declared.line_pointers.Pointer.TheVariants.{Unused, Redirect, Dead}
use Rattle.page_check.specs.All.{any_to, count_to}
use Rattle.page_check.specs.Rules.{is_heap_only}
use Rattle.page_check.specs.Lawful.{is_lawful}
use Rattle.page_compact.specs.Compaction.{compacted}
use Rattle.page_prune.specs.Chains.{Links, any_dead, left, chain_of, chained_in, lost_in}
use Rattle.page_prune.specs.declared.outcomes.Outcome.{Outcome}
use Rattle.page_prune.specs.declared.outcomes.Outcome.TheVariants.{Stays, Freed, MadeDead, Redirected}

-- What becomes of each slot.

-- a root leads to the first member left, or is dead where none is
abbrev pub leads_to : List ℕ → Outcome
leads_to [] = MadeDead
leads_to (t ∷ ts) = Redirected t

-- a root stays where its chain has no dead member
abbrev pub root_outcome : (ℕ → Bool) → List ℕ → Outcome
root_outcome is_dead ms = cond (any_dead is_dead ms) (leads_to (left is_dead ms)) Stays

-- a heap-only version goes where its chain loses it, or where it is dead and in no chain
abbrev pub heap_only_outcome : Bool → Bool → Bool → Outcome
heap_only_outcome lost? chained? dead? = cond (lost? || (dead? && not chained?)) Freed Stays

-- an unused slot and a dead one have no chain
abbrev pub outcome : (ℕ → ℕ) → (ℕ → Bool) → List Slot → ℕ → Outcome
outcome nx is_dead ss m =
    cond (is_heap_only (slot_at ss m))
    (heap_only_outcome (lost_in nx is_dead ss m) (chained_in nx ss m) (is_dead m))
    (root_outcome is_dead (chain_of nx ss m))

abbrev pub slot_after : Outcome → Slot → Slot
slot_after Stays s = s
slot_after Freed s = unused
slot_after MadeDead s = dead
slot_after (Redirected t) s = redirect t

-- the slot that the slot m becomes
abbrev pub pruned_slot : (ℕ → ℕ) → (ℕ → Bool) → List Slot → ℕ → Slot
pruned_slot nx is_dead ss m = slot_after (outcome nx is_dead ss m) (slot_at ss m)

abbrev pub pruned_slots : (ℕ → ℕ) → (ℕ → Bool) → List Slot → List Slot
pruned_slots nx is_dead ss = map (pruned_slot nx is_dead ss) (range_with_len 1 (length ss))

-- Whether a pointer changed, and the two numbers, by what becomes of each.

abbrev pub is_change : Outcome → Bool
is_change Stays = false
is_change Freed = true
is_change MadeDead = true
is_change (Redirected t) = true

abbrev pub changed_by : (ℕ → Outcome) → ℕ → Bool
changed_by os n = any_to (λ k. is_change (os (k + 1))) n

abbrev pub has_version : Slot → Bool
has_version unused = false
has_version dead = false
has_version (redirect t) = false
has_version (holds v) = true

abbrev pub is_dead_slot : Slot → Bool
is_dead_slot unused = false
is_dead_slot dead = true
is_dead_slot (redirect t) = false
is_dead_slot (holds v) = false

-- a slot had a version and has none now
abbrev pub loses_version : Slot → Slot → Bool
loses_version before after = has_version before && not (has_version after)

-- it was not dead and is now
abbrev pub becomes_dead : Slot → Slot → Bool
becomes_dead before after = is_dead_slot after && not (is_dead_slot before)

abbrev pub removed_by : (ℕ → Outcome) → List Slot → ℕ
removed_by os ss = count_to (λ n. loses_version (slot_at ss n) (slot_after (os n) (slot_at ss n))) (length ss)

abbrev pub made_dead_by : (ℕ → Outcome) → List Slot → ℕ
made_dead_by os ss = count_to (λ n. becomes_dead (slot_at ss n) (slot_after (os n) (slot_at ss n))) (length ss)

-- The bytes.

-- the line pointer n says what becomes of it
abbrev pub repointed : List ℕ → ℕ → Outcome → List ℕ
repointed p n Stays = p
repointed p n Freed = put32 p (20 + 4 * n) (word_of Unused)
repointed p n MadeDead = put32 p (20 + 4 * n) (word_of Dead)
repointed p n (Redirected t) = put32 p (20 + 4 * n) (word_of (Redirect t))

abbrev pub repoint_to : List ℕ → (ℕ → Outcome) → ℕ → List ℕ
repoint_to p os zero = p
repoint_to p os (suc n) = repointed (repoint_to p os n) (n + 1) (os (n + 1))

-- if a pointer changed, the versions that remain are laid anew
abbrev pub pruned_by : (ℕ → Outcome) → List ℕ → List ℕ
pruned_by os p = cond (changed_by os (count_of p)) (compacted (repoint_to p os (count_of p))) p

-- A prune.

abbrev pub pruned_page : (ℕ → ℕ) → (ℕ → Bool) → List ℕ → List ℕ
pruned_page nx is_dead p = pruned_by (outcome nx is_dead (view_of p)) p

abbrev pub versions_removed : (ℕ → ℕ) → (ℕ → Bool) → List Slot → ℕ
versions_removed nx is_dead ss = removed_by (outcome nx is_dead ss) ss

abbrev pub pointers_made_dead : (ℕ → ℕ) → (ℕ → Bool) → List Slot → ℕ
pointers_made_dead nx is_dead ss = made_dead_by (outcome nx is_dead ss) ss

-- a lawful page, by some table of kinds and of some block, and links along its names
pub record Prunable (p : List ℕ) (nx : ℕ → ℕ) : Type 0 where
  pub kinds : List Kind
  pub block : ℕ
  pub lawful : is_lawful kinds block p ≡ true
  pub links : Links block (view_of p) nx

-- what the table of outcomes says of a number
abbrev pub outcome_in : List Outcome → ℕ → Outcome
outcome_in os m = slice_index_or os m Stays
