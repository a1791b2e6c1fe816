-- The worked example of docs/upkeep.md: pointers 1, 2 and 5 are roots, 3, 4 and 6 heap-only. The chain of 1 is 1, 3, 4, that
-- of 2 is 2 alone, that of 5 is 5 alone, and 6 lies in none; 3, 5 and 6 are dead.
use Rattle.std.specs.Prelude.{◌≡◌, ℕ, Bool, true, false, List, [], ◌∷◌, Some, None, Option}
use Rattle.page.specs.Slots.{Version, Slot}
use Rattle.page.specs.Slots.Slot.{unused, dead, redirect, holds}
use Rattle.page_prune.specs.Members.{next_in, dead_in}
use Rattle.page_prune.specs.declared.chains.Member.{Member}
use Rattle.page_prune.specs.Pruned.{pruned_slots, versions_removed, pointers_made_dead}

abbrev version : ℕ → ℕ → Bool → ℕ → Version
version creator remover heap_only pointer = record {
  creator = creator;
  remover = remover;
  creator_committed = false;
  creator_invalid = false;
  remover_committed = false;
  remover_invalid = false;
  updated = heap_only;
  hot_updated = true;
  heap_only = heap_only;
  ctid = record { block = 0; pointer = pointer };
  row = [];
}

abbrev slots : List Slot
slots =
    holds (version 100 103 false 3) ∷ holds (version 100 104 false 6) ∷ holds (version 103 101 true 4)
    ∷ holds (version 101 0 true 4) ∷ holds (version 104 0 false 5) ∷ holds (version 104 0 true 6) ∷ []

abbrev linked : Option ℕ → Bool → Member
linked next dead? = record { next = next; dead = dead? }

-- by pointer number, from 0
abbrev members : List Member
members =
    linked None false ∷ linked (Some 3) false ∷ linked None false ∷ linked (Some 4) true ∷ linked None false
    ∷ linked None true ∷ linked None true ∷ []

abbrev next : ℕ → ℕ
next = next_in members

abbrev is_dead : ℕ → Bool
is_dead = dead_in members

-- 1 goes although it is not dead, since 3 behind it is
abbrev pub WorkedExample : Type 0
WorkedExample =
    (pruned_slots next is_dead slots ≡ redirect 4 ∷ holds (version 100 104 false 6) ∷ unused ∷ holds (version 101 0 true 4) ∷ dead ∷ unused ∷ [])
    × (versions_removed next is_dead slots ≡ 4)
    × (pointers_made_dead next is_dead slots ≡ 1)
