-- The lowest visible version above an address.
use Rattle.std.specs.Prelude.{ℕ, Bool, false, cond, ◌&&◌, List, [], length, Some, None, Option, ◌==◌, nat_lt, slice_index_or}
use Rattle.std.specs.Option.{option_map}
use Rattle.page.specs.Headers.{count_of}
use Rattle.page.specs.Slots.{Slot, slot_no}
use Rattle.page.specs.Slots.Slot.{unused, dead, redirect, holds}
use Rattle.page.specs.declared.versions.Address.{Address}
use Rattle.page_check.specs.All.{first_below, first_to}
use Rattle.xid.specs.declared.statuses.Status.{Status}
use Rattle.snapshot.specs.Snapshots.{SnapshotData}
use Rattle.heap_read.specs.Fates.{visible}
use Rattle.heap_read.specs.declared.found.Found.{Found}

abbrev pub visible_slot : (ℕ → Status) → SnapshotData → Slot → Bool
visible_slot told s unused = false
visible_slot told s dead = false
visible_slot told s (redirect t) = false
visible_slot told s (holds v) = visible told s v

-- the number n, where it lies above a and f holds of it
abbrev pub above : (ℕ → Bool) → ℕ → ℕ → Option ℕ
above f a n = cond (nat_lt a n && f n) (Some n) None

-- the lowest pointer of a page above a whose version is visible
abbrev pub next_on : (ℕ → Status) → SnapshotData → List ℕ → ℕ → Option ℕ
next_on told s p a = first_to (above (λ n. visible_slot told s (slot_no p n)) a) (count_of p)

abbrev pub address_in : ℕ → ℕ → Address
address_in block pointer = record { block = block; pointer = pointer }

-- where the search begins in block k: behind the address in its own block, at the start in those above
abbrev pub start_in : Address → ℕ → ℕ
start_in a k = cond (k == a.block) a.pointer 0

-- the lowest address above a whose version is visible, over the pages of a heap
abbrev pub next_in : (ℕ → Status) → SnapshotData → List (List ℕ) → Address → Option Address
next_in told s pages a =
    first_below (λ k. cond (nat_lt k a.block) None (option_map (address_in k) (next_on told s (slice_index_or pages k []) (start_in a k)))) (length pages)

-- what a reading hands out: an address, and the row of its version
pub record FoundRow : Type 0 where
  pub address : Address
  pub row : List ℕ

abbrev pub found_in : Address → Slot → Option FoundRow
found_in a unused = None
found_in a dead = None
found_in a (redirect t) = None
found_in a (holds v) = Some (record { address = a; row = v.row })

-- the version at an address of a heap
abbrev pub found_at : List (List ℕ) → Address → Option FoundRow
found_at pages a = found_in a (slot_no (slice_index_or pages a.block []) a.pointer)

-- the version that was found, where one was
abbrev pub handed : List (List ℕ) → Option Address → Option FoundRow
handed pages None = None
handed pages (Some a) = found_at pages a

-- the code's form of it
abbrev pub handed_out : Option Found → Option FoundRow
handed_out None = None
handed_out (Some f) = Some (record { address = f.address; row = f.row.now })
