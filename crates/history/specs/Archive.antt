-- An archive: its pages as bytes, and what it knows of transactions.
use Rattle.std.specs.Prelude.{ℕ, Bool, ◌&&◌, ◌||◌, List, [], Option, ◌==◌, nat_lt, slice_index_or}
use Rattle.page.specs.Slots.{Slot, slot_no}
use Rattle.page.specs.declared.kinds.Kind.{Kind}
use Rattle.page.specs.declared.versions.Address.{Address}
use Rattle.xid.specs.Meaning.{Meaning}
use Rattle.snapshot.specs.Snapshots.{SnapshotData, horizon_of}

-- what the status source means, the active numbers in order of beginning, and the snapshot places
pub record Transactions : Type 0 where
  pub source : Meaning
  pub active : List ℕ
  pub places : List (Option SnapshotData)

-- the table of kinds that rows are held to, the bytes of each page, and the transactions
pub record Archive : Type 0 where
  pub kinds : List Kind
  pub pages : List (List ℕ)
  pub xacts : Transactions

abbrev pub page_at : List (List ℕ) → ℕ → List ℕ
page_at pages b = slice_index_or pages b []

-- the slot at an address: unused where there is no such page or pointer
abbrev pub slot_in : List (List ℕ) → Address → Slot
slot_in pages a = slot_no (page_at pages a.block) a.pointer

-- the order of addresses: a lies above b
abbrev pub is_above : Address → Address → Bool
is_above a b = nat_lt b.block a.block || (b.block == a.block && nat_lt b.pointer a.pointer)

abbrev pub same_address : Address → Address → Bool
same_address a b = a.block == b.block && a.pointer == b.pointer

-- the horizon of the active numbers and the registered snapshots
abbrev pub horizon : Transactions → ℕ
horizon t = horizon_of t.source.oldest t.source.next t.active t.places
