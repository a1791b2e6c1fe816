-- The slots of a page under writing.
use Rattle.std.specs.Prelude.{◌≡◌, ℕ, ◌+◌, ◌-◌, ◌<◌, ◌≤◌, Bool, true, false, cond, ◌&&◌, ◌||◌, ◌≢◌, List, [], ◌∷◌, ◌++◌, length, ◌==◌, nat_le, slice_index_or, slice_set}
use Rattle.page.specs.Slots.{Version, Slot, slot_at}
use Rattle.page.specs.Slots.Slot.{unused, dead, redirect, holds}
use Rattle.page_check.specs.Rules.{name_of, other_name}
use Rattle.page_room.specs.Room.{least_to}

abbrev pub is_free : Slot → Bool
is_free unused = true
is_free dead = false
is_free (redirect t) = false
is_free (holds v) = false

-- the number of the lowest unused slot, else one more than there are
abbrev pub free_slot : List Slot → ℕ
free_slot ss = least_to (λ k. is_free (slice_index_or ss k unused)) (length ss) + 1

-- slot n becomes s; it may be one more than there are
abbrev pub put_slot : List Slot → ℕ → Slot → List Slot
put_slot ss n s = cond (nat_le n (length ss)) (slice_set ss (n - 1) s) (ss ++ s ∷ [])

-- f is applied to the version of a slot
abbrev pub on_version : (Version → Version) → Slot → Slot
on_version f unused = unused
on_version f dead = dead
on_version f (redirect t) = redirect t
on_version f (holds v) = holds (f v)

-- a version that was HOT-updated to the pointer n of block b by the transaction t
abbrev pub awaits : ℕ → ℕ → ℕ → Slot → Bool
awaits b n t unused = false
awaits b n t dead = false
awaits b n t (redirect u) = false
awaits b n t (holds v) = v.hot_updated && v.ctid.block == b && v.ctid.pointer == n && v.remover == t

-- none of the slots awaits the pointer n and its creator t
abbrev pub NoneAwaits : ℕ → ℕ → ℕ → List Slot → Type 0
NoneAwaits b n t ss = (k : ℕ) → 1 ≤ k → k ≤ length ss → awaits b n t (slot_at ss k) ≡ false

-- no slot but m names what s names
abbrev pub NamesAlone : ℕ → List Slot → ℕ → Slot → Type 0
NamesAlone b ss m s =
    (k : ℕ) → 1 ≤ k → k ≤ length ss → k ≢ m → other_name (name_of b (slot_at ss) s) (name_of b (slot_at ss) (slot_at ss k)) ≡ true

-- no slot but m names the heap-only version at n
abbrev pub NoOtherNames : ℕ → List Slot → ℕ → ℕ → Type 0
NoOtherNames b ss m n = (k : ℕ) → 1 ≤ k → k ≤ length ss → k ≢ m → name_of b (slot_at ss) (slot_at ss k) ≢ n

-- w can be written over u: it is the same version with another remover, ctid or bits, and keeps the rules on those
pub record Replaces (u w : Version) : Type 0 where
  pub creator : w.creator ≡ u.creator
  pub heap_only : w.heap_only ≡ u.heap_only
  pub row : w.row ≡ u.row
  pub remover : w.remover < 4294967296
  pub block : w.ctid.block < 4294967296
  pub pointer : w.ctid.pointer < 65536
  pub one_bit : (w.remover_committed && w.remover_invalid) ≡ false
  pub number : (nat_le 3 w.remover || (w.remover == 0 && w.remover_invalid)) ≡ true

-- and it names what u named, or nothing
pub record Milder (u w : Version) : Type 0 where
  pub replaces : Replaces u w
  pub ctid : w.ctid ≡ u.ctid
  pub hot : w.hot_updated ≡ true → (u.hot_updated ≡ true) × (w.remover ≡ u.remover)
