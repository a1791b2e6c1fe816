-- What a change of the pages does to the slots: S is the slot at each address before, S' afterwards.
use Rattle.std.proofs.Common.{◌≡◌, ℕ, Bool, List}
use Rattle.page.specs.Slots.{Version, Slot}
use Rattle.page.specs.Slots.Slot.{unused, holds}
use Rattle.page.specs.declared.versions.Address.{Address}
use Rattle.page_write_laws.specs.Slots.{on_version}
use Rattle.page_prune.specs.Pruned.{pruned_slot}
use Rattle.heap_read.specs.Reading.{address_in}

-- a version is put into an unused slot
pub record Puts (S S' : Address → Slot) (n : Address) (w : Version) : Type 0 where
  pub was : S n ≡ unused
  pub here : S' n ≡ holds w
  pub others : (a : Address) → (a ≡ n → ⊥) → S' a ≡ S a

-- the version at one address is changed
pub record Changes (S S' : Address → Slot) (a : Address) (g : Version → Version) : Type 0 where
  pub here : S' a ≡ on_version g (S a)
  pub others : (c : Address) → (c ≡ a → ⊥) → S' c ≡ S c

-- each version of block b is changed
pub record Remarks (S S' : Address → Slot) (b : ℕ) (g : Version → Version) : Type 0 where
  pub on : (a : Address) → a.block ≡ b → S' a ≡ on_version g (S a)
  pub off : (a : Address) → (a.block ≡ b → ⊥) → S' a ≡ S a

-- block b, with the slots ss, is pruned: nx has the links of its slots, and gone says which are dead
pub record Prunes (S S' : Address → Slot) (b : ℕ) (nx : ℕ → ℕ) (gone : ℕ → Bool) (ss : List Slot) : Type 0 where
  pub on : (p : ℕ) → S' (address_in b p) ≡ pruned_slot nx gone ss p
  pub off : (a : Address) → (a.block ≡ b → ⊥) → S' a ≡ S a
