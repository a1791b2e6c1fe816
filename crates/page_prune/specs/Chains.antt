-- The chains of a page, and what a prune takes from them. What a version links on to is a parameter here, and so is which
-- versions are dead: nx m is the number of the version that m links on to, or 0.
use Rattle.std.specs.Prelude.{◌≡◌, ℕ, zero, suc, ◌+◌, Bool, cond, ◌||◌, ◌⊎◌, List, [], ◌∷◌, length, ◌==◌}
use Rattle.std.specs.List.{list_any}
use Rattle.page.specs.Slots.{Slot, slot_at}
use Rattle.page.specs.Slots.Slot.{unused, dead, redirect, holds}
use Rattle.page_check.specs.All.{any_to}
use Rattle.page_check.specs.Rules.{name_of}
use Rattle.page_laws.specs.Chains.{chain}

-- nx links each slot of block b to what it names, or to nothing, and each redirect to its target
pub record Links (b : ℕ) (ss : List Slot) (nx : ℕ → ℕ) : Type 0 where
  pub names : (m : ℕ) → (nx m ≡ 0) ⊎ (nx m ≡ name_of b (slot_at ss) (slot_at ss m))
  pub redirects : (m t : ℕ) → slot_at ss m ≡ redirect t → nx m ≡ t

-- nx taken i times from m
abbrev pub walk : (ℕ → ℕ) → ℕ → ℕ → ℕ
walk nx zero m = m
walk nx (suc i) m = nx (walk nx i m)

-- where the chain of the slot m begins: 0 if it is no root, or dead
abbrev pub start_of : ℕ → Slot → ℕ
start_of m unused = 0
start_of m dead = 0
start_of m (redirect t) = t
start_of m (holds v) = cond v.heap_only 0 m

-- the chain of the slot m, which has no more members than there are slots
abbrev pub chain_of : (ℕ → ℕ) → List Slot → ℕ → List ℕ
chain_of nx ss m = chain nx (length ss + 1) (start_of m (slot_at ss m))

abbrev pub member : ℕ → List ℕ → Bool
member x = list_any (λ y. x == y)

abbrev pub any_dead : (ℕ → Bool) → List ℕ → Bool
any_dead = list_any

-- what a chain loses: its last dead member and all before it
abbrev pub lost : (ℕ → Bool) → List ℕ → List ℕ
lost is_dead [] = []
lost is_dead (m ∷ ms) = cond (is_dead m || any_dead is_dead ms) (m ∷ lost is_dead ms) []

-- what is left of it
abbrev pub left : (ℕ → Bool) → List ℕ → List ℕ
left is_dead [] = []
left is_dead (m ∷ ms) = cond (is_dead m || any_dead is_dead ms) (left is_dead ms) (m ∷ ms)

-- the version k lies in a chain
abbrev pub chained_in : (ℕ → ℕ) → List Slot → ℕ → Bool
chained_in nx ss k = any_to (λ r. member k (chain_of nx ss (r + 1))) (length ss)

-- a chain loses the version k
abbrev pub lost_in : (ℕ → ℕ) → (ℕ → Bool) → List Slot → ℕ → Bool
lost_in nx is_dead ss k = any_to (λ r. member k (lost is_dead (chain_of nx ss (r + 1)))) (length ss)
