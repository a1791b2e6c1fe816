-- A list of numbers.
use Rattle.std.specs.Prelude.{◌≡◌, ℕ, Bool, false, ◌||◌, List, [], ◌∷◌, take, ◌==◌}
use Rattle.snapshot.specs.declared.lists.XidList.{XidList}

abbrev pub numbers_of : XidList → List ℕ
numbers_of l = take l.len l.items

abbrev pub is_listed : ℕ → List ℕ → Bool
is_listed x [] = false
is_listed x (y ∷ ys) = y == x || is_listed x ys

-- what a test may answer is what p says
abbrev pub Computes : (ℕ → Bool → Type 0) → (ℕ → Bool) → Type 0
Computes answers p = (x : ℕ) (r : Bool) → answers x r → r ≡ p x
