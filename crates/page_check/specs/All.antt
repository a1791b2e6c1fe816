-- Tests over all the numbers below a bound, and over the rules of a list.
use Rattle.std.specs.Prelude.{ℕ, zero, suc, ◌+◌, Bool, true, false, cond, ◌&&◌, ◌||◌, List, [], ◌∷◌, Some, None, Option}
use Rattle.std.specs.Option.{option_or}

-- f holds of each number below n
abbrev pub all_to : (ℕ → Bool) → ℕ → Bool
all_to f zero = true
all_to f (suc n) = f n && all_to f n

-- f holds of some number below n
abbrev pub any_to : (ℕ → Bool) → ℕ → Bool
any_to f zero = false
any_to f (suc n) = f n || any_to f n

-- f holds of each of the numbers 1 to n
abbrev pub each : (ℕ → Bool) → ℕ → Bool
each f n = all_to (λ k. f (k + 1)) n

-- of how many of the numbers 1 to n f holds
abbrev pub count_to : (ℕ → Bool) → ℕ → ℕ
count_to f zero = 0
count_to f (suc n) = cond (f (n + 1)) 1 0 + count_to f n

-- what f finds at the first of the numbers below n at which it finds something
abbrev pub first_below : {A : Type 0} → (ℕ → Option A) → ℕ → Option A
first_below f zero = None
first_below f (suc n) = option_or (first_below f n) (f n)

-- the same of the numbers 1 to n
abbrev pub first_to : {A : Type 0} → (ℕ → Option A) → ℕ → Option A
first_to f n = first_below (λ k. f (k + 1)) n

-- all rules of a list hold
abbrev pub all_of : {R : Type 0} → (R → Bool) → List R → Bool
all_of holds [] = true
all_of holds (r ∷ rs) = holds r && all_of holds rs

-- the first rule of a list that does not hold
abbrev pub first_of : {R : Type 0} → (R → Bool) → List R → Option R
first_of holds [] = None
first_of holds (r ∷ rs) = cond (holds r) (first_of holds rs) (Some r)
