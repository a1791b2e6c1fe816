-- What the operations on the active numbers and the places answer and leave.
use Rattle.std.specs.Prelude.{ℕ, cond, not, List, [], ◌∷◌, ◌++◌, length, is_some, Some, None, Ok, Err, filter, Option, Result, ◌==◌, nat_lt, slice_index_or, slice_set}
use Rattle.refusal.specs.declared.Refusal.{Refusal}
use Rattle.refusal.specs.declared.Refusal.TheVariants.{NotActive, PlaceNotTaken, NoPlaceFree, TooManyActive}
use Rattle.snapshot.specs.Lists.{is_listed}
use Rattle.snapshot.specs.Snapshots.{SnapshotData, lowest_free}

-- enter: refused exactly if 64 numbers are listed; else x comes last
abbrev pub enter_answer : List ℕ → Result (Unit {0}) Refusal
enter_answer xs = cond (nat_lt (length xs) 64) (Ok tt) (Err TooManyActive)

abbrev pub after_enter : List ℕ → ℕ → List ℕ
after_enter xs x = cond (nat_lt (length xs) 64) (xs ++ (x ∷ [])) xs

-- strike: refused exactly if x is not listed; else the other numbers stay, in their order
abbrev pub strike_answer : List ℕ → ℕ → Result (Unit {0}) Refusal
strike_answer xs x = cond (is_listed x xs) (Ok tt) (Err NotActive)

abbrev pub after_strike : List ℕ → ℕ → List ℕ
after_strike xs x = cond (is_listed x xs) (filter (λ y. not (y == x)) xs) xs

-- take the lowest free place: refused exactly if none is free
abbrev pub take_answer : List (Option SnapshotData) → Result ℕ Refusal
take_answer ps = cond (nat_lt (lowest_free ps) 16) (Ok (lowest_free ps)) (Err NoPlaceFree)

abbrev pub after_take : List (Option SnapshotData) → SnapshotData → List (Option SnapshotData)
after_take ps s = cond (nat_lt (lowest_free ps) 16) (slice_set ps (lowest_free ps) (Some s)) ps

-- free a place: refused exactly if no snapshot stands there
abbrev pub free_answer : List (Option SnapshotData) → ℕ → Result (Unit {0}) Refusal
free_answer ps k = cond (is_some (slice_index_or ps k None)) (Ok tt) (Err PlaceNotTaken)

abbrev pub after_free : List (Option SnapshotData) → ℕ → List (Option SnapshotData)
after_free ps k = cond (is_some (slice_index_or ps k None)) (slice_set ps k None) ps
