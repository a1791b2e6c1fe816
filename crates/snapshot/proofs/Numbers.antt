-- Lists of numbers, as the code keeps them.
use Rattle.std.proofs.Common.{◌≡◌, ℕ, ◌+◌, ◌<◌, Bool, true, false, cond, ltb, List, [], ◌∷◌, ◌++◌, length, get_or, take, set, sym, ◌∙◌, subst, arith}
use Rattle.std.proofs.lemmas.List.Filters.{FiltersInPlace, FiltersInPlace-more_set, FiltersInPlace-more_no}
use Rattle.std.proofs.lemmas.List.{get_or_default, length-take-le, take_more_set}
use Rattle.std.proofs.lemmas.Bool.{lt-ltb, cond-true}

-- one number more at the end of the first n
module _ (items : List ℕ) (n x : ℕ) (all : length items ≡ 64) (room : n < 64) where
  pub has_room : ltb (length (take n items)) 64 ≡ true
  has_room = let len = length-take-le n items (omega arith) in lt-ltb (length (take n items)) 64 (omega arith)

  pub pushed : take (n + 1) (set items n x) ≡ cond (ltb (length (take n items)) 64) (take n items ++ (x ∷ [])) (take n items)
  pushed = take_more_set items n x (omega arith) ∙ sym (cond-true _ _ _ has_room)

-- a turn of the loop that keeps what passes: the number at i is written at k, or passed over
module _ (p : ℕ → Bool) (xs ys ys' : List ℕ) (k k' i : ℕ) (so_far : FiltersInPlace p xs ys k i) (here : i < length ys) where
  read : get_or ys i 0 ≡ get_or ys i (get_or ys i 0)
  read = get_or_default ys i 0 (get_or ys i 0) here

  pub keeps_one : p (get_or ys i 0) ≡ true → ys' ≡ set ys k (get_or ys i 0) → k' ≡ k + 1 → FiltersInPlace p xs ys' k' (i + 1)
  keeps_one y e f = subst (λ n. FiltersInPlace p xs ys' n (i + 1)) (sym f) (subst (λ zs. FiltersInPlace p xs zs (k + 1) (i + 1)) (sym e) (FiltersInPlace-more_set so_far here y read))

  pub drops_one : p (get_or ys i 0) ≡ false → ys' ≡ ys → k' ≡ k → FiltersInPlace p xs ys' k' (i + 1)
  drops_one n e f = subst (λ m. FiltersInPlace p xs ys' m (i + 1)) (sym f) (subst (λ zs. FiltersInPlace p xs zs k (i + 1)) (sym e) (FiltersInPlace-more_no so_far here n read))
