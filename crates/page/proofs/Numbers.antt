-- The numbers 1 to n as a list.
use Rattle.std.proofs.Common.{◌≡◌, ℕ, zero, suc, ◌+◌, List, [], ◌∷◌, ◌++◌, ap, ◌∙◌, add-zero, arith}
use Rattle.std.specs.List.{range_with_len}

range_end : (a n : ℕ) → range_with_len a (suc n) ≡ range_with_len a n ++ (a + n) ∷ []
range_end a zero = rw add-zero
range_end a (suc n) =
    let e : a + 1 + n ≡ a + suc n = omega arith in
    ap (λ (xs : List ℕ). a ∷ xs) (range_end (a + 1) n) ∙ ap (λ (k : ℕ). a ∷ (range_with_len (a + 1) n ++ k ∷ [])) e

-- one number more, at the end
pub numbers_end : (n : ℕ) → range_with_len 1 (suc n) ≡ range_with_len 1 n ++ (n + 1) ∷ []
numbers_end n = let e : 1 + n ≡ n + 1 = omega arith in range_end 1 n ∙ ap (λ (k : ℕ). range_with_len 1 n ++ k ∷ []) e
