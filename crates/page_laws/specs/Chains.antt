-- The walk along links from pointer to pointer.
use Rattle.std.specs.Prelude.{ℕ, zero, suc, List, [], ◌∷◌}

-- the pointers from m on along nx, m itself first, f of them at most; 0 is none
abbrev pub chain : (ℕ → ℕ) → ℕ → ℕ → List ℕ
chain nx zero m = []
chain nx (suc f) zero = []
chain nx (suc f) (suc m) = suc m ∷ chain nx f (nx (suc m))
