-- The loop that lays the versions, in plain variables.
use Rattle.std.proofs.Common.{◌≡◌, ℕ, suc, ◌+◌, ◌-◌, List, add-one}
use Rattle.page.specs.LinePointers.{pointer_at}
use Rattle.page_compact.specs.Compaction.{top_to, laid_to, laid, size_of}

pub top_to_more : (p : List ℕ) (i : ℕ) → top_to p (i + 1) ≡ top_to p i - size_of (pointer_at p (i + 1))
top_to_more p i = rw add-one

pub laid_to_more : (p : List ℕ) (i : ℕ) → laid_to p (i + 1) ≡ laid p (laid_to p i) (top_to p i - size_of (pointer_at p (i + 1))) (i + 1) (pointer_at p (i + 1))
laid_to_more p i = rw add-one

pub laid_step : (old q q' : List ℕ) (n m t t' : ℕ) → n ≡ suc m → q ≡ laid_to old m → t ≡ top_to old m
    → t' ≡ t - size_of (pointer_at old n)
    → q' ≡ laid old q (t - size_of (pointer_at old n)) n (pointer_at old n)
    → (q' ≡ laid_to old n) × (t' ≡ top_to old n)
laid_step old q q' n m t t' s a b d e = (rw s (rw a at rw b at rw s at e), rw s (rw b at rw s at d))
