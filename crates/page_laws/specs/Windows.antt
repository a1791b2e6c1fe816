-- Two lists of bytes that agree on a stretch.
use Rattle.std.specs.Prelude.{◌≡◌, ℕ, ◌+◌, ◌<◌, ◌≤◌, List, slice_index}
use Rattle.page.specs.declared.line_pointers.Pointer.{Pointer}
use Rattle.page.specs.declared.line_pointers.Pointer.TheVariants.{Unused, Normal, Redirect, Dead}

-- p and q hold the same from a to e
abbrev pub Same : ℕ → ℕ → List ℕ → List ℕ → Type 0
Same a e p q = (k : ℕ) → a ≤ k → k < e → slice_index p k ≡ slice_index q k

-- they hold the same version of a pointer
abbrev pub SameOf : Pointer → List ℕ → List ℕ → Type 0
SameOf Unused p q = Unit {0}
SameOf (Normal o n) p q = Same o (o + n) p q
SameOf (Redirect t) p q = Unit {0}
SameOf Dead p q = Unit {0}
