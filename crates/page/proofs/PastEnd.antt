-- Past the end of a list of bytes all is 0.
use Rattle.std.proofs.Common.{◌≡◌, ℕ, ◌+◌, ◌≤◌, List, length, get_or, arith}
use Rattle.std.proofs.lemmas.List.{get_or_past}
use Rattle.page.specs.Bytes.{get32}

pub get32_past : (p : List ℕ) (i : ℕ) → length p ≤ i → get32 p i ≡ 0
get32_past p i h =
    let past : (k : ℕ) → i ≤ k → get_or p k 0 ≡ 0 = λ k l. get_or_past p k 0 (omega arith) in
    omega (arith, past i (omega arith), past (i + 1) (omega arith), past (i + 2) (omega arith), past (i + 3) (omega arith))
