-- A size with one bit set divides 2^30, so that the slots come round where the numbers do.
use Rattle.std.proofs.Common.{◌≡◌, ℕ, zero, suc, ◌+◌, ◌*◌, ◌/◌, ◌%◌, ◌^◌, ◌<◌, true, ◌&&◌, eqb, leb, sym, ap, ◌∙◌, subst, ⊎_elim, mul_assoc, one-mul, arith, lit<}
use native.Mathlib.Nat.{pow-succ', mul-mod_right}
use lib.Count.{ones, ones_step, ones-le}
use Rattle.std.proofs.lemmas.Bool.{cases_eq, and_parts, eqb-true}
use Rattle.clog.specs.Sound.{fitting_size}
use Rattle.clog.specs.Laws.{size_most}

half_below : (k n : ℕ) → n < 2 ^ suc k → n / 2 < 2 ^ k
half_below k n h = let b : n < 2 * 2 ^ k = subst (λ q. n < q) (pow-succ' 2 k) h in omega arith

-- no bit set: the number is 0
ones_none : (k n : ℕ) → n < 2 ^ k → ones n ≡ 0 → n ≡ 0
ones_none zero n h e = omega arith
ones_none (suc k) n h e =
    let s : ones n ≡ n % 2 + ones (n / 2) = ones_step n in
    let z : n / 2 ≡ 0 = ones_none k (n / 2) (half_below k n h) (omega arith) in
    omega arith

-- one bit set, below 2^(k+1): a divisor of 2^k
one_divides : (k n : ℕ) → n < 2 ^ suc k → ones n ≡ 1 → (q : ℕ) × (n * q ≡ 2 ^ k)
one_divides zero n h e =
    let some : n ≡ 0 → ⊥ = λ z. omega (arith, ap ones z, ones-le 0 0 (lit< tt)) in
    (1, omega arith)
one_divides (suc k) n h e = ⊎_elim odd (λ o. even o (one_divides k (n / 2) (half_below (suc k) n h) (omega (arith, ones_step n)))) (cases_eq (n % 2) 1)
  where
    odd : n % 2 ≡ 1 → (q : ℕ) × (n * q ≡ 2 ^ suc k)
    odd o =
        let s = ones_step n in
        let z : n / 2 ≡ 0 = ones_none (suc k) (n / 2) (half_below (suc k) n h) (omega arith) in
        let one : n ≡ 1 = omega arith in
        (2 ^ suc k, ap (λ m. m * 2 ^ suc k) one ∙ one-mul (2 ^ suc k))

    even : (n % 2 ≡ 1 → ⊥) → (q : ℕ) × (n / 2 * q ≡ 2 ^ k) → (q : ℕ) × (n * q ≡ 2 ^ suc k)
    even o r =
        let twice : n ≡ 2 * (n / 2) = omega arith in
        (r.0, ap (λ m. m * r.0) twice ∙ mul_assoc 2 (n / 2) r.0 ∙ ap (λ m. 2 * m) r.1 ∙ sym (pow-succ' 2 k))

pub size_divides : (n : ℕ) → fitting_size n ≡ true → 1073741824 % n ≡ 0
size_divides n e =
    let most = size_most n e in
    let r = one_divides 14 n (omega arith) (eqb-true (ones n) 1 (and_parts (leb 16 n && leb n 16384) (eqb (ones n) 1) e).1) in
    ap (λ m. m * 65536 % n) (sym r.1) ∙ ap (λ m. m % n) (mul_assoc n r.0 65536) ∙ mul-mod_right n (r.0 * 65536)
