-- Stretches that lie apart have together no more places than their span.
use Rattle.std.proofs.Common.{◌≡◌, ℕ, zero, suc, ◌+◌, ◌-◌, ◌<◌, ◌≤◌, min, ◌⊎◌, refl, inl, inr, ⊎_elim, arith}
use Rattle.std.proofs.lemmas.Bool.{cases_eq}

abbrev pub sum_to : (ℕ → ℕ) → ℕ → ℕ
sum_to g zero = 0
sum_to g (suc n) = sum_to g n + g n

sum_zero : (g : ℕ → ℕ) (n : ℕ) → ((k : ℕ) → k < n → g k ≡ 0) → sum_to g n ≡ 0
sum_zero g zero h = refl
sum_zero g (suc n) h = omega (arith, sum_zero g n (λ k l. h k (omega arith)), h n (omega arith))

-- at most one of the terms is above 0
sum_one : (g : ℕ → ℕ) (n : ℕ) → ((k : ℕ) → k < n → g k ≤ 1) → ((j k : ℕ) → j < k → k < n → (g j ≡ 0) ⊎ (g k ≡ 0)) → sum_to g n ≤ 1
sum_one g zero small h = omega arith
sum_one g (suc n) small h =
    ⊎_elim
    (λ (z : g n ≡ 0). omega (arith, sum_one g n (λ k l. small k (omega arith)) (λ j k l m. h j k l (omega arith))))
    (λ (z : g n ≡ 0 → ⊥).
    let none = sum_zero g n (λ k l. ⊎_elim (λ (e : g k ≡ 0). e) (λ (e : g n ≡ 0). absurd (z e)) (h k n l (omega arith))) in
    omega (arith, small n (omega arith)))
    (cases_eq (g n) 0)

sum_add : (f g e : ℕ → ℕ) (n : ℕ) → ((k : ℕ) → k < n → e k ≡ f k + g k) → sum_to e n ≡ sum_to f n + sum_to g n
sum_add f g e zero h = refl
sum_add f g e (suc n) h = omega (arith, sum_add f g e n (λ k l. h k (omega arith)), h n (omega arith))

sum_same : (f g : ℕ → ℕ) (n : ℕ) → ((k : ℕ) → k < n → f k ≡ g k) → sum_to f n ≡ sum_to g n
sum_same f g zero h = refl
sum_same f g (suc n) h = omega (arith, sum_same f g n (λ k l. h k (omega arith)), h n (omega arith))

-- the part of s to s + z that lies below h
abbrev clip : ℕ → ℕ → ℕ → ℕ
clip s z h = min h (s + z) - s

-- n stretches from s k on, of z k places, lie apart
abbrev pub Apart : (ℕ → ℕ) → (ℕ → ℕ) → ℕ → Type 0
Apart s z n = (j k : ℕ) → j < k → k < n → (z j ≡ 0) ⊎ ((z k ≡ 0) ⊎ ((s j + z j ≤ s k) ⊎ (s k + z k ≤ s j)))

clip_once : (s t y z h : ℕ) → (y ≡ 0) ⊎ ((z ≡ 0) ⊎ ((s + y ≤ t) ⊎ (t + z ≤ s)))
    → (clip s y (h + 1) - clip s y h ≡ 0) ⊎ (clip t z (h + 1) - clip t z h ≡ 0)
clip_once s t y z h o =
    ⊎_elim (λ e. inl e) (λ (e : clip s y (h + 1) - clip s y h ≡ 0 → ⊥). inr (omega arith)) (cases_eq (clip s y (h + 1) - clip s y h) 0)

below : (s z : ℕ → ℕ) (n lo d : ℕ) → ((k : ℕ) → k < n → (z k ≡ 0) ⊎ (lo ≤ s k)) → Apart s z n → sum_to (λ k. clip (s k) (z k) (lo + d)) n ≤ d
below s z n lo zero above apart =
    omega (arith, sum_zero (λ k. clip (s k) (z k) (lo + 0)) n (λ k l. let a = above k l in omega arith))
below s z n lo (suc d) above apart =
    let one = sum_one (λ k. clip (s k) (z k) ((lo + d) + 1) - clip (s k) (z k) (lo + d)) n (λ k l. omega arith)
    (λ j k l m. clip_once (s j) (s k) (z j) (z k) (lo + d) (apart j k l m)) in
    let add = sum_add (λ k. clip (s k) (z k) (lo + d)) (λ k. clip (s k) (z k) ((lo + d) + 1) - clip (s k) (z k) (lo + d)) (λ k. clip (s k) (z k) (lo + suc d)) n
    (λ k l. omega arith) in
    omega (arith, below s z n lo d above apart)

-- stretches that lie apart between lo and hi have at most hi - lo places
pub packing : (s z : ℕ → ℕ) (n lo hi : ℕ) → lo ≤ hi → ((k : ℕ) → k < n → (z k ≡ 0) ⊎ (lo ≤ s k)) → ((k : ℕ) → k < n → (z k ≡ 0) ⊎ (s k + z k ≤ hi)) → Apart s z n
    → lo + sum_to z n ≤ hi
packing s z n lo hi le above inside apart =
    let all = sum_same (λ k. clip (s k) (z k) (lo + (hi - lo))) z n (λ k l. let a = inside k l in omega arith) in
    omega (arith, below s z n lo (hi - lo) above apart)
