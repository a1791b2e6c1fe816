-- A code is read back where it was put, and no other code is touched.
use Rattle.std.proofs.Common.{◌≡◌, ℕ, zero, suc, ◌*◌, ◌/◌, ◌%◌, ◌^◌, ◌<◌, List, length, get_or, sym, refl, ap, ◌∙◌, ⊎_elim, arith, length-set}
use native.Mathlib.Nat.{zero-div}
use Rattle.std.proofs.lemmas.Nat.{mod_below}
use Rattle.std.proofs.lemmas.List.{get_or_past, get_or-set_same, get_or-set_other}
use Rattle.std.proofs.lemmas.Bool.{cases_eq}
use Rattle.clog.specs.Codes.{code_in, with_code, code_at, put_code}

-- no memory: each code reads 0
pub code_none : (memory : List ℕ) (x : ℕ) → length memory ≡ 0 → code_at memory x ≡ 0
code_none memory x e =
    ap (λ b. code_in b (x % 4)) (get_or_past memory (x / 4 % length memory) 0 (omega arith)) ∙ ap (λ b. b % 4) (zero-div (2 ^ (2 * (x % 4))))

-- what holds of the four places of a byte
each_place : (P : ℕ → Type 0) → P 0 → P 1 → P 2 → P 3 → (k : ℕ) → k < 4 → P k
each_place P a b c d zero h = a
each_place P a b c d (suc zero) h = b
each_place P a b c d (suc (suc zero)) h = c
each_place P a b c d (suc (suc (suc zero))) h = d
each_place P a b c d (suc (suc (suc (suc k)))) h = absurd (omega arith)

code_same : (b k v : ℕ) → k < 4 → v < 4 → code_in (with_code b k v) k ≡ v
code_same b k v h l = each_place (λ k. code_in (with_code b k v) k ≡ v) (omega arith) (omega arith) (omega arith) (omega arith) k h

code_other : (b j k v : ℕ) → j < 4 → k < 4 → v < 4 → (j ≡ k → ⊥) → code_in (with_code b k v) j ≡ code_in b j
code_other b j k v h l m =
    each_place (λ k. (j ≡ k → ⊥) → code_in (with_code b k v) j ≡ code_in b j)
    (each_place (λ j. (j ≡ 0 → ⊥) → code_in (with_code b 0 v) j ≡ code_in b j) (λ n. absurd (n refl)) (λ _. omega arith) (λ _. omega arith) (λ _. omega arith) j h)
    (each_place (λ j. (j ≡ 1 → ⊥) → code_in (with_code b 1 v) j ≡ code_in b j) (λ _. omega arith) (λ n. absurd (n refl)) (λ _. omega arith) (λ _. omega arith) j h)
    (each_place (λ j. (j ≡ 2 → ⊥) → code_in (with_code b 2 v) j ≡ code_in b j) (λ _. omega arith) (λ _. omega arith) (λ n. absurd (n refl)) (λ _. omega arith) j h)
    (each_place (λ j. (j ≡ 3 → ⊥) → code_in (with_code b 3 v) j ≡ code_in b j) (λ _. omega arith) (λ _. omega arith) (λ _. omega arith) (λ n. absurd (n refl)) j h)
    k l

pub code_put : (memory : List ℕ) (x v : ℕ) → 0 < length memory → v < 4 → code_at (put_code memory x v) x ≡ v
code_put memory x v l h =
    let b : x / 4 % length memory < length memory = mod_below (x / 4) (length memory) l in
    let k : x % 4 < 4 = omega arith in
    simp (length-set, get_or-set_same memory (x / 4 % length memory) (with_code (get_or memory (x / 4 % length memory) 0) (x % 4) v) 0 b)
    (code_same (get_or memory (x / 4 % length memory) 0) (x % 4) v k h)

-- numbers that share no slot
pub code_kept : (memory : List ℕ) (x y v : ℕ) → 0 < length memory → v < 4 → (x / 4 % length memory ≡ y / 4 % length memory → x % 4 ≡ y % 4 → ⊥)
    → code_at (put_code memory x v) y ≡ code_at memory y
code_kept memory x y v l h ne = ⊎_elim
    (λ (e : y / 4 % length memory ≡ x / 4 % length memory).
    let b : x / 4 % length memory < length memory = mod_below (x / 4) (length memory) l in
    let k : x % 4 < 4 = omega arith in
    let j : y % 4 < 4 = omega arith in
    let w = with_code (get_or memory (x / 4 % length memory) 0) (x % 4) v in
    simp (length-set, e, get_or-set_same memory (x / 4 % length memory) w 0 b)
    (code_other (get_or memory (x / 4 % length memory) 0) (y % 4) (x % 4) v j k h (λ z. ne (sym e) (sym z))))
    (λ (d : y / 4 % length memory ≡ x / 4 % length memory → ⊥).
    let w = with_code (get_or memory (x / 4 % length memory) 0) (x % 4) v in
    simp (length-set, get_or-set_other memory (x / 4 % length memory) (y / 4 % length memory) w 0 d))
    (cases_eq (y / 4 % length memory) (x / 4 % length memory))

pub length_put : (memory : List ℕ) (x v : ℕ) → length (put_code memory x v) ≡ length memory
length_put memory x v = length-set memory (x / 4 % length memory) (with_code (get_or memory (x / 4 % length memory) 0) (x % 4) v)
