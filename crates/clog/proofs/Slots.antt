-- Each number of the window has a slot of its own.
use Rattle.std.proofs.Common.{◌≡◌, ℕ, ◌+◌, ◌*◌, ◌/◌, ◌%◌, ◌<◌, ◌≤◌, true, ◌⊎◌, List, length, ap, inl, inr, ⊎_elim, mul-le-mul_left, mul-add, arith}
use native.Mathlib.Nat.{div-add-mod}
use Rattle.std.proofs.lemmas.Bool.{cases_lt, cases_eq, cases_order}
use Rattle.xid.specs.Numbers.{distance, in_window}
use Rattle.xid.proofs.Windows.{window_within}
use Rattle.clog.specs.Sound.{Sound}
use Rattle.clog.specs.Laws.{size_least, held_at_wrap, held_elsewhere}
use Rattle.clog.proofs.Sizes.{size_divides}

-- multiples of l are equal, or lie l apart
multiples : (l p r : ℕ) → (p ≡ r) ⊎ ((l * p + l ≤ l * r) ⊎ (l * r + l ≤ l * p))
multiples l p r = ⊎_elim inl (λ h. inr (⊎_elim
    (λ (k : p < r). let j : p + 1 ≤ r = omega arith in inl (omega (arith, mul-add l p 1, mul-le-mul_left l j)))
    (λ (k : r < p). let j : r + 1 ≤ p = omega arith in inr (omega (arith, mul-add l r 1, mul-le-mul_left l j))) h))
    (cases_order p r)

-- two numbers within 4l of o that share a slot are one number
same_slot : (l o x y : ℕ) → 0 < l → 1073741824 % l ≡ 0 → o < 4294967296 → x < 4294967296 → y < 4294967296
    → distance o x < 4 * l → distance o y < 4 * l → x / 4 % l ≡ y / 4 % l → x % 4 ≡ y % 4 → x ≡ y
same_slot l o x y pos round oh xh yh dx dy same low =
    go (x / 4 / l) (y / 4 / l) (1073741824 / l) (div-add-mod (x / 4) l) (div-add-mod (y / 4) l) (div-add-mod 1073741824 l)
  where
    go : (a b q : ℕ) → l * a + x / 4 % l ≡ x / 4 → l * b + y / 4 % l ≡ y / 4 → l * q + 1073741824 % l ≡ 1073741824 → x ≡ y
    go a b q ea eb eq = ⊎_elim
        (λ (xo : x < o). ⊎_elim
        (λ (yo : y < o). level (λ h. omega arith) (λ h. omega arith))
        (λ (yo : o ≤ y). ⊎_elim
        (λ e. let f : l * (a + q) ≡ l * b = ap (λ k. l * k) e in omega (arith, mul-add l a q))
        (⊎_elim (λ (h : l * (a + q) + l ≤ l * b). omega (arith, mul-add l a q)) (λ (h : l * b + l ≤ l * (a + q)). omega (arith, mul-add l a q)))
        (multiples l (a + q) b))
        (cases_lt y o))
        (λ (xo : o ≤ x). ⊎_elim
        (λ (yo : y < o). ⊎_elim
        (λ e. let f : l * a ≡ l * (b + q) = ap (λ k. l * k) e in omega (arith, mul-add l b q))
        (⊎_elim (λ (h : l * a + l ≤ l * (b + q)). omega (arith, mul-add l b q)) (λ (h : l * (b + q) + l ≤ l * a). omega (arith, mul-add l b q)))
        (multiples l a (b + q)))
        (λ (yo : o ≤ y). level (λ h. omega arith) (λ h. omega arith))
        (cases_lt y o))
        (cases_lt x o)
      where
        -- both on one side of o: neither lies a whole turn of the slots further on
        level : (l * a + l ≤ l * b → x ≡ y) → (l * b + l ≤ l * a → x ≡ y) → x ≡ y
        level up down = ⊎_elim (λ e. let f : l * a ≡ l * b = ap (λ k. l * k) e in omega arith) (⊎_elim up down) (multiples l a b)

-- a number of the window is within 4 times the length
slot_near : (memory : List ℕ) (o n x : ℕ) → Sound memory o n → in_window o n x ≡ true → distance o x < 4 * length memory
slot_near memory o n x s t =
    let i = window_within o n x t in
    let low = i.low in let high = i.high in let near = i.near in
    ⊎_elim
    (λ (e : n ≡ 3). let h = held_at_wrap memory o n s e in omega (arith, s.oldest_low, s.oldest_high))
    (λ (e : n ≡ 3 → ⊥). let h = held_elsewhere memory o n s e in omega arith)
    (cases_eq n 3)

-- x, of the window or next after a window with room, shares no slot with another number of the window
pub slots_apart : (memory : List ℕ) (o n x y : ℕ) → Sound memory o n → x < 4294967296 → distance o x < 4 * length memory → in_window o n y ≡ true
    → (y ≡ x → ⊥) → x / 4 % length memory ≡ y / 4 % length memory → x % 4 ≡ y % 4 → ⊥
slots_apart memory o n x y s xh near t ne p q =
    let least = size_least (length memory) s.size in
    let pos : 0 < length memory = omega arith in
    let e : y ≡ x = same_slot (length memory) o y x pos (size_divides (length memory) s.size) s.oldest_high (window_within o n y t).high xh
    (slot_near memory o n y s t) near (omega arith) (omega arith) in
    ne e

pub slots_apart_within : (memory : List ℕ) (o n x y : ℕ) → Sound memory o n → in_window o n x ≡ true → in_window o n y ≡ true
    → (y ≡ x → ⊥) → x / 4 % length memory ≡ y / 4 % length memory → x % 4 ≡ y % 4 → ⊥
slots_apart_within memory o n x y s t = slots_apart memory o n x y s (window_within o n x t).high (slot_near memory o n x s t)
