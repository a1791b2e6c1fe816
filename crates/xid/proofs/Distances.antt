-- Distances between numbers, and the order that they give.
use Rattle.std.proofs.Common.{◌≡◌, ℕ, ◌+◌, ◌-◌, ◌<◌, ◌≤◌, true, cond, eqb, ltb, leb, ◌⊎◌, ap, ◌∙◌, inl, inr, ⊎_elim, arith, lit<}
use Rattle.std.proofs.lemmas.Bool.{cases_lt, cases_eq, eq-eqb, ne_eqb, leb-true}
use Rattle.std.proofs.lemmas.Nat.{mod_below}
use Rattle.std.proofs.lemmas.Bool.Decides.{nat_tests}
use Rattle.xid.specs.Numbers.{distance, number_at, precedes, successor}

pub distance_below : (o x : ℕ) → distance o x < 4294967296
distance_below o x = mod_below ((x + 4294967296) - o) 4294967296 (lit< tt)

pub distance_self : (o : ℕ) → o < 4294967296 → distance o o ≡ 0
distance_self o h = omega arith

-- by way of b: the two distances make the whole one, or one round more
pub distance_by : (o b x : ℕ) → o < 4294967296 → b < 4294967296 → x < 4294967296
    → (distance o b + distance b x ≡ distance o x) ⊎ (distance o b + distance b x ≡ distance o x + 4294967296)
distance_by o b x oh bh xh = ⊎_elim
    (λ (h : distance o b + distance b x < 4294967296). inl (omega arith))
    (λ (h : 4294967296 ≤ distance o b + distance b x). inr (omega arith))
    (cases_lt (distance o b + distance b x) 4294967296)

-- the two distances of two numbers make one round
pub distance_back : (a b : ℕ) → a < 4294967296 → b < 4294967296 → (a ≡ b → ⊥) → distance a b + distance b a ≡ 4294967296
distance_back a b ah bh ne = omega arith

-- numbers at one distance are one number
pub distance_apart : (o x y : ℕ) → o < 4294967296 → x < 4294967296 → y < 4294967296 → distance o x ≡ distance o y → x ≡ y
distance_apart o x y oh xh yh e = omega arith

pub number_at-distance : (o x : ℕ) → o < 4294967296 → x < 4294967296 → number_at o (distance o x) ≡ x
number_at-distance o x oh xh = omega arith

pub distance-number_at : (o d : ℕ) → o < 4294967296 → d < 4294967296 → distance o (number_at o d) ≡ d
distance-number_at o d oh dh = omega arith

pub number_at_high : (o d : ℕ) → number_at o d < 4294967296
number_at_high o d = mod_below (o + d) 4294967296 (lit< tt)

-- the successor is one further on, and four further at the end
pub successor_steps : (o n : ℕ) → 3 ≤ o → o < 4294967296 → n < 4294967296 → distance o n < 2147483648
    → ((successor n ≡ n + 1) × (n + 1 < 4294967296) × (distance o (successor n) ≡ distance o n + 1))
    ⊎ ((successor n ≡ 3) × (n ≡ 4294967295) × (distance o (successor n) ≡ distance o n + 4))
successor_steps o n ol oh nh d = ⊎_elim
    (λ (e : n ≡ 4294967295). let a : successor n ≡ 3 = rw eq-eqb in inr (a, e, ap (distance o) a ∙ omega arith))
    (λ (e : n ≡ 4294967295 → ⊥). let a : successor n ≡ n + 1 = rw ne_eqb in inl (a, omega arith, ap (distance o) a ∙ omega arith))
    (cases_eq n 4294967295)

pub successor-distance : (o n : ℕ) → 3 ≤ o → o < 4294967296 → n < 4294967296 → distance o n < 2147483648
    → distance o (successor n) ≡ distance o n + cond (eqb n 4294967295) 4 1
successor-distance o n ol oh nh d = ⊎_elim
    (λ h. let ne : n ≡ 4294967295 → ⊥ = λ e. omega (arith, h.1) in h.2 ∙ rw ne_eqb)
    (λ h. let e : n ≡ 4294967295 = h.1 in h.2 ∙ rw eq-eqb)
    (successor_steps o n ol oh nh d)

-- from oa and ob, the distances of a and b from o, and ba, that of a from b
order_by : (oa ob ba : ℕ) → (ob + ba ≡ oa) ⊎ (ob + ba ≡ oa + 4294967296) → ba < 4294967296 → oa < 2147483648 → ob < 2147483648
    → leb 2147483648 ba ≡ ltb oa ob
order_by oa ob ba t h p q = ⊎_elim (λ e. grind (arith, nat_tests)) (λ e. grind (arith, nat_tests)) t

pub order_in_window : (o a b : ℕ) → o < 4294967296 → a < 4294967296 → b < 4294967296 → distance o a < 2147483648 → distance o b < 2147483648
    → precedes a b ≡ ltb (distance o a) (distance o b)
order_in_window o a b oh ah bh p q = order_by (distance o a) (distance o b) (distance b a) (distance_by o b a oh bh ah) (distance_below b a) p q

both_by : (ab ba : ℕ) → ab + ba ≡ 4294967296 → 2147483648 ≤ ab → 2147483648 ≤ ba → ab ≡ 2147483648
both_by ab ba e p q = omega arith

pub not_both_before : (a b : ℕ) → a < 4294967296 → b < 4294967296 → precedes a b ≡ true → precedes b a ≡ true → distance a b ≡ 2147483648
not_both_before a b ah bh p q =
    let u : 2147483648 ≤ distance b a = leb-true 2147483648 (distance b a) p in
    let v : 2147483648 ≤ distance a b = leb-true 2147483648 (distance a b) q in
    ⊎_elim
    (λ (e : a ≡ b). absurd (omega arith))
    (λ (ne : a ≡ b → ⊥). both_by (distance a b) (distance b a) (distance_back a b ah bh ne) v u)
    (cases_eq a b)
