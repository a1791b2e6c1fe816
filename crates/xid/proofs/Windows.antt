-- The window of a source, as it takes numbers in and gives them up.
use Rattle.std.proofs.Common.{◌≡◌, ℕ, ◌+◌, ◌<◌, ◌≤◌, true, false, ◌⊎◌, sym, ◌∙◌, subst, ⊎_elim, arith}
use Rattle.std.proofs.lemmas.Bool.{cases_Bool}
use Rattle.std.proofs.lemmas.Bool.Decides.{nat_tests}
use Rattle.xid.specs.Numbers.{distance, successor, in_window}
use Rattle.xid.proofs.Distances.{distance_below, distance_by, successor_steps}

-- what a number of the window is
pub record Within (o n x : ℕ) : Type 0 where
  pub low : 3 ≤ x
  pub high : x < 4294967296
  pub near : distance o x < distance o n

pub window_within : (o n x : ℕ) → in_window o n x ≡ true → Within o n x
window_within o n x h = record { low = grind (arith, nat_tests); high = grind (arith, nat_tests); near = grind (arith, nat_tests) }

pub within_window : (o n x : ℕ) → 3 ≤ x → x < 4294967296 → distance o x < distance o n → in_window o n x ≡ true
within_window o n x a b c = grind (arith, nat_tests)

-- the next number is not in the window
pub next_outside : (o n : ℕ) → in_window o n n ≡ false
next_outside o n = grind (arith, nat_tests)

-- the window that has taken n in: n and the numbers that it had
module _ (o n : ℕ) (ol : 3 ≤ o) (oh : o < 4294967296) (nl : 3 ≤ n) (nh : n < 4294967296) (short : distance o n < 2147483648) where
  pub window_takes : in_window o (successor n) n ≡ true
  window_takes = within_window o (successor n) n nl nh (⊎_elim (λ h. omega arith) (λ h. omega arith) (successor_steps o n ol oh nh short))

  pub window_more : (x : ℕ) → (x ≡ n → ⊥) → in_window o (successor n) x ≡ in_window o n x
  window_more x ne = ⊎_elim
      (λ (t : in_window o n x ≡ true). let i = window_within o n x t in
      within_window o (successor n) x i.low i.high (⊎_elim (λ h. omega arith) (λ h. omega arith) (successor_steps o n ol oh nh short)) ∙ sym t)
      (λ (f : in_window o n x ≡ false). ⊎_elim
      (λ (t : in_window o (successor n) x ≡ true). let i = window_within o (successor n) x t in
      let lt : distance o x < distance o n = ⊎_elim (λ h. omega arith) (λ h. omega arith) (successor_steps o n ol oh nh short) in
      t ∙ sym (within_window o n x i.low i.high lt))
      (λ g. g ∙ sym f)
      (cases_Bool (in_window o (successor n) x)))
      (cases_Bool (in_window o n x))

-- distances from c, which lies in the window of n or is n: oc, cx, cn, ox and on are those of c from o, of x from c and so on
later : (oc cx cn ox on : ℕ) → (oc + cx ≡ ox) ⊎ (oc + cx ≡ ox + 4294967296) → (oc + cn ≡ on) ⊎ (oc + cn ≡ on + 4294967296)
    → oc ≤ on → on < 4294967296 → cn < 4294967296 → cx < cn → (oc + cx ≡ ox) × (ox < on)
later oc cx cn ox on p q le h k lt = ⊎_elim
    (λ a. ⊎_elim (λ b. (a, omega arith)) (λ b. absurd (omega arith)) q)
    (λ a. ⊎_elim (λ b. absurd (omega arith)) (λ b. absurd (omega arith)) q) p

-- the window from c on: its numbers were in the window before, at the distance of c and more
module _ (o n c : ℕ) (oh : o < 4294967296) (nh : n < 4294967296) (ch : c < 4294967296) (le : distance o c ≤ distance o n) where
  pub window_from : (x : ℕ) → in_window c n x ≡ true → (in_window o n x ≡ true) × (distance o c + distance c x ≡ distance o x)
  window_from x t =
      let i = window_within c n x t in
      let l = later (distance o c) (distance c x) (distance c n) (distance o x) (distance o n) (distance_by o c x oh ch i.high) (distance_by o c n oh ch nh)
      le (distance_below o n) (distance_below c n) i.near in
      (within_window o n x i.low i.high l.1, l.0)

  pub window_shrinks : distance o c + distance c n ≡ distance o n
  window_shrinks = ⊎_elim (λ e. e) (λ e. absurd (omega (arith, distance_below c n, le, e))) (distance_by o c n oh ch nh)

-- a number of the window, or the next one, is a number within reach
pub reach : (o n c : ℕ) → 3 ≤ n → (in_window o n c ≡ true) ⊎ (c ≡ n) → (3 ≤ c) × (distance o c ≤ distance o n)
reach o n c h = ⊎_elim
    (λ t. let i = window_within o n c t in let low = i.low in let near = i.near in (low, omega arith))
    (λ e. (subst (λ k. 3 ≤ k) (sym e) h, subst (λ k. distance o k ≤ distance o n) (sym e) (omega arith)))
