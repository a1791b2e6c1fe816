-- What is found first below a bound, and above a number.
use Rattle.std.proofs.Common.{◌≡◌, ℕ, zero, suc, ◌+◌, ◌-◌, ◌<◌, ◌≤◌, Bool, true, false, cond, ltb, is_some, Some, None, Option, sym, refl, arith}
use Rattle.std.proofs.lemmas.Bool.{lt-ltb, le-ltb, cond-true, cond-false}
use Rattle.std.proofs.lemmas.Bool.Decides.{nat_tests}
use Rattle.page_check.specs.All.{first_below, first_to}
use Rattle.page_check.proofs.All.{first_below_hit}
use Rattle.heap_read.specs.Reading.{above}

module _ {A : Type 0} (f : ℕ → Option A) where
  pub none_below : (n : ℕ) → ((k : ℕ) → k < n → f k ≡ None) → first_below f n ≡ None
  none_below zero h = refl
  none_below (suc n) h = rw (none_below n (λ k l. h k (omega arith))) (h n (omega arith))

  pub found_below : (i n : ℕ) (r : Option A) → i < n → ((k : ℕ) → k < i → f k ≡ None) → r ≡ f i → is_some r ≡ true → r ≡ first_below f n
  found_below i n r l h = first_below_hit f i n r (none_below i h) l

module _ (f : ℕ → Bool) (a : ℕ) where
  above_miss : (n : ℕ) → (a < n → f n ≡ false) → above f a n ≡ None
  above_miss n h = grind (arith, nat_tests)

  above_there : (n : ℕ) → a < n → true ≡ f n → Some n ≡ above f a n
  above_there n l e = grind (arith, nat_tests)

  pub none_above : (i n : ℕ) → n < i → ((k : ℕ) → k < i → a < k → f k ≡ false) → None ≡ first_to (above f a) n
  none_above i n l h = sym (none_below (λ k. above f a (k + 1)) n (λ k x. above_miss (k + 1) (h (k + 1) (omega arith))))

  pub first_above : (i n : ℕ) → a < i → i ≤ n → ((k : ℕ) → k < i → a < k → f k ≡ false) → true ≡ f i → Some i ≡ first_to (above f a) n
  first_above i n l m h e =
      let q : i - 1 + 1 ≡ i = omega arith in
      found_below (λ k. above f a (k + 1)) (i - 1) n (Some i) (omega arith) (λ k x. above_miss (k + 1) (h (k + 1) (omega arith)))
      (rw q (above_there i l e)) refl

-- blocks before a are passed over, and those from a on are not
pub skip_before : {A : Type 0} (f : ℕ → Option A) (a i : ℕ) → i < a → cond (ltb i a) None (f i) ≡ None
skip_before f a i l = cond-true (ltb i a) None (f i) (lt-ltb i a l)

pub skip_at : {A : Type 0} (f : ℕ → Option A) (a i : ℕ) → a ≤ i → cond (ltb i a) None (f i) ≡ f i
skip_at f a i l = cond-false (ltb i a) None (f i) (le-ltb i a l)
