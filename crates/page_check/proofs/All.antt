-- Tests over all the numbers below a bound, and what is found first.
use Rattle.std.proofs.Common.{◌≡◌, ℕ, zero, suc, ◌+◌, ◌-◌, ◌<◌, ◌≤◌, Bool, true, false, cond, not, ◌&&◌, List, [], ◌∷◌, is_some, Some, None, Option, sym, refl, ap, ◌∙◌, ⊎_elim, add-one, arith}
use Rattle.std.specs.Option.{option_or, option_map}
use Rattle.std.proofs.lemmas.Bool.{and_from, and_left, and_right, and_parts, and_cases, or_cases, or_parts, or_left, or_right, or_from, both_ways, cases_eq}
use Rattle.page_check.specs.All.{all_to, any_to, each, first_below, first_to, all_of, first_of}

pub all_to_from : (f : ℕ → Bool) (n : ℕ) → ((k : ℕ) → k < n → f k ≡ true) → all_to f n ≡ true
all_to_from f zero h = refl
all_to_from f (suc n) h = and_from (f n) (all_to f n) (h n (omega arith)) (all_to_from f n (λ k l. h k (omega arith)))

pub all_to_false : (f : ℕ → Bool) (i n : ℕ) → i < n → f i ≡ false → all_to f n ≡ false
all_to_false f i zero h e = absurd (omega arith)
all_to_false f i (suc n) h e =
    ⊎_elim
    (λ (q : i ≡ n). and_left (f n) (all_to f n) (rw (sym q) e))
    (λ q. and_right (f n) (all_to f n) (all_to_false f i n (omega arith) e))
    (cases_eq i n)

pub all_to_at : (f : ℕ → Bool) (n k : ℕ) → all_to f n ≡ true → k < n → f k ≡ true
all_to_at f zero k h l = absurd (omega arith)
all_to_at f (suc n) k h l =
    let both = and_parts (f n) (all_to f n) h in
    ⊎_elim (λ (q : k ≡ n). rw q both.0) (λ q. all_to_at f n k both.1 (omega arith)) (cases_eq k n)

pub all_to_miss : (f : ℕ → Bool) (n : ℕ) → all_to f n ≡ false → (k : ℕ) × (k < n) × (f k ≡ false)
all_to_miss f zero h = absurd (both_ways true h refl)
all_to_miss f (suc n) h =
    ⊎_elim
    (λ (e : f n ≡ false). (n, omega arith, e))
    (λ (e : all_to f n ≡ false). let r = all_to_miss f n e in (r.0, omega (arith, r.1), r.2))
    (and_cases (f n) (all_to f n) h)

-- one number more
pub any_to_more : (f : ℕ → Bool) (i : ℕ) → any_to f i ≡ false → f i ≡ false → any_to f (i + 1) ≡ false
any_to_more f i h e = rw add-one (or_from (f i) (any_to f i) e h)

pub any_to_true : (f : ℕ → Bool) (i n : ℕ) → i < n → f i ≡ true → any_to f n ≡ true
any_to_true f i zero h e = absurd (omega arith)
any_to_true f i (suc n) h e =
    ⊎_elim
    (λ (q : i ≡ n). or_left (f n) (any_to f n) (rw (sym q) e))
    (λ q. or_right (f n) (any_to f n) (any_to_true f i n (omega arith) e))
    (cases_eq i n)

pub any_to_none : (f : ℕ → Bool) (n k : ℕ) → any_to f n ≡ false → k < n → f k ≡ false
any_to_none f zero k h l = absurd (omega arith)
any_to_none f (suc n) k h l =
    let both = or_parts (f n) (any_to f n) h in
    ⊎_elim (λ (q : k ≡ n). rw q both.0) (λ q. any_to_none f n k both.1 (omega arith)) (cases_eq k n)

pub any_to_hit : (f : ℕ → Bool) (n : ℕ) → any_to f n ≡ true → (k : ℕ) × (k < n) × (f k ≡ true)
any_to_hit f zero h = absurd (both_ways false refl h)
any_to_hit f (suc n) h =
    ⊎_elim
    (λ (e : f n ≡ true). (n, omega arith, e))
    (λ (e : any_to f n ≡ true). let r = any_to_hit f n e in (r.0, omega (arith, r.1), r.2))
    (or_cases (f n) (any_to f n) h)

-- the numbers before i + 1
pub each_before : (f : ℕ → Bool) (i : ℕ) → each f (i + 1 - 1) ≡ each f i
each_before f i = let e : i + 1 - 1 ≡ i = omega arith in ap (each f) e

pub or_some : {A : Type 0} (r s : Option A) → is_some r ≡ true → r ≡ option_or r s
or_some None s h = absurd (both_ways false refl h)
or_some (Some x) s h = refl

-- one number more at which nothing is found
pub first_below_more : {A : Type 0} (f : ℕ → Option A) (i : ℕ) → first_below f i ≡ None → f i ≡ None → first_below f (i + 1) ≡ None
first_below_more f i h e = rw add-one (rw h e)

pub first_to_more : {A : Type 0} (f : ℕ → Option A) (i : ℕ) → first_to f i ≡ None → f (i + 1) ≡ None → first_to f (i + 1) ≡ None
first_to_more f i h e = first_below_more (λ k. f (k + 1)) i h e

-- what is found at i is found first
pub first_below_hit : {A : Type 0} (f : ℕ → Option A) (i n : ℕ) (r : Option A) → first_below f i ≡ None → i < n → r ≡ f i → is_some r ≡ true → r ≡ first_below f n
first_below_hit f i zero r h l e s = absurd (omega arith)
first_below_hit {A} f i (suc n) r h l e s =
    ⊎_elim
    (λ (q : i ≡ n). e ∙ (rw (sym q) (rw h refl)))
    (λ q. or_some r (f n) s ∙ ap (λ (o : Option A). option_or o (f n)) (first_below_hit f i n r h (omega arith) e s))
    (cases_eq i n)

pub first_to_hit : {A : Type 0} (f : ℕ → Option A) (i n : ℕ) (r : Option A) → first_to f i ≡ None → i < n → r ≡ f (i + 1) → is_some r ≡ true → r ≡ first_to f n
first_to_hit f i n r h l e s = first_below_hit (λ k. f (k + 1)) i n r h l e s

-- nothing is found up to the end
pub first_to_end : {A : Type 0} (f : ℕ → Option A) (i n : ℕ) → first_to f i ≡ None → i ≡ n → None ≡ first_to f n
first_to_end f i n h e = sym h ∙ ap (first_to f) e

or_first : {A : Type 0} (r s : Option A) → option_or r s ≡ None → r ≡ None
or_first None s e = refl
or_first (Some x) s e = e

-- nothing below i is nothing below an earlier n
pub first_below_less : {A : Type 0} (f : ℕ → Option A) (i n : ℕ) → first_below f i ≡ None → n ≤ i → first_below f n ≡ None
first_below_less f zero n h l = let e : n ≡ 0 = omega arith in rw e refl
first_below_less f (suc i) n h l =
    ⊎_elim
    (λ (q : n ≡ suc i). rw q h)
    (λ q. first_below_less f i n (or_first (first_below f i) (f i) h) (omega arith))
    (cases_eq n (suc i))

-- nothing is found exactly where nothing is to be found
pub first_to_each : {A : Type 0} (f : ℕ → Option A) (n : ℕ) → not (is_some (first_to f n)) ≡ each (λ k. not (is_some (f k))) n
first_to_each f zero = refl
first_to_each {A} f (suc n) = joined (first_to f n) (f (n + 1)) (each (λ k. not (is_some (f k))) n) (first_to_each f n)
  where
    joined : (r s : Option A) (b : Bool) → not (is_some r) ≡ b → not (is_some (option_or r s)) ≡ (not (is_some s) && b)
    joined None None b e = e
    joined None (Some y) b e = refl
    joined (Some x) None b e = e
    joined (Some x) (Some y) b e = refl

pub first_of_all : {R : Type 0} (holds : R → Bool) (rs : List R) → not (is_some (first_of holds rs)) ≡ all_of holds rs
first_of_all holds [] = refl
first_of_all {R} holds (r ∷ rs) = step (holds r) (first_of_all holds rs)
  where
    step : (b : Bool) → not (is_some (first_of holds rs)) ≡ all_of holds rs → not (is_some (cond b (first_of holds rs) (Some r))) ≡ (b && all_of holds rs)
    step true e = e
    step false e = refl

pub is_some_mapped : {A B : Type 0} (f : A → B) (r : Option A) → is_some (option_map f r) ≡ is_some r
is_some_mapped f None = refl
is_some_mapped f (Some x) = refl
