-- What chains over the numbers 1 to n find, in the words of specs/All.
use Rattle.std.proofs.Common.{◌≡◌, ℕ, zero, suc, ◌+◌, ◌≤◌, Bool, true, false, cond, ◌&&◌, ◌||◌, List, [], ◌∷◌, Some, None, Option, refl, ap, ◌∙◌, count_by, arith}
use Rattle.std.specs.Option.{option_or, option_map}
use Rattle.std.specs.List.{range_with_len, list_all, list_any, find}
use Rattle.std.proofs.Math.Bool.{and_comm, or_comm, and-true, or-false}
use Rattle.std.proofs.lemmas.List.Folds.{list_all-append, list_any-append, find-append}
use Rattle.std.proofs.lemmas.List.Sums.{sum_by-append, count_by-le-length}
use Rattle.std.proofs.lemmas.List.FromFn.{length-range_with_len}
use Rattle.page.proofs.Numbers.{numbers_end}
use Rattle.page_check.specs.All.{any_to, each, count_to, first_to}

pub each_list : (f : ℕ → Bool) (n : ℕ) → list_all f (range_with_len 1 n) ≡ each f n
each_list f zero = refl
each_list f (suc n) =
    ap (list_all f) (numbers_end n) ∙ list_all-append f (range_with_len 1 n) ((n + 1) ∷ [])
    ∙ and_comm (list_all f (range_with_len 1 n)) (list_all f ((n + 1) ∷ []))
    ∙ ap (λ (b : Bool). list_all f ((n + 1) ∷ []) && b) (each_list f n)
    ∙ ap (λ (b : Bool). b && each f n) (and-true (f (n + 1)))

pub any_list : (f : ℕ → Bool) (n : ℕ) → list_any f (range_with_len 1 n) ≡ any_to (λ k. f (k + 1)) n
any_list f zero = refl
any_list f (suc n) =
    ap (list_any f) (numbers_end n) ∙ list_any-append f (range_with_len 1 n) ((n + 1) ∷ [])
    ∙ or_comm (list_any f (range_with_len 1 n)) (list_any f ((n + 1) ∷ []))
    ∙ ap (λ (b : Bool). list_any f ((n + 1) ∷ []) || b) (any_list f n)
    ∙ ap (λ (b : Bool). b || any_to (λ k. f (k + 1)) n) (or-false (f (n + 1)))

pub count_list : (f : ℕ → Bool) (n : ℕ) → count_by f (range_with_len 1 n) ≡ count_to f n
count_list f zero = refl
count_list f (suc n) =
    ap (count_by f) (numbers_end n) ∙ sum_by-append (λ k. cond (f k) 1 0) (range_with_len 1 n) ((n + 1) ∷ []) ∙ omega (arith, count_list f n)

pub count_small : (f : ℕ → Bool) (n : ℕ) → count_by f (range_with_len 1 n) ≤ n
count_small f n = let l = count_by-le-length f (range_with_len 1 n) in omega (arith, length-range_with_len 1 n)

mapped_or : {A B : Type 0} (g : A → B) (r s : Option A) → option_map g (option_or r s) ≡ option_or (option_map g r) (option_map g s)
mapped_or g None s = refl
mapped_or g (Some x) s = refl

mapped_one : {A : Type 0} (g : ℕ → A) (b : Bool) (k : ℕ) → option_map g (cond b (Some k) None) ≡ cond b (Some (g k)) None
mapped_one g true k = refl
mapped_one g false k = refl

-- the first number that a test finds, and what is made of it
pub first_list : {A : Type 0} (f : ℕ → Option A) (test : ℕ → Bool) (g : ℕ → A) (n : ℕ)
    → ((k : ℕ) → 1 ≤ k → k ≤ n → cond (test k) (Some (g k)) None ≡ f k) → option_map g (find test (range_with_len 1 n)) ≡ first_to f n
first_list f test g zero h = refl
first_list {A} f test g (suc n) h =
    ap (λ (xs : List ℕ). option_map g (find test xs)) (numbers_end n) ∙ ap (option_map g) (find-append test (range_with_len 1 n) ((n + 1) ∷ []))
    ∙ mapped_or g (find test (range_with_len 1 n)) (find test ((n + 1) ∷ []))
    ∙ ap (λ (r : Option A). option_or r (option_map g (find test ((n + 1) ∷ [])))) (first_list f test g n (λ k a b. h k a (omega arith)))
    ∙ ap (option_or (first_to f n)) (mapped_one g (test (n + 1)) (n + 1) ∙ h (n + 1) (omega arith) (omega arith))
