-- Tests of all numbers of a range.
use Rattle.std.proofs.Common.{◌≡◌, ℕ, zero, suc, ◌+◌, Bool, true, false, not, ◌&&◌, [], ◌∷◌, map, sym, refl, ap, add-one, ◌∙◌, arith}
use Rattle.std.specs.List.{list_all, range_with_len}
use Rattle.std.proofs.lemmas.List.Folds.{list_all-append, list_all-map}
use Rattle.std.proofs.lemmas.List.FromFn.{map-range_with_len_more}
use Rattle.xid.specs.declared.statuses.Status.{Status}
use Rattle.xid.specs.Numbers.{number_at}
use Rattle.xid.specs.Statuses.{is_open}
use Rattle.xid.specs.Meaning.{none_open}

and_last : (a b : Bool) → (a && (b && true)) ≡ (b && a)
and_last true true = refl
and_last true false = refl
and_last false true = refl
and_last false false = refl

-- the last number of a range, after those before
all_more : (test : ℕ → Bool) (n : ℕ) → list_all test (range_with_len 0 (suc n)) ≡ (test n && list_all test (range_with_len 0 n))
all_more test n =
    ap (λ m. list_all test (range_with_len 0 m)) (sym (add-one n))
    ∙ sym (list_all-map (λ b. b) test (range_with_len 0 (n + 1)))
    ∙ ap (list_all (λ b. b)) (map-range_with_len_more test 0 n n (omega arith))
    ∙ list_all-append (λ b. b) (map test (range_with_len 0 n)) (test n ∷ [])
    ∙ and_last (list_all (λ b. b) (map test (range_with_len 0 n))) (test n)
    ∙ ap (λ a. test n && a) (list_all-map (λ b. b) test (range_with_len 0 n))

pub all_shut : (status : ℕ → Status) (oldest n : ℕ) → list_all (λ k. not (is_open (status (number_at oldest k)))) (range_with_len 0 n) ≡ none_open status oldest n
all_shut status oldest zero = refl
all_shut status oldest (suc n) =
    all_more (λ k. not (is_open (status (number_at oldest k)))) n ∙ ap (λ a. not (is_open (status (number_at oldest n))) && a) (all_shut status oldest n)
