-- The least number of which a test holds.
use Rattle.std.proofs.Common.{◌≡◌, ℕ, zero, suc, ◌+◌, ◌<◌, ◌≤◌, Bool, true, false, cond, not, ltb, List, [], ◌∷◌, length, get_or, is_some, unwrap_or, Some, None, Option, sym, refl, ap, ◌∙◌, ⊎_elim, arith}
use Rattle.std.proofs.lemmas.Bool.{cond-true, cond-false, lt-ltb, le-ltb, ltb-true, ltb-false, cases_lt, cases_Bool}
use Rattle.std.specs.Option.{option_or}
use Rattle.std.specs.List.{find, range_with_len, position, position_or_len}
use Rattle.std.proofs.lemmas.List.Folds.{find-append}
use Rattle.std.proofs.lemmas.List.Sums.{fails_before_first, passes_at_first, position_or_len_is, prefix_len-le-length}
use Rattle.page.proofs.Numbers.{numbers_end}
use Rattle.page_room.specs.Room.{least_to, takes, first_block_taking}

-- one number more, after those before
least_kept : (f : ℕ → Bool) (n : ℕ) → least_to f n < n → least_to f (suc n) ≡ least_to f n
least_kept f n l = cond-true (ltb (least_to f n) n) (least_to f n) (cond (f n) n (suc n)) (lt-ltb (least_to f n) n l)

least_last : (f : ℕ → Bool) (n : ℕ) → n ≤ least_to f n → least_to f (suc n) ≡ cond (f n) n (suc n)
least_last f n l = cond-false (ltb (least_to f n) n) (least_to f n) (cond (f n) n (suc n)) (le-ltb (least_to f n) n l)

-- f fails before r, and holds at r or r is the end
pub least_is : (f : ℕ → Bool) (n r : ℕ) → r ≤ n → ((k : ℕ) → k < r → f k ≡ false) → (r < n → f r ≡ true) → least_to f n ≡ r
least_is f zero r le before found = omega arith
least_is f (suc n) r le before found =
    ⊎_elim
    (λ (l : r < n).
    let e = least_is f n r (omega arith) before (λ z. found (omega arith)) in
    least_kept f n (omega arith) ∙ e)
    (λ (l : n ≤ r).
    let e = least_is f n n (omega arith) (λ k z. before k (omega arith)) (λ z. absurd (omega arith)) in
    least_last f n (omega arith) ∙
    ⊎_elim
    (λ (z : n < r). cond-false (f n) n (suc n) (before n z) ∙ omega arith)
    (λ (z : r ≤ n). let d : r ≡ n = omega arith in cond-true (f n) n (suc n) (rw d at (found (omega arith))) ∙ sym d)
    (cases_lt n r))
    (cases_lt r n)

pub least_le : (f : ℕ → Bool) (n : ℕ) → least_to f n ≤ n
least_le f zero = omega arith
least_le f (suc n) =
    ⊎_elim
    (λ (l : least_to f n < n). omega (arith, least_kept f n l))
    (λ (l : n ≤ least_to f n).
    let e = least_last f n l in
    ⊎_elim
    (λ (d : f n ≡ true). omega (arith, cond-true (f n) n (suc n) d))
    (λ (d : f n ≡ false). omega (arith, cond-false (f n) n (suc n) d))
    (cases_Bool (f n)))
    (cases_lt (least_to f n) n)

pub least_hit : (f : ℕ → Bool) (n : ℕ) → least_to f n < n → f (least_to f n) ≡ true
least_hit f zero l = absurd (omega arith)
least_hit f (suc n) l =
    ⊎_elim
    (λ (z : least_to f n < n). ap f (least_kept f n z) ∙ least_hit f n z)
    (λ (z : n ≤ least_to f n).
    let e = least_last f n z in
    ⊎_elim
    (λ (d : f n ≡ true). ap f (e ∙ cond-true (f n) n (suc n) d) ∙ d)
    (λ (d : f n ≡ false). absurd (omega (arith, cond-false (f n) n (suc n) d)))
    (cases_Bool (f n)))
    (cases_lt (least_to f n) n)

pub least_same : (f g : ℕ → Bool) (n : ℕ) → ((k : ℕ) → k < n → f k ≡ g k) → least_to f n ≡ least_to g n
least_same f g zero h = refl
least_same f g (suc n) h =
    ap (λ (x : ℕ). cond (ltb x n) x (cond (f n) n (suc n))) (least_same f g n (λ k l. h k (omega arith)))
    ∙ ap (λ (x : Bool). cond (ltb (least_to g n) n) (least_to g n) (cond x n (suc n))) (h n (omega arith))

-- What chains find, in these words.

pub block_position : (reserve n : ℕ) (pages : List (List ℕ)) → position (λ p. takes reserve p n) pages ≡ first_block_taking reserve pages n
block_position reserve n pages =
    let test = λ (p : List ℕ). takes reserve p n in
    ap (λ (k : ℕ). cond (ltb k (length pages)) (Some k) None)
    (sym (least_is (λ b. test (get_or pages b [])) (length pages) (position_or_len test pages) (prefix_len-le-length (λ p. not (test p)) pages)
    (λ k l. fails_before_first test pages k [] l) (passes_at_first test pages [])))

one_more : (t b : Bool) (l n : ℕ) → t ≡ ltb l n
    → option_or (cond t (Some (l + 1)) None) (cond b (Some (n + 1)) None)
    ≡ cond (ltb (cond t l (cond b n (suc n))) (suc n)) (Some (cond t l (cond b n (suc n)) + 1)) None
one_more true b l n e = let k : l < n = ltb-true l n (sym e) in rw (lt-ltb l (suc n) (omega arith)) refl
one_more false true l n e = rw (lt-ltb n (suc n) (omega arith)) refl
one_more false false l n e = rw (le-ltb (suc n) (suc n) (omega arith)) refl

find_least : (f : ℕ → Bool) (n : ℕ)
    → find f (range_with_len 1 n) ≡ cond (ltb (least_to (λ k. f (k + 1)) n) n) (Some (least_to (λ k. f (k + 1)) n + 1)) None
find_least f zero = refl
find_least f (suc n) =
    let l = least_to (λ k. f (k + 1)) n in
    ap (find f) (numbers_end n) ∙ find-append f (range_with_len 1 n) ((n + 1) ∷ [])
    ∙ ap (λ (r : Option ℕ). option_or r (cond (f (n + 1)) (Some (n + 1)) None)) (find_least f n)
    ∙ one_more (ltb l n) (f (n + 1)) l n refl

pub found_least : (f : ℕ → Bool) (n : ℕ) → unwrap_or (find f (range_with_len 1 n)) (n + 1) ≡ least_to (λ k. f (k + 1)) n + 1
found_least f n =
    let l = least_to (λ k. f (k + 1)) n in
    ap (λ (r : Option ℕ). unwrap_or r (n + 1)) (find_least f n) ∙ go (ltb l n) l refl (least_le (λ k. f (k + 1)) n)
  where
    go : (t : Bool) (l : ℕ) → t ≡ ltb l n → l ≤ n → unwrap_or (cond t (Some (l + 1)) None) (n + 1) ≡ l + 1
    go true l e le = refl
    go false l e le = let k : n ≤ l = ltb-false l n (sym e) in omega arith

pub some_least : (f : ℕ → Bool) (n : ℕ) → is_some (find f (range_with_len 1 n)) ≡ ltb (least_to (λ k. f (k + 1)) n) n
some_least f n = let l = least_to (λ k. f (k + 1)) n in ap is_some (find_least f n) ∙ go (ltb l n) l
  where
    go : (t : Bool) (l : ℕ) → is_some (cond t (Some (l + 1)) None) ≡ t
    go true l = refl
    go false l = refl

-- the first of a list that passes: none, where all fail, or the one behind those that fail
pub none_passes : {X : Type 0} (p : X → Bool) (d : X) (xs : List X) (i : ℕ) → i ≡ length xs → ((k : ℕ) → k < i → p (get_or xs k d) ≡ false) → None ≡ position p xs
none_passes p d xs i e fails =
    let at = position_or_len_is p xs i d (omega arith) fails (λ l. absurd (omega arith)) in
    sym (cond-false (ltb (position_or_len p xs) (length xs)) (Some (position_or_len p xs)) None (le-ltb (position_or_len p xs) (length xs) (omega (arith, at))))

pub first_passes : {X : Type 0} (p : X → Bool) (d : X) (xs : List X) (i : ℕ) → i < length xs → ((k : ℕ) → k < i → p (get_or xs k d) ≡ false) → p (get_or xs i d) ≡ true
    → Some i ≡ position p xs
first_passes p d xs i l fails passes =
    let at = position_or_len_is p xs i d (omega arith) fails (λ _. passes) in
    sym (cond-true (ltb (position_or_len p xs) (length xs)) (Some (position_or_len p xs)) None (lt-ltb (position_or_len p xs) (length xs) (omega (arith, at))) ∙ ap Some at)
