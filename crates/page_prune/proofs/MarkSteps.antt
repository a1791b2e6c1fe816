-- The marks of the members of a chain, in plain variables.
use Rattle.std.proofs.Common.{◌≡◌, ℕ, suc, ◌+◌, ◌-◌, ◌<◌, ◌≤◌, Bool, true, false, ◌||◌, eqb, List, [], ◌∷◌, ◌++◌, length, get_or, set, sym, ap, ◌∙◌, ⊎_elim, arith}
use Rattle.std.proofs.lemmas.List.{get_or-set_same, get_or-set_other}
use Rattle.std.proofs.lemmas.List.Folds.{list_any-append}
use Rattle.std.proofs.lemmas.Bool.{cases_eq, eq-eqb, ne_eqb, or_left, or_right}
use Rattle.std.proofs.Math.Bool.{or-false}
use Rattle.page_check.specs.All.{any_to}
use Rattle.page_prune.specs.Chains.{member}
use Rattle.page_prune.specs.Marking.{unmarked}
use Rattle.page_prune.specs.declared.marks.ChainMark.{ChainMark}

member_push : (x n : ℕ) (ys : List ℕ) → member x (ys ++ n ∷ []) ≡ (member x ys || (eqb x n || false))
member_push x n ys = list_any-append (λ y. eqb x y) ys (n ∷ [])

-- f is one of the two marks; n is marked by v
module _ (f : ChainMark → Bool) (ms : List ChainMark) (n : ℕ) (v : ChainMark) (l : n < length ms) where
  pub passed_more : (x : ℕ) (ys : List ℕ) (b : Bool) → f v ≡ true → f (get_or ms x unmarked) ≡ (member x ys || b) → f (get_or (set ms n v) x unmarked) ≡ (member x (ys ++ n ∷ []) || b)
  passed_more x ys b t h =
      ⊎_elim
      (λ (e : x ≡ n).
      ap (λ (k : ℕ). f (get_or (set ms n v) k unmarked)) e ∙ ap f (get_or-set_same ms n v unmarked l) ∙ t
      ∙ sym (or_left (member x (ys ++ n ∷ [])) b (member_push x n ys ∙ or_right (member x ys) (eqb x n || false) (or_left (eqb x n) false (eq-eqb x n e)))))
      (λ (e : x ≡ n → ⊥).
      ap f (get_or-set_other ms n x v unmarked e) ∙ h
      ∙ ap (λ (c : Bool). c || b) (sym (member_push x n ys ∙ ap (λ (c : Bool). member x ys || (c || false)) (ne_eqb x n e) ∙ or-false (member x ys))))
      (cases_eq x n)

  pub kept_more : (x : ℕ) (b : Bool) → f v ≡ f (get_or ms n unmarked) → f (get_or ms x unmarked) ≡ b → f (get_or (set ms n v) x unmarked) ≡ b
  kept_more x b t h =
      ⊎_elim
      (λ (e : x ≡ n).
      ap (λ (k : ℕ). f (get_or (set ms n v) k unmarked)) e ∙ ap f (get_or-set_same ms n v unmarked l) ∙ t ∙ ap (λ (k : ℕ). f (get_or ms k unmarked)) (sym e) ∙ h)
      (λ (e : x ≡ n → ⊥). ap f (get_or-set_other ms n x v unmarked e) ∙ h)
      (cases_eq x n)

-- one chain more is marked
pub chains_more : (g : ℕ → List ℕ) (x n : ℕ) (ms : List ℕ) (b : Bool) → 1 ≤ n → ms ≡ g n → b ≡ any_to (λ r. member x (g (r + 1))) (n - 1)
    → (member x ms || b) ≡ any_to (λ r. member x (g (r + 1))) (n + 1 - 1)
chains_more g x n ms b l e h =
    let s : n + 1 - 1 ≡ suc (n - 1) = omega arith in
    let t : n ≡ n - 1 + 1 = omega arith in
    ap (λ (xs : List ℕ). member x xs || b) (e ∙ ap g t) ∙ ap (λ (c : Bool). member x (g (n - 1 + 1)) || c) h
    ∙ sym (ap (any_to (λ r. member x (g (r + 1)))) s)
