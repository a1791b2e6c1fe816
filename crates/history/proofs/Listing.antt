-- Members of lists of numbers, places and their xmins, and functions changed at one argument.
use Rattle.std.proofs.Common.{◌≡◌, ℕ, zero, suc, ◌≤◌, Bool, true, false, ◌&&◌, ◌||◌, eqb, ◌⊎◌, List, [], ◌∷◌, ◌++◌, get_or, set, is_some, Some, None, Decides, filter, Option, sym, refl, ap, ◌∙◌, inl, inr, ⊎_elim, arith}
use Rattle.std.specs.List.{ContainsAt}
use Rattle.std.proofs.ByRecursion.{all-has}
use Rattle.std.proofs.lemmas.Bool.{cases_Bool, cases_eq, eq-eqb, ne_eqb, eqb-true, and_right, or_cases, or_left, or_right, cond_both, both_ways}
use Rattle.std.proofs.lemmas.Bool.Decides.{Decides-by_or, Decides-eqb, nat_tests}
use Rattle.xid.specs.Numbers.{distance}
use Rattle.snapshot.specs.Laws.{Least}
use Rattle.snapshot.specs.Lists.{is_listed}
use Rattle.snapshot.specs.Operations.{after_free}
use Rattle.snapshot.specs.Snapshots.{SnapshotData, xmins}
use Rattle.history.specs.Ledger.{with}

-- a function changed at one argument
module _ {A : Type 0} (f : ℕ → A) (i j : ℕ) (v : A) where
  pub with_same : j ≡ i → with f i v j ≡ v
  with_same e = rw (eq-eqb j i e)

  pub with_other : (j ≡ i → ⊥) → with f i v j ≡ f j
  with_other n = rw (ne_eqb j i n)

pub with_true : (f : ℕ → Bool) (i j : ℕ) → f j ≡ true → with f i true j ≡ true
with_true f i j h = cond_both (eqb j i) true (f j) (λ b. b ≡ true) (λ _. refl) (λ _. h)

-- Members.

pub listed_append : (x : ℕ) (xs ys : List ℕ) → is_listed x (xs ++ ys) ≡ (is_listed x xs || is_listed x ys)
listed_append x [] ys = refl
listed_append x (y ∷ xs) ys = let ih = listed_append x xs ys in grind (arith, nat_tests)

-- of what a test keeps
pub listed_kept_by : (x : ℕ) (f : ℕ → Bool) (xs : List ℕ) → is_listed x (filter f xs) ≡ (is_listed x xs && f x)
listed_kept_by x f [] = refl
listed_kept_by x f (y ∷ xs) = go (cases_Bool (f y)) (cases_eq y x) (listed_kept_by x f xs)
  where
    go : (f y ≡ true) ⊎ (f y ≡ false) → (y ≡ x) ⊎ (y ≡ x → ⊥) → is_listed x (filter f xs) ≡ (is_listed x xs && f x)
        → is_listed x (filter f (y ∷ xs)) ≡ (is_listed x (y ∷ xs) && f x)
    go (inl k) (inl e) ih = let k' : f x ≡ true = rw e at k in rw (k, eq-eqb y x e, k')
    go (inl k) (inr n) ih = rw (k, ne_eqb y x n) ih
    go (inr k) (inl e) ih = let k' : f x ≡ false = rw e at k in rw (k, eq-eqb y x e) (ih ∙ and_right _ _ k' ∙ sym k')
    go (inr k) (inr n) ih = rw (k, ne_eqb y x n) ih

pub listed_has : (x : ℕ) (xs : List ℕ) → Decides (is_listed x xs) (ContainsAt xs x)
listed_has x xs = Decides-by_or (λ y. eqb y x) (λ y. y ≡ x) (is_listed x) (λ y. Decides-eqb y x) refl (λ _ _. refl) xs

-- the nearest of n and some numbers is no further than each of them, and is n or one of them
module _ (o n : ℕ) (xs : List ℕ) (x : ℕ) (l : Least o n xs x) where
  pub least_upto : (y : ℕ) → is_listed y xs ≡ true → distance o x ≤ distance o y
  least_upto y m = all-has (λ z. distance o x ≤ distance o z) xs y l.least.1 ((listed_has y xs).0 m)

  pub least_one : (x ≡ n) ⊎ (is_listed x xs ≡ true)
  least_one = go (or_cases _ _ ((listed_has x (n ∷ xs)).1 l.one_of))
    where
      go : (eqb n x ≡ true) ⊎ (is_listed x xs ≡ true) → (x ≡ n) ⊎ (is_listed x xs ≡ true)
      go (inl e) = inl (sym (eqb-true n x e))
      go (inr m) = inr m

-- Places.

pub taken_some : (o : Option SnapshotData) → is_some o ≡ true → (sn : SnapshotData) × (o ≡ Some sn)
taken_some None e = absurd (both_ways false refl e)
taken_some (Some sn) e = (sn, refl)

pub xmins_has : (ps : List (Option SnapshotData)) (k : ℕ) (sn : SnapshotData) → get_or ps k None ≡ Some sn → is_listed sn.xmin (xmins ps) ≡ true
xmins_has [] k sn e = let z : ◌≡◌ {A = ℕ} 0 1 = cc in absurd (omega arith)
xmins_has (None ∷ ps) zero sn e = let z : ◌≡◌ {A = ℕ} 0 1 = cc in absurd (omega arith)
xmins_has (None ∷ ps) (suc k) sn e = xmins_has ps k sn e
xmins_has (Some s ∷ ps) zero sn e = let q : s ≡ sn = cc in or_left _ _ (eq-eqb s.xmin sn.xmin (ap (λ (z : SnapshotData). z.xmin) q))
xmins_has (Some s ∷ ps) (suc k) sn e = or_right (eqb s.xmin sn.xmin) _ (xmins_has ps k sn e)

-- an xmin is that of some place
pub xmins_from : (ps : List (Option SnapshotData)) (y : ℕ) → is_listed y (xmins ps) ≡ true → (k : ℕ) × (sn : SnapshotData) × (get_or ps k None ≡ Some sn) × (y ≡ sn.xmin)
xmins_from [] y e = absurd (both_ways false refl e)
xmins_from (None ∷ ps) y e = let r = xmins_from ps y e in (suc r.0, r.1, r.2, r.3)
xmins_from (Some sn ∷ ps) y e = ⊎_elim
    (λ z. (0, sn, refl, sym (eqb-true sn.xmin y z)))
    (λ z. let r = xmins_from ps y z in (suc r.0, r.1, r.2, r.3))
    (or_cases (eqb sn.xmin y) (is_listed y (xmins ps)) e)

emptied : (ps : List (Option SnapshotData)) (k j : ℕ) (sn : SnapshotData) → get_or (set ps k None) j None ≡ Some sn → get_or ps j None ≡ Some sn
emptied [] k j sn h = h
emptied (p ∷ ps) zero zero sn h = let z : ◌≡◌ {A = ℕ} 0 1 = cc in absurd (omega arith)
emptied (p ∷ ps) zero (suc j) sn h = h
emptied (p ∷ ps) (suc k) zero sn h = h
emptied (p ∷ ps) (suc k) (suc j) sn h = emptied ps k j sn h

-- a place that is taken after a release was taken before
pub freed : (ps : List (Option SnapshotData)) (k j : ℕ) (sn : SnapshotData) → get_or (after_free ps k) j None ≡ Some sn → get_or ps j None ≡ Some sn
freed ps k j sn = cond_both (is_some (get_or ps k None)) (set ps k None) ps (λ qs. get_or qs j None ≡ Some sn → get_or ps j None ≡ Some sn) (λ e. emptied ps k j sn) (λ e h. h)
