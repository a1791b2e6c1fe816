-- The nearest of some numbers.
use Rattle.std.proofs.Common.{◌≡◌, ℕ, ◌<◌, ◌≤◌, cond, List, [], ◌∷◌, ◌++◌, length, get_or, refl, subst}
use Rattle.std.specs.List.{ContainsAt}
use Rattle.std.proofs.lemmas.List.MinMax.{IsStrictWeakOrder-by_number, IsFirstBest-from_best_of}
use Rattle.std.proofs.ByRecursion.{All-from_get_or, has_get_or}
use Rattle.std.proofs.lemmas.Bool.{ltb-false}
use Rattle.xid.specs.Numbers.{distance}
use Rattle.snapshot.specs.Snapshots.{nearer, nearest, xmins}
use Rattle.snapshot.specs.Laws.{Least, NearestIsLeast, HorizonIsLeast}

pub nearest_is_least : NearestIsLeast
nearest_is_least o n xs =
    let f = IsFirstBest-from_best_of (IsStrictWeakOrder-by_number (distance o)) n xs in
    let least : (k : ℕ) → k < length (n ∷ xs) → distance o (nearest o n xs) ≤ distance o (get_or (n ∷ xs) k n)
    = λ k h. subst (λ b. distance o b ≤ distance o (get_or (n ∷ xs) k n)) f.2 (ltb-false _ _ (f.1.1 k n h)) in
    record {
      least = All-from_get_or (λ y. distance o (nearest o n xs) ≤ distance o y) (n ∷ xs) n least;
      one_of = subst (ContainsAt (n ∷ xs)) f.2 (has_get_or (n ∷ xs) f.0 n f.1.0);
    }

-- the nearest of two lists, one after the other
pub nearest-append : (o n : ℕ) (xs ys : List ℕ) → nearest o n (xs ++ ys) ≡ nearest o (nearest o n xs) ys
nearest-append o n [] ys = refl
nearest-append o n (x ∷ xs) ys = nearest-append o (cond (nearer o x n) x n) xs ys

pub horizon_is_least : HorizonIsLeast
horizon_is_least o n active places = subst (Least o n (active ++ xmins places)) (nearest-append o n active (xmins places)) (nearest_is_least o n (active ++ xmins places))
