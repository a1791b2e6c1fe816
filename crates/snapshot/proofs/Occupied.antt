-- The places, as the code keeps them.
use Rattle.std.proofs.Common.{◌≡◌, ℕ, ◌+◌, ◌<◌, ◌≤◌, List, [], ◌∷◌, cond, map, length, get_or, set, is_some, Some, None, Option, sym, refl, ap, ◌∙◌, ⊎_elim, arith}
use Rattle.std.specs.Option.{option_map}
use Rattle.std.specs.Prelude.{nat_lt}
use Rattle.std.specs.List.{fold, prefix_len}
use Rattle.std.proofs.lemmas.List.{get_or-map, get_or_past, length-map, map-set, set_past}
use Rattle.std.proofs.lemmas.Bool.{cases_lt, lt-ltb, le-ltb, cond-true, cond-false}
use Rattle.snapshot.specs.declared.snapshots.Snapshot.{Snapshot}
use Rattle.snapshot.specs.Snapshots.{SnapshotData, data_of, lowest_free, first_free, nearer, nearest, xmins}

abbrev pub seen : List (Option Snapshot) → List (Option SnapshotData)
seen at = map (option_map data_of) at

is_some_mapped : {A B : Type 0} (f : A → B) (o : Option A) → is_some (option_map f o) ≡ is_some o
is_some_mapped f None = refl
is_some_mapped f (Some x) = refl

-- what stands at a place, also where there is no such place
pub seen_at : (at : List (Option Snapshot)) (k : ℕ) → get_or (seen at) k None ≡ option_map data_of (get_or at k None)
seen_at at k = ⊎_elim
    (λ h. get_or-map (option_map data_of) at k None None h)
    (λ h. get_or_past (seen at) k None (omega (arith, length-map at (option_map data_of))) ∙ ap (option_map data_of) (sym (get_or_past at k None h)))
    (cases_lt k (length at))

pub taken_at : (at : List (Option Snapshot)) (k : ℕ) → is_some (get_or (seen at) k None) ≡ is_some (get_or at k None)
taken_at at k = ap is_some (seen_at at k) ∙ is_some_mapped data_of (get_or at k None)

lowest_seen : (at : List (Option Snapshot)) → lowest_free (seen at) ≡ prefix_len is_some at
lowest_seen [] = refl
lowest_seen (None ∷ at) = refl
lowest_seen (Some s ∷ at) = ap (λ n. 1 + n) (lowest_seen at)

-- the first of the 16 places that is not taken
pub first_is : (at : List (Option Snapshot)) (i : ℕ) → i < 16 → prefix_len is_some at ≡ i → Some i ≡ first_free (seen at)
first_is at i here e =
    let lowest : lowest_free (seen at) ≡ i = lowest_seen at ∙ e in
    let inside = lt-ltb (lowest_free (seen at)) 16 (omega (arith, lowest)) in
    sym (cond-true (nat_lt (lowest_free (seen at)) 16) (Some (lowest_free (seen at))) None inside ∙ ap Some lowest)

pub none_is : (at : List (Option Snapshot)) → 16 ≤ prefix_len is_some at → None ≡ first_free (seen at)
none_is at e =
    let past = le-ltb (lowest_free (seen at)) 16 (omega (arith, e, lowest_seen at)) in
    sym (cond-false (nat_lt (lowest_free (seen at)) 16) (Some (lowest_free (seen at))) None past)

-- a snapshot put at a place, and none where there is no such place
pub put_at_lem : (at : List (Option Snapshot)) (k : ℕ) (s : Option Snapshot) → seen (set at k s) ≡ set (seen at) k (option_map data_of s)
put_at_lem at k s = map-set (option_map data_of) at k s

pub put_past : (at : List (Option Snapshot)) (k : ℕ) (s : Option Snapshot) → length at ≤ k → seen at ≡ set (seen at) k (option_map data_of s)
put_past at k s h = sym (set_past (seen at) k (option_map data_of s) (omega (arith, length-map at (option_map data_of))))

-- the nearer one of the best so far and the xmin at a place, if a snapshot stands there
abbrev pub nearer_at : ℕ → ℕ → Option Snapshot → ℕ
nearer_at o best None = best
nearer_at o best (Some s) = cond (nearer o s.xmin best) s.xmin best

pub nearest_seen : (o best : ℕ) (at : List (Option Snapshot)) → fold (nearer_at o) best at ≡ nearest o best (xmins (seen at))
nearest_seen o best [] = refl
nearest_seen o best (None ∷ at) = nearest_seen o best at
nearest_seen o best (Some s ∷ at) = nearest_seen o (cond (nearer o s.xmin best) s.xmin best) at
