-- What holds of every snapshot that is taken of a lawful source.
use Rattle.std.proofs.Common.{◌≡◌, ℕ, ◌+◌, ◌<◌, ◌≤◌, true, List, [], ◌∷◌, filter, arith}
use Rattle.std.specs.List.{AllByRecursion}
use Rattle.std.proofs.ByRecursion.{all-has, All-weaker, kept_by_passes}
use Rattle.xid.specs.Numbers.{distance, in_window}
use Rattle.xid.specs.Meaning.{Meaning, Lawful}
use Rattle.xid.proofs.Windows.{Within, window_within, window_shrinks}
use Rattle.snapshot.specs.Snapshots.{nearest, snapshot_at, SnapshotFacts}
use Rattle.snapshot.proofs.Nearest.{nearest_is_least}

module _ (m : Meaning) (w : Lawful m) (active : List ℕ) where
  abbrev o : ℕ
  o = m.oldest

  abbrev n : ℕ
  n = m.next

  abbrev listed : List ℕ
  listed = filter (in_window m.oldest m.next) active

  abbrev xmin : ℕ
  xmin = nearest m.oldest m.next listed

  in_window_lem : AllByRecursion (Within o n) listed
  in_window_lem = All-weaker (λ x. in_window o n x ≡ true) (Within o n) (window_within o n) listed (kept_by_passes (in_window o n) active)

  xmin_high : xmin < 4294967296
  xmin_high = all-has (λ x. x < 4294967296) (n ∷ listed) xmin (w.next_high, All-weaker (Within o n) (λ x. x < 4294967296) (λ x i. i.high) listed in_window_lem)
      (nearest_is_least o n listed).one_of

  -- by way of xmin, which is no further than x
  by_xmin : (x : ℕ) → x < 4294967296 → distance o xmin ≤ distance o x → distance o xmin + distance xmin x ≡ distance o x
  by_xmin x xh le = window_shrinks o x xmin w.oldest_high xh xmin_high le

  to_next : distance o xmin + distance xmin n ≡ distance o n
  to_next = by_xmin n w.next_high (nearest_is_least o n listed).least.0

  both : (xs : List ℕ) → AllByRecursion (Within o n) xs → AllByRecursion (λ x. distance o xmin ≤ distance o x) xs → AllByRecursion (λ x. distance xmin x < distance xmin n) xs
  both [] a b = tt
  both (x ∷ xs) a b = (before x a.0 b.0, both xs a.1 b.1)
    where
      before : (x : ℕ) → Within o n x → distance o xmin ≤ distance o x → distance xmin x < distance xmin n
      before x i le = omega (arith, by_xmin x i.high le, to_next, i.near)

  pub snapshot_facts : SnapshotFacts (snapshot_at m.oldest m.next active)
  snapshot_facts = record {
    short = omega (arith, to_next, w.short);
    before = both listed in_window_lem (nearest_is_least o n listed).least.1;
  }
