-- A register and a release keep the agreement: the snapshot that is taken keeps exactly who is committed by then.
use Rattle.std.proofs.Common.{◌≡◌, ℕ, ◌+◌, ◌<◌, ◌≤◌, Bool, true, false, not, ◌&&◌, ltb, ◌⊎◌, List, length, get_or, set, is_some, Some, None, filter, Option, sym, refl, ap, ◌∙◌, inl, inr, arith}
use Rattle.std.proofs.lemmas.List.{get_or-set_same, get_or-set_other, length-set}
use Rattle.std.proofs.lemmas.Bool.{cases_Bool, cases_eq, cases_lt, and_parts, and_from, and_left, cond_both, ltb-true, both_ways}
use Rattle.xid.specs.Line.{number_on}
use Rattle.xid.specs.Numbers.{in_window}
use Rattle.xid.specs.Statuses.{is_open}
use Rattle.snapshot.specs.Lists.{is_listed}
use Rattle.snapshot.specs.Operations.{after_free}
use Rattle.snapshot.specs.Snapshots.{SnapshotData, running, snapshot_at, nearest, lowest_free}
use Rattle.snapshot.proofs.Nearest.{nearest_is_least}
use Rattle.heap_upkeep.specs.Hints.{is_committed}
use Rattle.history.specs.Archive.{Transactions}
use Rattle.history.specs.Calls.Change.{register, release}
use Rattle.history.specs.Granted.{transactions_after}
use Rattle.history.specs.Ledger.{TransactionLog, with, registers}
use Rattle.history.proofs.Invariant.{KeptBy, Agrees}
use Rattle.history.proofs.Places.{distance_order}
use Rattle.history.proofs.Listing.{with_same, with_other, listed_kept_by, least_upto, least_one, freed}
use Rattle.history.proofs.Agreement.{nearby, place_in, open_not_committed, running_early, running_mid}

module _ (d : Transactions) (t : TransactionLog) (base low : ℕ) (g : Agrees d t base low) where
  abbrev free : ℕ
  free = lowest_free d.places

  abbrev listed : List ℕ
  listed = filter (in_window d.source.oldest d.source.next) d.active

  abbrev taken : SnapshotData
  taken = snapshot_at d.source.oldest d.source.next d.active

  abbrev keeping : (ℕ → ℕ → Bool) → TransactionLog
  keeping keeps' = record { begun = t.begun; meant = t.meant; committed = t.committed; keeps = keeps' }

  -- the place of its xmin: no active transaction comes before it
  record First : Type 0 where
    lo : ℕ
    from : low ≤ lo
    upto : lo ≤ base + t.begun
    is : taken.xmin ≡ number_on lo
    first : (i : ℕ) → i < t.begun → low ≤ base + i → is_listed (number_on (base + i)) listed ≡ true → lo ≤ base + i

  xmin_place : First
  xmin_place = go (least_one o n listed r (nearest_is_least o n listed))
    where
      o : ℕ
      o = d.source.oldest

      n : ℕ
      n = d.source.next

      r : ℕ
      r = nearest d.source.oldest d.source.next listed

      from_place : (p : ℕ) → low ≤ p → p ≤ base + t.begun → r ≡ number_on p → First
      from_place p h u e = record {
        lo = p;
        from = h;
        upto = u;
        is = e;
        first = λ i b l m. distance_order low p (base + i) h l (nearby d t base low g low p (omega arith) u) (nearby d t base low g low (base + i) (omega arith) (omega arith))
            (rw (← e, ← g.oldest_is) (least_upto o n listed r (nearest_is_least o n listed) (number_on (base + i)) m));
      }

      go : (r ≡ n) ⊎ (is_listed r listed ≡ true) → First
      go (inl e) = from_place (base + t.begun) g.base_in (omega arith) (e ∙ g.next_is)
      go (inr m) =
          let p = and_parts _ _ (sym (listed_kept_by r (in_window o n) d.active) ∙ m) in
          let v = g.active_is r p.0 in
          from_place (base + v.turn) v.current (omega (arith, v.has_begun)) v.number

  is_listed_lem : (i : ℕ) → i < t.begun → low ≤ base + i → is_open (d.source.status (number_on (base + i))) ≡ true → is_listed (number_on (base + i)) listed ≡ true
  is_listed_lem i h l o =
      listed_kept_by (number_on (base + i)) (in_window d.source.oldest d.source.next) d.active
      ∙ and_from _ _ (g.open_is i h l o) (place_in d t base low g (number_on (base + i)) (base + i) l (omega arith) refl)

  -- who is committed is not open, so not active
  not_listed : (i : ℕ) → i < t.begun → low ≤ base + i → t.committed i ≡ true → is_listed (number_on (base + i)) listed ≡ false
  not_listed i h l c =
      listed_kept_by (number_on (base + i)) (in_window d.source.oldest d.source.next) d.active ∙ and_left _ _ (off (cases_Bool (is_listed (number_on (base + i)) d.active)))
    where
      off : (is_listed (number_on (base + i)) d.active ≡ true) ⊎ (is_listed (number_on (base + i)) d.active ≡ false) → is_listed (number_on (base + i)) d.active ≡ false
      off (inr m) = m
      off (inl m) =
          let v = g.active_is (number_on (base + i)) m in
          let s = d.source.status (number_on (base + i)) in
          absurd (both_ways (is_committed s) (open_not_committed s v.is_open_lem) (g.status_is i h l ∙ c))

  runs_new : (i : ℕ) → i < t.begun → low ≤ base + i → is_open (d.source.status (number_on (base + i))) ≡ true → running taken (number_on (base + i)) ≡ true
  runs_new i h l o =
      let f = xmin_place in
      let m = is_listed_lem i h l o in
      running_mid d t base low g taken f.lo f.is (base + t.begun) g.next_is f.from (base + i) (f.first i h l m) (omega arith) (omega arith) ∙ m

  quiet : (i : ℕ) → i < t.begun → low ≤ base + i → t.committed i ≡ true → running taken (number_on (base + i)) ≡ false
  quiet i h l c = go xmin_place
    where
      go : First → running taken (number_on (base + i)) ≡ false
      go f = which (cases_lt (base + i) f.lo)
        where
          which : (base + i < f.lo) ⊎ (f.lo ≤ base + i) → running taken (number_on (base + i)) ≡ false
          which (inl u) = running_early d t base low g taken f.lo f.is (base + i) l u f.upto
          which (inr u) = running_mid d t base low g taken f.lo f.is (base + t.begun) g.next_is f.from (base + i) u (omega arith) (omega arith) ∙ not_listed i h l c

  new_place : KeptBy d.source.status (registers t free) base low free taken
  new_place = record {
    lo = f.lo;
    hi = base + t.begun;
    xmin_is = f.is;
    xmax_is = g.next_is;
    low_lo = f.from;
    lo_hi = f.upto;
    hi_top = omega arith;
    kept_is = λ i h l. keeps_committed i ∙ kept i h l (cases_Bool (t.committed i));
    runs = runs_new;
    old = λ i h e. keeps_committed i ∙ e;
  }
    where
      f : First
      f = xmin_place

      keeps_committed : (i : ℕ) → with t.keeps free t.committed free i ≡ t.committed i
      keeps_committed i = ap (λ (h : ℕ → Bool). h i) (with_same t.keeps free free t.committed refl)

      kept : (i : ℕ) → i < t.begun → low ≤ base + i → (t.committed i ≡ true) ⊎ (t.committed i ≡ false)
          → t.committed i ≡ (t.committed i && not (running taken (number_on (base + i))))
      kept i h l (inl e) = rw (e, quiet i h l e)
      kept i h l (inr e) = rw e

  other_place : (k : ℕ) (sn : SnapshotData) → (k ≡ free → ⊥) → KeptBy d.source.status t base low k sn → KeptBy d.source.status (registers t free) base low k sn
  other_place k sn n q = record {
    lo = q.lo;
    hi = q.hi;
    xmin_is = q.xmin_is;
    xmax_is = q.xmax_is;
    low_lo = q.low_lo;
    lo_hi = q.lo_hi;
    hi_top = q.hi_top;
    kept_is = λ i h l. same i ∙ q.kept_is i h l;
    runs = q.runs;
    old = λ i h e. same i ∙ q.old i h e;
  }
    where
      same : (i : ℕ) → with t.keeps free t.committed k i ≡ t.keeps k i
      same i = ap (λ (h : ℕ → Bool). h i) (with_other t.keeps free k t.committed n)

  -- a place is the new one or another
  kept_committed' : (k i : ℕ) → with t.keeps free t.committed k i ≡ true → t.committed i ≡ true
  kept_committed' k i e = go (cases_eq k free)
    where
      go : (k ≡ free) ⊎ (k ≡ free → ⊥) → t.committed i ≡ true
      go (inl z) = ap (λ (h : ℕ → Bool). h i) (sym (with_same t.keeps free k t.committed z)) ∙ e
      go (inr n) = g.kept_committed k i (ap (λ (h : ℕ → Bool). h i) (sym (with_other t.keeps free k t.committed n)) ∙ e)

  place_is' : free < 16 → (k : ℕ) (sn : SnapshotData) → get_or (set d.places free (Some taken)) k None ≡ Some sn → KeptBy d.source.status (registers t free) base low k sn
  place_is' low' k sn e = go (cases_eq k free)
    where
      go : (k ≡ free) ⊎ (k ≡ free → ⊥) → KeptBy d.source.status (registers t free) base low k sn
      go (inr n) = other_place k sn n (g.place_is k sn (sym (get_or-set_other d.places free k (Some taken) None n) ∙ e))
      go (inl z) =
          let s = get_or-set_same d.places free (Some taken) None (omega (arith, low', g.places_16)) in
          let e' : get_or (set d.places free (Some taken)) free None ≡ Some sn = rw z at e in
          let q : taken ≡ sn = cc in
          rw (z, ← q) new_place

  -- with other places, and what they keep
  replaced : (ps : List (Option SnapshotData)) (keeps' : ℕ → ℕ → Bool) → ((k i : ℕ) → keeps' k i ≡ true → t.committed i ≡ true) → length ps ≡ 16
      → ((k : ℕ) (sn : SnapshotData) → get_or ps k None ≡ Some sn → KeptBy d.source.status (keeping keeps') base low k sn)
      → Agrees (record { source = d.source; active = d.active; places = ps }) (keeping keeps') base low
  replaced ps keeps' committed sixteen kept = record {
    lawful = g.lawful;
    oldest_is = g.oldest_is;
    next_is = g.next_is;
    base_in = g.base_in;
    near = g.near;
    meant_is = g.meant_is;
    meant_from = g.meant_from;
    status_is = g.status_is;
    active_is = g.active_is;
    open_is = g.open_is;
    before = g.before;
    committed_begun = g.committed_begun;
    kept_committed = committed;
    places_16 = sixteen;
    place_is = kept;
  }

  pub register_agrees : (full : Bool) → ltb (lowest_free d.places) 16 ≡ true → Agrees (transactions_after d register full) (registers t (lowest_free d.places)) base low
  register_agrees full room =
      rw room (replaced (set d.places free (Some taken)) (with t.keeps free t.committed) kept_committed'
      (length-set d.places free (Some taken) ∙ g.places_16) (place_is' (ltb-true free 16 room)))

  pub release_agrees : (full : Bool) (k : ℕ) → Agrees (transactions_after d (release k) full) t base low
  release_agrees full k = replaced (after_free d.places k) t.keeps g.kept_committed
      (cond_both (is_some (get_or d.places k None)) (set d.places k None) d.places (λ ps. length ps ≡ 16) (λ e. length-set d.places k None ∙ g.places_16) (λ e. g.places_16))
      (λ j sn e. g.place_is j sn (freed d.places k j sn e))
