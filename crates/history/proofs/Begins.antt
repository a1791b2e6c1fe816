-- A begin keeps the agreement: the transaction that begins takes the next number, at the place behind all others.
use Rattle.std.proofs.Common.{◌≡◌, ℕ, ◌+◌, ◌<◌, ◌≤◌, Bool, true, false, not, ◌&&◌, ◌||◌, eqb, ltb, ◌⊎◌, [], ◌∷◌, ◌++◌, length, Some, Option, sym, refl, ap, ◌∙◌, subst, inl, inr, arith}
use Rattle.std.proofs.lemmas.Bool.{cases_eq, cases_lt, eq-eqb, eqb-true, or_cases, or_left, or_right}
use Rattle.xid.specs.Line.{number_on, full_number}
use Rattle.xid.specs.Meaning.{Lawful, with_status}
use Rattle.xid.specs.Numbers.{distance, successor}
use Rattle.xid.specs.Statuses.{is_open}
use Rattle.xid.specs.declared.statuses.Status.{Status}
use Rattle.xid.specs.declared.statuses.Status.TheVariants.{Open}
use Rattle.xid.proofs.Line.{number_on_next, distance_full}
use Rattle.snapshot.specs.Lists.{is_listed}
use Rattle.snapshot.specs.Snapshots.{SnapshotData, running}
use Rattle.heap_upkeep.specs.Hints.{is_committed}
use Rattle.history.specs.Archive.{Transactions}
use Rattle.history.specs.Calls.Change.{begin}
use Rattle.history.specs.Granted.{transactions_after}
use Rattle.history.specs.Ledger.{TransactionLog, with, begins_as}
use Rattle.history.proofs.Invariant.{Live, KeptBy, Agrees}
use Rattle.history.proofs.Places.{full_one}
use Rattle.history.proofs.Listing.{with_same, with_other, listed_append}
use Rattle.history.proofs.Agreement.{apart, not_committed, not_kept, running_late}

-- what a begin leaves, of a source that is not full and fewer than 64 active
abbrev pub begun_as : Transactions → Bool → Transactions
begun_as d full = record {
  source = record { oldest = d.source.oldest; next = successor d.source.next; full = full; status = with_status d.source.status d.source.next Open };
  active = d.active ++ (d.source.next ∷ []);
  places = d.places;
}

pub after_begin : (d : Transactions) (full : Bool) → d.source.full ≡ false → ltb (length d.active) 64 ≡ true → transactions_after d begin full ≡ begun_as d full
after_begin d full room few = rw (room, few)

module _ (d : Transactions) (t : TransactionLog) (base low : ℕ) (g : Agrees d t base low) where
  abbrev x : ℕ
  x = d.source.next

  abbrev status' : ℕ → Status
  status' = with_status d.source.status x Open

  one_more : base + (t.begun + 1) ≡ base + t.begun + 1
  one_more = omega arith

  next' : successor x ≡ number_on (base + (t.begun + 1))
  next' = ap successor g.next_is ∙ number_on_next (base + t.begun) ∙ ap number_on (sym one_more)

  -- the new number is that of no place before
  new_number : (p : ℕ) → low ≤ p → p < base + t.begun → number_on p ≡ x → ⊥
  new_number p h l e = apart d t base low g p (base + t.begun) h l (omega arith) (e ∙ g.next_is)

  pub status_before : (p : ℕ) → low ≤ p → p < base + t.begun → status' (number_on p) ≡ d.source.status (number_on p)
  status_before p h l = with_other d.source.status x (number_on p) Open (new_number p h l)

  number_here : (i : ℕ) → i ≡ t.begun → number_on (base + i) ≡ x
  number_here i e = ap (λ (j : ℕ). number_on (base + j)) e ∙ sym g.next_is

  status_here : (i : ℕ) → i ≡ t.begun → status' (number_on (base + i)) ≡ Open
  status_here i e = with_same d.source.status x (number_on (base + i)) Open (number_here i e)

  -- a transaction is an earlier one, or the new one
  which : (i : ℕ) → i < t.begun + 1 → (i < t.begun) ⊎ (i ≡ t.begun)
  which i h = go (cases_lt i t.begun)
    where
      go : (i < t.begun) ⊎ (t.begun ≤ i) → (i < t.begun) ⊎ (i ≡ t.begun)
      go (inl l) = inl l
      go (inr l) = inr (omega arith)

  abbrev meant' : ℕ → Option ℕ
  meant' = with t.meant x (Some t.begun)

  meant_is' : (i : ℕ) → i < t.begun + 1 → low ≤ base + i → meant' (number_on (base + i)) ≡ Some i
  meant_is' i h l = go (which i h)
    where
      go : (i < t.begun) ⊎ (i ≡ t.begun) → meant' (number_on (base + i)) ≡ Some i
      go (inl b) = with_other t.meant x (number_on (base + i)) (Some t.begun) (new_number (base + i) l (omega arith)) ∙ g.meant_is i b l
      go (inr e) = with_same t.meant x (number_on (base + i)) (Some t.begun) (number_here i e) ∙ ap {B = Option ℕ} Some (sym e)

  meant_from' : (y i : ℕ) → meant' y ≡ Some i → (i < t.begun + 1) × (y ≡ number_on (base + i))
  meant_from' y i e = go (cases_eq y x)
    where
      go : (y ≡ x) ⊎ (y ≡ x → ⊥) → (i < t.begun + 1) × (y ≡ number_on (base + i))
      go (inl z) =
          let p = with_same t.meant x y (Some t.begun) z in
          let q : t.begun ≡ i = cc in
          (omega arith, z ∙ sym (number_here i (sym q)))
      go (inr n) =
          let m = g.meant_from y i (sym (with_other t.meant x y (Some t.begun) n) ∙ e) in
          (omega (arith, m.0), m.1)

  status_is' : (i : ℕ) → i < t.begun + 1 → low ≤ base + i → is_committed (status' (number_on (base + i))) ≡ t.committed i
  status_is' i h l = go (which i h)
    where
      go : (i < t.begun) ⊎ (i ≡ t.begun) → is_committed (status' (number_on (base + i))) ≡ t.committed i
      go (inl b) = ap is_committed (status_before (base + i) l (omega arith)) ∙ g.status_is i b l
      go (inr e) = ap is_committed (status_here i e) ∙ sym (not_committed d t base low g i (omega arith))

  active_is' : (y : ℕ) → is_listed y (d.active ++ (x ∷ [])) ≡ true → Live status' (t.begun + 1) base low y
  active_is' y m = go (or_cases (is_listed y d.active) _ (sym (listed_append y d.active (x ∷ [])) ∙ m))
    where
      new : (eqb x y ≡ true) ⊎ (false ≡ true) → x ≡ y
      new (inl e) = eqb-true x y e
      new (inr e) = let z : ◌≡◌ {A = ℕ} 0 1 = cc in absurd (omega arith)

      go : (is_listed y d.active ≡ true) ⊎ ((eqb x y || false) ≡ true) → Live status' (t.begun + 1) base low y
      go (inl n) =
          let v = g.active_is y n in
          let b = v.has_begun in
          let s : status' y ≡ d.source.status y = rw v.number (status_before (base + v.turn) v.current (omega arith)) in
          record { turn = v.turn; has_begun = omega arith; current = v.current; number = v.number; is_open_lem = ap is_open s ∙ v.is_open_lem }
      go (inr e) =
          let n : y ≡ number_on (base + t.begun) = sym (new (or_cases (eqb x y) false e)) ∙ g.next_is in
          record { turn = t.begun; has_begun = omega arith; current = g.base_in; number = n; is_open_lem = ap (λ (z : ℕ). is_open (status' z)) n ∙ ap is_open (status_here t.begun refl) }

  open_is' : (i : ℕ) → i < t.begun + 1 → low ≤ base + i → is_open (status' (number_on (base + i))) ≡ true → is_listed (number_on (base + i)) (d.active ++ (x ∷ [])) ≡ true
  open_is' i h l o = listed_append (number_on (base + i)) d.active (x ∷ []) ∙ go (which i h)
    where
      go : (i < t.begun) ⊎ (i ≡ t.begun) → (is_listed (number_on (base + i)) d.active || (eqb x (number_on (base + i)) || false)) ≡ true
      go (inl b) = or_left _ _ (g.open_is i b l (ap is_open (sym (status_before (base + i) l (omega arith))) ∙ o))
      go (inr e) = or_right (is_listed (number_on (base + i)) d.active) _ (or_left _ _ (eq-eqb x (number_on (base + i)) (sym (number_here i e))))

  place_is' : (k : ℕ) (sn : SnapshotData) → KeptBy d.source.status t base low k sn → KeptBy status' (begins_as t x) base low k sn
  place_is' k sn q = record {
    lo = q.lo;
    hi = q.hi;
    xmin_is = q.xmin_is;
    xmax_is = q.xmax_is;
    low_lo = q.low_lo;
    lo_hi = q.lo_hi;
    hi_top = omega arith;
    kept_is = λ i h l. kept i l (which i h);
    runs = λ i h l o. run i l o (which i h);
    old = q.old;
  }
    where
      kept : (i : ℕ) → low ≤ base + i → (i < t.begun) ⊎ (i ≡ t.begun) → t.keeps k i ≡ (t.committed i && not (running sn (number_on (base + i))))
      kept i l (inl b) = q.kept_is i b l
      kept i l (inr e) =
          let n = not_committed d t base low g i (omega arith) in
          rw (n, not_kept d t base low g k i n)

      -- the new transaction comes after the snapshot
      run : (i : ℕ) → low ≤ base + i → is_open (status' (number_on (base + i))) ≡ true → (i < t.begun) ⊎ (i ≡ t.begun) → running sn (number_on (base + i)) ≡ true
      run i l o (inl b) = q.runs i b l (ap is_open (sym (status_before (base + i) l (omega arith))) ∙ o)
      run i l o (inr e) = running_late d t base low g sn q.lo q.xmin_is q.hi q.xmax_is q.low_lo (base + i) q.lo_hi (omega arith) (omega arith)

  module _ (full : Bool) (room : d.source.full ≡ false) (few : ltb (length d.active) 64 ≡ true) (laws : Lawful (transactions_after d begin full).source) where
    laws' : Lawful (begun_as d full).source
    laws' = subst (λ (z : Transactions). Lawful z.source) (after_begin d full room few) laws

    -- the source stays short: so the window does not come round
    near' : full_number (base + (t.begun + 1)) < full_number low + 2147483648
    near' =
        let o : full_number (base + (t.begun + 1)) ≤ full_number (base + t.begun) + 4 = rw one_more (full_one (base + t.begun)) in
        let s : distance (number_on low) (number_on (base + (t.begun + 1))) < 2147483648 = rw (← next', ← g.oldest_is) laws'.short in
        let a = distance_full low (base + (t.begun + 1)) (omega (arith, g.base_in)) (omega (arith, g.near)) in
        omega (arith, s, a)

    pub begin_agrees : Agrees (transactions_after d begin full) (begins_as t x) base low
    begin_agrees = subst (λ (z : Transactions). Agrees z (begins_as t x) base low) (sym (after_begin d full room few)) (record {
      lawful = laws';
      oldest_is = g.oldest_is;
      next_is = next';
      base_in = omega (arith, g.base_in);
      near = near';
      meant_is = meant_is';
      meant_from = meant_from';
      status_is = status_is';
      active_is = active_is';
      open_is = open_is';
      before = λ p h l. ap is_open (status_before p h (omega arith)) ∙ g.before p h l;
      committed_begun = λ i e. omega (arith, g.committed_begun i e);
      kept_committed = g.kept_committed;
      places_16 = g.places_16;
      place_is = λ k sn e. place_is' k sn (g.place_is k sn e);
    })
