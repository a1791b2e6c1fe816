-- A commit and an abort keep the agreement: the transaction is no longer open or active, and no snapshot that is registered keeps it.
use Rattle.std.proofs.Common.{◌≡◌, ℕ, ◌+◌, ◌<◌, ◌≤◌, Bool, true, false, not, ◌&&◌, eqb, ◌⊎◌, filter, sym, refl, ap, ◌∙◌, subst, inl, inr, arith}
use Rattle.std.proofs.lemmas.Bool.{cases_eq, ne_eqb, eq-eqb, and_parts, and_from, and_right, not-true, not_from_false, both_ways}
use Rattle.xid.specs.Line.{number_on}
use Rattle.xid.specs.Meaning.{Lawful, with_status}
use Rattle.xid.specs.Statuses.{is_open, end_status}
use Rattle.xid.specs.declared.statuses.Status.{Status}
use Rattle.xid.specs.declared.statuses.End.{End}
use Rattle.xid.specs.declared.statuses.End.TheVariants.{Commit, Abort}
use Rattle.snapshot.specs.Lists.{is_listed}
use Rattle.snapshot.specs.Snapshots.{SnapshotData, running}
use Rattle.heap_upkeep.specs.Hints.{is_committed}
use Rattle.history.specs.Archive.{Transactions}
use Rattle.history.specs.Calls.Change.{commit, abort}
use Rattle.history.specs.Checks.{is_active}
use Rattle.history.specs.Granted.{transactions_after, closed}
use Rattle.history.specs.Ledger.{TransactionLog, with, commits}
use Rattle.history.proofs.Invariant.{Live, KeptBy, Agrees}
use Rattle.history.proofs.Listing.{with_same, with_other, listed_kept_by}
use Rattle.history.proofs.Agreement.{apart, same_turn, live_of, meant_live, live_not_committed}

pub end_shut : (e : End) → is_open (end_status e) ≡ false
end_shut Commit = refl
end_shut Abort = refl

-- the log with other transactions committed
abbrev pub with_committed : TransactionLog → (ℕ → Bool) → TransactionLog
with_committed t cm = record { begun = t.begun; meant = t.meant; committed = cm; keeps = t.keeps }

-- what a close leaves, of a transaction that is active
abbrev pub closed_as : Transactions → ℕ → End → Bool → Transactions
closed_as d x e full = record {
  source = record { oldest = d.source.oldest; next = d.source.next; full = full; status = with_status d.source.status x (end_status e) };
  active = filter (λ y. not (eqb y x)) d.active;
  places = d.places;
}

pub after_close_lem : (d : Transactions) (x : ℕ) (e : End) (full : Bool) → is_active d x ≡ true → closed d x e full ≡ closed_as d x e full
after_close_lem d x e full a = let p = and_parts (is_listed x d.active) (is_open (d.source.status x)) a in rw (p.0, p.1)

-- x closes with the end e, and cm says who is committed then: as before, but for x
module _ (d : Transactions) (t : TransactionLog) (base low : ℕ) (g : Agrees d t base low) (x : ℕ) (v : Live d.source.status t.begun base low x) (e : End)
    (cm : ℕ → Bool) (here : cm v.turn ≡ is_committed (end_status e)) (others : (i : ℕ) → (i ≡ v.turn → ⊥) → cm i ≡ t.committed i) where
  abbrev status' : ℕ → Status
  status' = with_status d.source.status x (end_status e)

  was_open : is_open (d.source.status (number_on (base + v.turn))) ≡ true
  was_open = rw v.number at v.is_open_lem

  was_not_committed : t.committed v.turn ≡ false
  was_not_committed = live_not_committed d t base low g x v

  status_other : (y : ℕ) → (y ≡ x → ⊥) → status' y ≡ d.source.status y
  status_other y n = with_other d.source.status x y (end_status e) n

  status_here : (y : ℕ) → y ≡ x → status' y ≡ end_status e
  status_here y z = with_same d.source.status x y (end_status e) z

  other_number : (i : ℕ) → i < t.begun → low ≤ base + i → (i ≡ v.turn → ⊥) → number_on (base + i) ≡ x → ⊥
  other_number i h l n m = n (same_turn d t base low g i v.turn h l v.has_begun v.current (m ∙ v.number))

  -- who was committed still is
  grows : (i : ℕ) → t.committed i ≡ true → cm i ≡ true
  grows i h = others i (λ m. both_ways (t.committed v.turn) was_not_committed (rw m at h)) ∙ h

  -- what is open afterwards was open, and is not x
  still_open : (y : ℕ) → is_open (status' y) ≡ true → (is_open (d.source.status y) ≡ true) × (y ≡ x → ⊥)
  still_open y o =
      let n : y ≡ x → ⊥ = λ m. both_ways (is_open (end_status e)) (end_shut e) (ap is_open (sym (status_here y m)) ∙ o) in
      (ap is_open (sym (status_other y n)) ∙ o, n)

  status_is' : (i : ℕ) → i < t.begun → low ≤ base + i → is_committed (status' (number_on (base + i))) ≡ cm i
  status_is' i h l = go (cases_eq i v.turn)
    where
      go : (i ≡ v.turn) ⊎ (i ≡ v.turn → ⊥) → is_committed (status' (number_on (base + i))) ≡ cm i
      go (inl m) = ap is_committed (status_here (number_on (base + i)) (ap (λ (j : ℕ). number_on (base + j)) m ∙ sym v.number)) ∙ sym here ∙ ap cm (sym m)
      go (inr n) = ap is_committed (status_other (number_on (base + i)) (other_number i h l n)) ∙ g.status_is i h l ∙ sym (others i n)

  active_is' : (y : ℕ) → is_listed y (filter (λ z. not (eqb z x)) d.active) ≡ true → Live status' t.begun base low y
  active_is' y m =
      let p = and_parts (is_listed y d.active) (not (eqb y x)) (sym (listed_kept_by y (λ z. not (eqb z x)) d.active) ∙ m) in
      let n : y ≡ x → ⊥ = λ z. both_ways (eqb y x) (not-true (eqb y x) p.1) (eq-eqb y x z) in
      let w = g.active_is y p.0 in
      record { turn = w.turn; has_begun = w.has_begun; current = w.current; number = w.number; is_open_lem = ap is_open (status_other y n) ∙ w.is_open_lem }

  open_is' : (i : ℕ) → i < t.begun → low ≤ base + i → is_open (status' (number_on (base + i))) ≡ true
      → is_listed (number_on (base + i)) (filter (λ z. not (eqb z x)) d.active) ≡ true
  open_is' i h l o =
      let y = number_on (base + i) in
      let s = still_open y o in
      listed_kept_by y (λ z. not (eqb z x)) d.active ∙ and_from _ _ (g.open_is i h l s.0) (not_from_false (eqb y x) (ne_eqb y x s.1))

  committed_begun' : (i : ℕ) → cm i ≡ true → i < t.begun
  committed_begun' i m = go (cases_eq i v.turn)
    where
      go : (i ≡ v.turn) ⊎ (i ≡ v.turn → ⊥) → i < t.begun
      go (inl z) = omega (arith, z, v.has_begun)
      go (inr n) = g.committed_begun i (sym (others i n) ∙ m)

  -- x was running for every snapshot that is registered
  place_is' : (k : ℕ) (sn : SnapshotData) → KeptBy d.source.status t base low k sn → KeptBy status' (with_committed t cm) base low k sn
  place_is' k sn q = record {
    lo = q.lo;
    hi = q.hi;
    xmin_is = q.xmin_is;
    xmax_is = q.xmax_is;
    low_lo = q.low_lo;
    lo_hi = q.lo_hi;
    hi_top = q.hi_top;
    kept_is = λ i h l. kept i h l (cases_eq i v.turn);
    runs = λ i h l o. q.runs i h l (still_open (number_on (base + i)) o).0;
    old = λ i h m. q.old i h (sym (others i (λ z. omega (arith, z, h, v.current))) ∙ m);
  }
    where
      kept : (i : ℕ) → i < t.begun → low ≤ base + i → (i ≡ v.turn) ⊎ (i ≡ v.turn → ⊥) → t.keeps k i ≡ (cm i && not (running sn (number_on (base + i))))
      kept i h l (inr n) = q.kept_is i h l ∙ ap (λ (b : Bool). b && not (running sn (number_on (base + i)))) (sym (others i n))
      kept i h l (inl m) =
          let r : running sn (number_on (base + i)) ≡ true = q.runs i h l (rw (← m) at was_open) in
          let z : t.committed i ≡ false = rw (← m) at was_not_committed in
          rw (q.kept_is i h l, z, r, and_right (cm i) false refl)

  pub close_agrees : (full : Bool) → Lawful (closed_as d x e full).source → Agrees (closed_as d x e full) (with_committed t cm) base low
  close_agrees full laws = record {
    lawful = laws;
    oldest_is = g.oldest_is;
    next_is = g.next_is;
    base_in = g.base_in;
    near = g.near;
    meant_is = g.meant_is;
    meant_from = g.meant_from;
    status_is = status_is';
    active_is = active_is';
    open_is = open_is';
    before = λ p h l. ap is_open (status_other (number_on p)
        (λ m. apart d t base low g p (base + v.turn) h (omega arith) (omega (arith, v.has_begun)) (m ∙ v.number))) ∙ g.before p h l;
    committed_begun = committed_begun';
    kept_committed = λ k i m. grows i (g.kept_committed k i m);
    places_16 = g.places_16;
    place_is = λ k sn m. place_is' k sn (g.place_is k sn m);
  }

module _ (d : Transactions) (t : TransactionLog) (base low : ℕ) (g : Agrees d t base low) (full : Bool) (x : ℕ) (a : is_active d x ≡ true) where
  closes : (e : End) (t' : TransactionLog) → Lawful (closed d x e full).source → (Lawful (closed_as d x e full).source → Agrees (closed_as d x e full) t' base low)
      → Agrees (closed d x e full) t' base low
  closes e t' laws f =
      subst (λ (z : Transactions). Agrees z t' base low) (sym (after_close_lem d x e full a)) (f (subst (λ (z : Transactions). Lawful z.source) (after_close_lem d x e full a) laws))

  pub commit_agrees : Lawful (transactions_after d (commit x) full).source → Agrees (transactions_after d (commit x) full) (commits t x) base low
  commit_agrees laws =
      let v = live_of d t base low g x a in
      rw (meant_live d t base low g x v) (closes Commit (with_committed t (with t.committed v.turn true)) laws
      (close_agrees d t base low g x v Commit (with t.committed v.turn true) (with_same t.committed v.turn v.turn true refl)
      (λ i n. with_other t.committed v.turn i true n) full))

  pub abort_agrees : Lawful (transactions_after d (abort x) full).source → Agrees (transactions_after d (abort x) full) t base low
  abort_agrees laws =
      let v = live_of d t base low g x a in
      closes Abort t laws (close_agrees d t base low g x v Abort t.committed (live_not_committed d t base low g x v) (λ i n. refl) full)
