-- A forget keeps the agreement: the window begins at the place of the cutoff, and no active number and no xmin lies before that.
use Rattle.std.proofs.Common.{◌≡◌, ℕ, ◌+◌, ◌<◌, ◌≤◌, Bool, true, ◌||◌, eqb, leb, ◌⊎◌, ◌++◌, get_or, Some, None, sym, ap, ◌∙◌, subst, inl, inr, arith}
use Rattle.std.proofs.lemmas.Bool.{cases_lt, eqb-true, leb-true, and_parts, or_cases, or_left, or_right, cond-true}
use Rattle.xid.specs.Line.{number_on, full_number}
use Rattle.xid.specs.Meaning.{Meaning, Lawful, windowed, meaning_by, forgettable}
use Rattle.xid.specs.Numbers.{distance, in_window}
use Rattle.xid.specs.Statuses.{is_open}
use Rattle.xid.specs.declared.statuses.Status.{Status}
use Rattle.xid.specs.declared.statuses.Status.TheVariants.{Unknown}
use Rattle.snapshot.specs.Lists.{is_listed}
use Rattle.snapshot.specs.Snapshots.{SnapshotData, xmins}
use Rattle.snapshot.proofs.Nearest.{horizon_is_least}
use Rattle.heap_upkeep.specs.Hints.{is_committed}
use Rattle.history.specs.Archive.{Transactions, horizon}
use Rattle.history.specs.Calls.Change.{forget}
use Rattle.history.specs.Checks.{cutoff_fits}
use Rattle.history.specs.Granted.{transactions_after}
use Rattle.history.specs.Ledger.{TransactionLog}
use Rattle.history.proofs.Invariant.{Live, KeptBy, Agrees}
use Rattle.history.proofs.Places.{at_window, distance_order}
use Rattle.history.proofs.Listing.{listed_append, least_upto, xmins_has}
use Rattle.history.proofs.Agreement.{nearby, in_place, running_early}

-- what a forget leaves, with a cutoff that the source accepts
abbrev pub forgotten_to : Transactions → ℕ → Bool → Transactions
forgotten_to d c full = record { source = meaning_by c d.source.next full d.source.status; active = d.active; places = d.places }

pub after_forget_lem : (d : Transactions) (c : ℕ) (full : Bool) → forgettable d.source c ≡ true → transactions_after d (forget c) full ≡ forgotten_to d c full
after_forget_lem d c full y = ap (λ (m : Meaning). record { source = m; active = d.active; places = d.places }) (cond-true (forgettable d.source c) _ d.source y)

-- a cutoff's place: in the window, or just behind it
pub record Cut (t : TransactionLog) (base low c : ℕ) : Type 0 where
  pub place : ℕ
  pub from : low ≤ place
  pub upto : place ≤ base + t.begun
  pub is : c ≡ number_on place

module _ (d : Transactions) (t : TransactionLog) (base low : ℕ) (g : Agrees d t base low) where
  cut_of : (c : ℕ) → (in_window d.source.oldest d.source.next c || eqb c d.source.next) ≡ true → Cut t base low c
  cut_of c w = go (or_cases _ _ w)
    where
      go : (in_window d.source.oldest d.source.next c ≡ true) ⊎ (eqb c d.source.next ≡ true) → Cut t base low c
      go (inr e) = record { place = base + t.begun; from = g.base_in; upto = omega arith; is = eqb-true c d.source.next e ∙ g.next_is }
      go (inl i) = let p = in_place d t base low g c i in record { place = p.place; from = p.from; upto = omega (arith, p.below); is = p.is }

  -- a cutoff that is not behind the horizon comes no later than what the horizon counts
  module _ (c : ℕ) (fits : cutoff_fits d c ≡ true) where
    parts : ((in_window d.source.oldest d.source.next c || eqb c d.source.next) ≡ true) × (leb (distance d.source.oldest c) (distance d.source.oldest (horizon d)) ≡ true)
    parts = and_parts _ _ fits

    pub cut : Cut t base low c
    cut = cut_of c parts.0

    counted : (y p : ℕ) → is_listed y (d.active ++ xmins d.places) ≡ true → y ≡ number_on p → low ≤ p → p ≤ base + t.begun → cut.place ≤ p
    counted y p m e h u =
        let o = d.source.oldest in
        let n = d.source.next in
        let a = least_upto o n (d.active ++ xmins d.places) (horizon d) (horizon_is_least o n d.active d.places) y m in
        let b = leb-true (distance o c) (distance o (horizon d)) parts.1 in
        let s : distance o c ≤ distance o y = omega (arith, a, b) in
        let k = cut in
        let r : distance (number_on low) (number_on k.place) ≤ distance (number_on low) (number_on p) = rw (← g.oldest_is, ← k.is, ← e) s in
        distance_order low k.place p k.from h (nearby d t base low g low k.place (omega arith) k.upto) (nearby d t base low g low p (omega arith) u) r

    pub cut_active : (y : ℕ) → is_listed y d.active ≡ true → (v : Live d.source.status t.begun base low y) → cut.place ≤ base + v.turn
    cut_active y m v = counted y (base + v.turn) (listed_append y d.active (xmins d.places) ∙ or_left _ _ m) v.number v.current (omega (arith, v.has_begun))

    pub cut_snapshot : (k : ℕ) (sn : SnapshotData) → get_or d.places k None ≡ Some sn → (q : KeptBy d.source.status t base low k sn) → cut.place ≤ q.lo
    cut_snapshot k sn e q =
        counted sn.xmin q.lo (listed_append sn.xmin d.active (xmins d.places) ∙ or_right (is_listed sn.xmin d.active) _ (xmins_has d.places k sn e))
        q.xmin_is q.low_lo (omega (arith, q.lo_hi, q.hi_top))

    -- so a committed transaction before the cutoff is kept by each snapshot
    pub cut_kept : (k : ℕ) (sn : SnapshotData) → get_or d.places k None ≡ Some sn → (i : ℕ) → i < t.begun → low ≤ base + i → t.committed i ≡ true → base + i < cut.place
        → t.keeps k i ≡ true
    cut_kept k sn e i h l z b =
        let q = g.place_is k sn e in
        let f = cut_snapshot k sn e q in
        let r = running_early d t base low g sn q.lo q.xmin_is (base + i) l (omega arith) (omega (arith, q.lo_hi, q.hi_top)) in
        rw (q.kept_is i h l, z, r)

-- the window from the cutoff on
pub record Forgotten (d : Transactions) (t : TransactionLog) (base low c : ℕ) (full : Bool) : Type 0 where
  pub place : ℕ
  pub up : low ≤ place
  pub top : place ≤ base + t.begun
  pub is : c ≡ number_on place
  pub agrees : Agrees (transactions_after d (forget c) full) t base place

module _ (d : Transactions) (t : TransactionLog) (base low : ℕ) (g : Agrees d t base low) (full : Bool) (c : ℕ) (fits : cutoff_fits d c ≡ true) where
  low' : ℕ
  low' = (cut d t base low g c fits).place

  up : low ≤ low'
  unfolding low'
  up = (cut d t base low g c fits).from

  top : low' ≤ base + t.begun
  unfolding low'
  top = (cut d t base low g c fits).upto

  c_is : c ≡ number_on low'
  unfolding low'
  c_is = (cut d t base low g c fits).is

  near' : full_number (base + t.begun) < full_number low' + 2147483648
  near' = nearby d t base low g low' (base + t.begun) up (omega arith)

  abbrev status' : ℕ → Status
  status' = windowed c d.source.next d.source.status

  -- from the cutoff on each number has its status
  status_kept : (p : ℕ) → low' ≤ p → p < base + t.begun → status' (number_on p) ≡ d.source.status (number_on p)
  status_kept p h l =
      cond-true (in_window c d.source.next (number_on p)) (d.source.status (number_on p)) Unknown (rw (g.next_is, c_is) (at_window low' (base + t.begun) p h l near'))

  open_kept : (i : ℕ) → i < t.begun → low' ≤ base + i → is_open (status' (number_on (base + i))) ≡ true → is_open (d.source.status (number_on (base + i))) ≡ true
  open_kept i h l o = ap is_open (sym (status_kept (base + i) l (omega arith))) ∙ o

  active_is' : (y : ℕ) → is_listed y d.active ≡ true → Live status' t.begun base low' y
  unfolding low'
  active_is' y m =
      let v = g.active_is y m in
      let h : low' ≤ base + v.turn = cut_active d t base low g c fits y m v in
      let s : status' y ≡ d.source.status y = rw v.number (status_kept (base + v.turn) h (omega (arith, v.has_begun))) in
      record { turn = v.turn; has_begun = v.has_begun; current = h; number = v.number; is_open_lem = ap is_open s ∙ v.is_open_lem }

  place_is' : (k : ℕ) (sn : SnapshotData) → get_or d.places k None ≡ Some sn → KeptBy d.source.status t base low k sn → KeptBy status' t base low' k sn
  unfolding low'
  place_is' k sn e q = record {
    lo = q.lo;
    hi = q.hi;
    xmin_is = q.xmin_is;
    xmax_is = q.xmax_is;
    low_lo = cut_snapshot d t base low g c fits k sn e q;
    lo_hi = q.lo_hi;
    hi_top = q.hi_top;
    kept_is = λ i h l. q.kept_is i h (omega (arith, up));
    runs = λ i h l o. q.runs i h (omega (arith, up)) (open_kept i h l o);
    old = λ i h z. gone i h z (cases_lt (base + i) low);
  }
    where
      gone : (i : ℕ) → base + i < low' → t.committed i ≡ true → (base + i < low) ⊎ (low ≤ base + i) → t.keeps k i ≡ true
      gone i h z (inl o) = q.old i o z
      gone i h z (inr o) = cut_kept d t base low g c fits k sn e i (g.committed_begun i z) o z h

  module _ (accepted : forgettable d.source c ≡ true) (laws : Lawful (transactions_after d (forget c) full).source) where
    pub forget_agrees : Forgotten d t base low c full
    forget_agrees = record {
      place = low';
      up = up;
      top = top;
      is = c_is;
      agrees = subst (λ (z : Transactions). Agrees z t base low') (sym (after_forget_lem d c full accepted)) (record {
        lawful = subst (λ (z : Transactions). Lawful z.source) (after_forget_lem d c full accepted) laws;
        oldest_is = c_is;
        next_is = g.next_is;
        base_in = top;
        near = near';
        meant_is = λ i h l. g.meant_is i h (omega (arith, up));
        meant_from = g.meant_from;
        status_is = λ i h l. ap is_committed (status_kept (base + i) l (omega arith)) ∙ g.status_is i h (omega (arith, up));
        active_is = active_is';
        open_is = λ i h l o. g.open_is i h (omega (arith, up)) (open_kept i h l o);
        before = λ p h l. ap is_open (status_kept p h (omega arith)) ∙ g.before p (omega (arith, up)) l;
        committed_begun = g.committed_begun;
        kept_committed = g.kept_committed;
        places_16 = g.places_16;
        place_is = λ k sn e. place_is' k sn e (g.place_is k sn e);
      });
    }
