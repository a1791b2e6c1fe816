-- What follows from the agreement of source, active numbers and places with the ledger.
use Rattle.std.proofs.Common.{◌≡◌, ℕ, ◌+◌, ◌<◌, ◌≤◌, true, false, ◌⊎◌, Some, sym, refl, ap, ◌∙◌, inl, inr, arith}
use Rattle.std.proofs.lemmas.Bool.{cases_Bool, cases_order, and_parts, both_ways}
use Rattle.xid.specs.Line.{number_on, full_number}
use Rattle.xid.specs.Numbers.{in_window}
use Rattle.xid.specs.Statuses.{is_open, is_known}
use Rattle.xid.specs.declared.statuses.Status.{Status}
use Rattle.xid.specs.declared.statuses.Status.TheVariants.{Open, Committed, Aborted, Unknown}
use Rattle.xid.proofs.Line.{full_number_most, line_before, line_not_after}
use Rattle.snapshot.specs.Lists.{is_listed}
use Rattle.snapshot.specs.Snapshots.{SnapshotData, running}
use Rattle.heap_upkeep.specs.Hints.{is_committed}
use Rattle.history.specs.Archive.{Transactions}
use Rattle.history.specs.Checks.{is_active}
use Rattle.history.specs.Ledger.{TransactionLog}
use Rattle.history.proofs.Invariant.{Live, Agrees}
use Rattle.history.proofs.Places.{At, numbers_apart, place_of, at_window}

pub open_not_committed : (s : Status) → is_open s ≡ true → is_committed s ≡ false
open_not_committed Open e = refl
open_not_committed Committed e = absurd (both_ways false refl e)
open_not_committed Aborted e = refl
open_not_committed Unknown e = refl

module _ (d : Transactions) (t : TransactionLog) (base low : ℕ) (g : Agrees d t base low) where
  -- places from the oldest number to the next one lie less than half a round apart
  pub nearby : (p q : ℕ) → low ≤ p → q ≤ base + t.begun → full_number q < full_number p + 2147483648
  nearby p q h u = omega (arith, full_number_most low p h, full_number_most q (base + t.begun) u, g.near)

  -- the numbers of two places of the window differ
  pub apart : (p q : ℕ) → low ≤ p → p < q → q ≤ base + t.begun → number_on p ≡ number_on q → ⊥
  apart p q h l u e = numbers_apart p q l (nearby p q h u) e

  pub same_turn : (i j : ℕ) → i < t.begun → low ≤ base + i → j < t.begun → low ≤ base + j → number_on (base + i) ≡ number_on (base + j) → i ≡ j
  same_turn i j a b a' b' e = go (cases_order i j)
    where
      go : (i ≡ j) ⊎ ((i < j) ⊎ (j < i)) → i ≡ j
      go (inl z) = z
      go (inr (inl l)) = absurd (apart (base + i) (base + j) b (omega arith) (omega arith) e)
      go (inr (inr l)) = absurd (apart (base + j) (base + i) b' (omega arith) (omega arith) (sym e))

  pub not_committed : (i : ℕ) → t.begun ≤ i → t.committed i ≡ false
  not_committed i h = go (cases_Bool (t.committed i))
    where
      go : (t.committed i ≡ true) ⊎ (t.committed i ≡ false) → t.committed i ≡ false
      go (inl e) = absurd (omega (arith, g.committed_begun i e))
      go (inr e) = e

  pub not_kept : (k i : ℕ) → t.committed i ≡ false → t.keeps k i ≡ false
  not_kept k i e = go (cases_Bool (t.keeps k i))
    where
      go : (t.keeps k i ≡ true) ⊎ (t.keeps k i ≡ false) → t.keeps k i ≡ false
      go (inl f) = absurd (both_ways (t.committed i) e (g.kept_committed k i f))
      go (inr f) = f

  -- a place of the window has its number in it, and the source knows its status
  pub place_in : (x p : ℕ) → low ≤ p → p < base + t.begun → x ≡ number_on p → in_window d.source.oldest d.source.next x ≡ true
  place_in x p h l e = rw (g.oldest_is, g.next_is, e) (at_window low (base + t.begun) p h l g.near)

  pub place_known : (x p : ℕ) → low ≤ p → p < base + t.begun → x ≡ number_on p → is_known (d.source.status x) ≡ true
  place_known x p h l e = g.lawful.inside x (place_in x p h l e)

  -- a number of the window stands at a place of it
  pub in_place : (x : ℕ) → in_window d.source.oldest d.source.next x ≡ true → At low (base + t.begun) x
  in_place x w = place_of low (base + t.begun) g.base_in g.near x (rw (g.oldest_is, g.next_is) at w)

  -- a transaction that is active and open
  pub live_of : (x : ℕ) → is_active d x ≡ true → Live d.source.status t.begun base low x
  live_of x e = g.active_is x (and_parts (is_listed x d.active) (is_open (d.source.status x)) e).0

  pub meant_live : (x : ℕ) (v : Live d.source.status t.begun base low x) → t.meant x ≡ Some v.turn
  meant_live x v = ap t.meant v.number ∙ g.meant_is v.turn v.has_begun v.current

  pub meant_of : (x : ℕ) (e : is_active d x ≡ true) → t.meant x ≡ Some (live_of x e).turn
  meant_of x e = meant_live x (live_of x e)

  pub live_not_committed : (x : ℕ) (v : Live d.source.status t.begun base low x) → t.committed v.turn ≡ false
  live_not_committed x v =
      sym (g.status_is v.turn v.has_begun v.current) ∙ open_not_committed (d.source.status (number_on (base + v.turn))) (rw v.number at v.is_open_lem)

  pub live_unkept : (x : ℕ) → is_active d x ≡ true → (k j : ℕ) → t.meant x ≡ Some j → t.keeps k j ≡ false
  live_unkept x e k j m =
      let v = live_of x e in
      let n = meant_live x v in
      let z : v.turn ≡ j = cc in
      not_kept k j (rw z at (live_not_committed x v))

  -- What is running for a snapshot, by the places lo of its xmin and hi of its xmax.
  module _ (sn : SnapshotData) (lo : ℕ) (xmin_is : sn.xmin ≡ number_on lo) where
    pub running_early : (p : ℕ) → low ≤ p → p < lo → lo ≤ base + t.begun → running sn (number_on p) ≡ false
    running_early p h l u = rw (xmin_is, line_before p lo l (nearby p lo h u))

    module _ (hi : ℕ) (xmax_is : sn.xmax ≡ number_on hi) (low_lo : low ≤ lo) where
      pub running_late : (p : ℕ) → lo ≤ hi → hi ≤ p → p ≤ base + t.begun → running sn (number_on p) ≡ true
      running_late p l h u = rw (xmin_is, xmax_is, line_not_after lo p (omega arith) (nearby lo p low_lo u), line_not_after hi p h (nearby hi p (omega arith) u))

      pub running_mid : (p : ℕ) → lo ≤ p → p < hi → hi ≤ base + t.begun → running sn (number_on p) ≡ is_listed (number_on p) sn.listed
      running_mid p h l u = rw (xmin_is, xmax_is, line_not_after lo p h (nearby lo p low_lo (omega arith)), line_before p hi l (nearby p hi (omega arith) u))
