-- A committed transaction that precedes a cutoff no later than the horizon is settled.
use Rattle.std.proofs.Common.{◌≡◌, ℕ, ◌+◌, ◌<◌, ◌≤◌, true, ◌||◌, eqb, ◌⊎◌, List, ◌++◌, sym, ap, ◌∙◌, inl, inr, arith}
use Rattle.std.proofs.lemmas.Bool.{cases_eq, cases_lt, eq-eqb, le-leb, and_from, or_cases, or_left, or_right, both_ways}
use Rattle.xid.specs.Line.{number_on}
use Rattle.xid.specs.Numbers.{distance, precedes, in_window}
use Rattle.xid.proofs.Line.{line_not_after}
use Rattle.snapshot.specs.Lists.{is_listed}
use Rattle.snapshot.specs.Snapshots.{xmins}
use Rattle.snapshot.proofs.Nearest.{horizon_is_least}
use Rattle.history.specs.Archive.{Transactions, horizon}
use Rattle.history.specs.Checks.{cutoff_fits, place_taken}
use Rattle.history.specs.Ledger.{TransactionLog}
use Rattle.history.proofs.Invariant.{Agrees, Settled}
use Rattle.history.proofs.Listing.{listed_append, least_one, xmins_from, taken_some}
use Rattle.history.proofs.Agreement.{nearby, place_in}
use Rattle.history.proofs.Forgets.{cut, cut_kept}

module _ (d : Transactions) (t : TransactionLog) (base low : ℕ) (g : Agrees d t base low) where
  pub early : (x : ℕ) → cutoff_fits d x ≡ true → (i : ℕ) → i < t.begun → low ≤ base + i → t.committed i ≡ true
      → precedes (number_on (base + i)) x ≡ true → Settled t (place_taken d) i
  early x fits i h l e pr = record { is_committed_lem = e; is_kept = λ j u. let r = taken_some _ u in cut_kept d t base low g x fits j r.0 r.1 i h l e before }
    where
      p : ℕ
      p = (cut d t base low g x fits).place

      before : base + i < (cut d t base low g x fits).place
      before = which (cases_lt (base + i) p)
        where
          which : (base + i < p) ⊎ (p ≤ base + i) → base + i < p
          which (inl b) = b
          which (inr b) =
              let k = cut d t base low g x fits in
              absurd (both_ways _ (line_not_after p (base + i) b (nearby d t base low g p (base + i) k.from (omega arith))) (ap (precedes (number_on (base + i))) (sym k.is) ∙ pr))

  -- the horizon is the next number, or an active one or an xmin of the window: so it is such a cutoff itself
  pub horizon_fits : cutoff_fits d (horizon d) ≡ true
  horizon_fits = and_from _ _ (go (least_one o n counted hz (horizon_is_least o n d.active d.places))) (le-leb (distance o hz) (distance o hz) (omega arith))
    where
      o : ℕ
      o = d.source.oldest

      n : ℕ
      n = d.source.next

      hz : ℕ
      hz = horizon d

      counted : List ℕ
      counted = d.active ++ xmins d.places

      at_place : (p : ℕ) → hz ≡ number_on p → low ≤ p → p ≤ base + t.begun → (in_window o n hz || eqb hz n) ≡ true
      at_place p e l u = which (cases_eq p (base + t.begun))
        where
          which : (p ≡ base + t.begun) ⊎ (p ≡ base + t.begun → ⊥) → (in_window o n hz || eqb hz n) ≡ true
          which (inl z) = or_right (in_window o n hz) _ (eq-eqb hz n (e ∙ ap number_on z ∙ sym g.next_is))
          which (inr ne) = or_left _ _ (place_in d t base low g hz p l (omega arith) e)

      at_listed : (is_listed hz d.active ≡ true) ⊎ (is_listed hz (xmins d.places) ≡ true) → (in_window o n hz || eqb hz n) ≡ true
      at_listed (inl m) = let v = g.active_is hz m in at_place (base + v.turn) v.number v.current (omega (arith, v.has_begun))
      at_listed (inr m) =
          let r = xmins_from d.places hz m in
          let q = g.place_is r.0 r.1 r.2 in
          at_place q.lo (r.3 ∙ q.xmin_is) q.low_lo (omega (arith, q.lo_hi, q.hi_top))

      go : (hz ≡ n) ⊎ (is_listed hz counted ≡ true) → (in_window o n hz || eqb hz n) ≡ true
      go (inl e) = or_right (in_window o n hz) _ (eq-eqb hz n e)
      go (inr m) = at_listed (or_cases (is_listed hz d.active) _ (sym (listed_append hz d.active (xmins d.places)) ∙ m))
