-- How a change moves what is known of transactions.
use Rattle.std.proofs.Common.{◌≡◌, ℕ, ◌+◌, ◌<◌, ◌≤◌, Bool, true, false, ◌&&◌, ltb, leb, ◌⊎◌, length, get_or, set, is_some, Some, None, Option, sym, refl, ap, ◌∙◌, subst, inl, inr, arith}
use Rattle.std.proofs.lemmas.List.{get_or-set_other}
use Rattle.std.proofs.lemmas.Bool.{cases_eq, leb-true, le-leb, and_parts, and_from, or_cases, or_left, or_right, cond_both, both_ways}
use Rattle.xid.specs.Line.{number_on}
use Rattle.xid.specs.Meaning.{meaning_by, with_status, forgettable, after_forget}
use Rattle.xid.specs.Numbers.{in_window}
use Rattle.xid.specs.Statuses.{is_open, end_status}
use Rattle.xid.specs.declared.statuses.Status.TheVariants.{Open, Unknown}
use Rattle.xid.specs.declared.statuses.End.{End}
use Rattle.xid.specs.declared.statuses.End.TheVariants.{Commit, Abort}
use Rattle.snapshot.specs.Snapshots.{SnapshotData, snapshot_at, lowest_free}
use Rattle.history.specs.Archive.{Transactions}
use Rattle.history.specs.Calls.Change.{begin, commit, abort, register, release, forget}
use Rattle.history.specs.Checks.{is_active, place_taken}
use Rattle.history.specs.Granted.{transactions_after, closed}
use Rattle.history.specs.Ledger.{TransactionLog, with, begins_as, commits, registers}
use Rattle.history.proofs.Invariant.{Live, Agrees, Settled, alive}
use Rattle.history.proofs.Listing.{with_same, with_other, with_true, taken_some, freed}
use Rattle.history.proofs.Agreement.{live_of, meant_live}
use Rattle.history.proofs.Begins.{status_before}
use Rattle.history.proofs.Closes.{end_shut, with_committed, closed_as, after_close_lem}

-- no fewer have begun, are committed or are settled afterwards, and of those that had begun no more are not aborted
pub record Moves (d : Transactions) (t : TransactionLog) (d' : Transactions) (t' : TransactionLog) (base low low' : ℕ) : Type 0 where
  pub more_begun : t.begun ≤ t'.begun
  pub more_committed : (i : ℕ) → t.committed i ≡ true → t'.committed i ≡ true
  pub less_alive : (i : ℕ) → i < t.begun → alive d' t' base low' i ≡ true → alive d t base low i ≡ true
  pub more_settled : (i : ℕ) → Settled t (place_taken d) i → Settled t' (place_taken d') i

-- to be not aborted is to be committed, or of the window and open
module _ (d : Transactions) (t : TransactionLog) (base low i : ℕ) where
  pub committed_alive : t.committed i ≡ true → alive d t base low i ≡ true
  committed_alive e = or_left _ _ e

  pub open_alive : low ≤ base + i → is_open (d.source.status (number_on (base + i))) ≡ true → alive d t base low i ≡ true
  open_alive l o = or_right (t.committed i) _ (and_from _ _ (le-leb low (base + i) l) o)

  pub alive_cases : alive d t base low i ≡ true → (t.committed i ≡ true) ⊎ ((low ≤ base + i) × (is_open (d.source.status (number_on (base + i))) ≡ true))
  alive_cases a = go (or_cases (t.committed i) _ a)
    where
      go : (t.committed i ≡ true) ⊎ ((leb low (base + i) && is_open (d.source.status (number_on (base + i)))) ≡ true)
          → (t.committed i ≡ true) ⊎ ((low ≤ base + i) × (is_open (d.source.status (number_on (base + i))) ≡ true))
      go (inl e) = inl e
      go (inr e) = let p = and_parts (leb low (base + i)) _ e in inr (leb-true low (base + i) p.0, p.1)

module _ (d : Transactions) (t : TransactionLog) (base low : ℕ) where
  -- a change of pages alone
  pub moves_none : Moves d t d t base low low
  moves_none = record { more_begun = omega arith; more_committed = λ i e. e; less_alive = λ i h a. a; more_settled = λ i s. s }

  pub moves_release : (full : Bool) (k : ℕ) → Moves d t (transactions_after d (release k) full) t base low low
  moves_release full k = record {
    more_begun = omega arith;
    more_committed = λ i e. e;
    less_alive = λ i h a. a;
    more_settled = λ i s. record {
      is_committed_lem = s.is_committed_lem;
      is_kept = λ j u. let r = taken_some _ u in s.is_kept j (ap is_some (freed d.places k j r.0 r.1));
    };
  }

  -- the new place keeps who is committed, so who is settled too
  pub moves_register : (full : Bool) → ltb (lowest_free d.places) 16 ≡ true
      → Moves d t (transactions_after d register full) (registers t (lowest_free d.places)) base low low
  moves_register full room = rw room (record {
    more_begun = omega arith;
    more_committed = λ i e. e;
    less_alive = λ i h a. a;
    more_settled = λ i s. record { is_committed_lem = s.is_committed_lem; is_kept = λ j u. kept i s j u (cases_eq j (lowest_free d.places)) };
  })
    where
      k : ℕ
      k = lowest_free d.places

      sn : Option SnapshotData
      sn = Some (snapshot_at d.source.oldest d.source.next d.active)

      kept : (i : ℕ) → Settled t (place_taken d) i → (j : ℕ) → is_some (get_or (set d.places k sn) j None) ≡ true → (j ≡ k) ⊎ (j ≡ k → ⊥)
          → with t.keeps k t.committed j i ≡ true
      kept i s j u (inl z) = ap (λ (h : ℕ → Bool). h i) (with_same t.keeps k j t.committed z) ∙ s.is_committed_lem
      kept i s j u (inr n) =
          ap (λ (h : ℕ → Bool). h i) (with_other t.keeps k j t.committed n)
          ∙ s.is_kept j (ap is_some (sym (get_or-set_other d.places k j sn None n)) ∙ u)

  -- what is open afterwards was open
  still_open : (full : Bool) (c y : ℕ) → is_open ((after_forget d.source c full).status y) ≡ true → is_open (d.source.status y) ≡ true
  still_open full c y =
      let m = d.source in
      cond_both (forgettable m c) (meaning_by c m.next full m.status) m (λ m'. is_open (m'.status y) ≡ true → is_open (m.status y) ≡ true)
      (λ _. cond_both (in_window c m.next y) (m.status y) Unknown (λ s. is_open s ≡ true → is_open (m.status y) ≡ true) (λ _ o. o) (λ _ o. absurd (both_ways false refl o)))
      (λ _ o. o)

  pub moves_forget : (full : Bool) (c low' : ℕ) → low ≤ low' → Moves d t (transactions_after d (forget c) full) t base low low'
  moves_forget full c low' up = record {
    more_begun = omega arith;
    more_committed = λ i e. e;
    less_alive = λ i h a. go i (alive_cases (transactions_after d (forget c) full) t base low' i a);
    more_settled = λ i s. record { is_committed_lem = s.is_committed_lem; is_kept = s.is_kept };
  }
    where
      go : (i : ℕ) → (t.committed i ≡ true) ⊎ ((low' ≤ base + i) × (is_open ((after_forget d.source c full).status (number_on (base + i))) ≡ true)) → alive d t base low i ≡ true
      go i (inl e) = committed_alive d t base low i e
      go i (inr e) = let h = e.0 in open_alive d t base low i (omega arith) (still_open full c (number_on (base + i)) e.1)

module _ (d : Transactions) (t : TransactionLog) (base low : ℕ) (g : Agrees d t base low) where
  pub moves_begin : (full : Bool) → d.source.full ≡ false → ltb (length d.active) 64 ≡ true
      → Moves d t (transactions_after d begin full) (begins_as t d.source.next) base low low
  moves_begin full room few = rw (room, few) (record {
    more_begun = omega arith;
    more_committed = λ i e. e;
    less_alive = λ i h a. go i h (or_cases (t.committed i) _ a);
    more_settled = λ i s. record { is_committed_lem = s.is_committed_lem; is_kept = s.is_kept };
  })
    where
      go : (i : ℕ) → i < t.begun → (t.committed i ≡ true) ⊎ ((leb low (base + i) && is_open (with_status d.source.status d.source.next Open (number_on (base + i)))) ≡ true)
          → alive d t base low i ≡ true
      go i h (inl e) = committed_alive d t base low i e
      go i h (inr e) =
          let p = and_parts (leb low (base + i)) _ e in
          let l = leb-true low (base + i) p.0 in
          open_alive d t base low i l (ap is_open (sym (status_before d t base low g (base + i) l (omega arith))) ∙ p.1)

  module _ (full : Bool) (x : ℕ) (act : is_active d x ≡ true) where
    -- x closes with the end e, and cm says who is committed then
    moves_close : (e : End) (v : Live d.source.status t.begun base low x) (cm : ℕ → Bool) → ((i : ℕ) → t.committed i ≡ true → cm i ≡ true)
        → ((i : ℕ) → (i ≡ v.turn → ⊥) → cm i ≡ t.committed i) → Moves d t (closed d x e full) (with_committed t cm) base low low
    moves_close e v cm grow others = subst (λ (z : Transactions). Moves d t z (with_committed t cm) base low low) (sym (after_close_lem d x e full act)) (record {
      more_begun = omega arith;
      more_committed = grow;
      less_alive = λ i h a. go i (alive_cases (closed_as d x e full) (with_committed t cm) base low i a);
      more_settled = λ i s. record { is_committed_lem = grow i s.is_committed_lem; is_kept = s.is_kept };
    })
      where
        turn_alive : alive d t base low v.turn ≡ true
        turn_alive = open_alive d t base low v.turn v.current (rw v.number at v.is_open_lem)

        by_commit : (i : ℕ) → cm i ≡ true → (i ≡ v.turn) ⊎ (i ≡ v.turn → ⊥) → alive d t base low i ≡ true
        by_commit i m (inl z) = ap (alive d t base low) z ∙ turn_alive
        by_commit i m (inr n) = committed_alive d t base low i (sym (others i n) ∙ m)

        go : (i : ℕ) → (cm i ≡ true) ⊎ ((low ≤ base + i) × (is_open (with_status d.source.status x (end_status e) (number_on (base + i))) ≡ true)) → alive d t base low i ≡ true
        go i (inl m) = by_commit i m (cases_eq i v.turn)
        go i (inr m) =
            let y = number_on (base + i) in
            let n : y ≡ x → ⊥ = λ z. both_ways (is_open (end_status e)) (end_shut e) (ap is_open (sym (with_same d.source.status x y (end_status e) z)) ∙ m.1) in
            open_alive d t base low i m.0 (ap is_open (sym (with_other d.source.status x y (end_status e) n)) ∙ m.1)

    pub moves_commit : Moves d t (transactions_after d (commit x) full) (commits t x) base low low
    moves_commit =
        let v = live_of d t base low g x act in
        rw (meant_live d t base low g x v) (moves_close Commit v (with t.committed v.turn true) (with_true t.committed v.turn)
        (λ i n. with_other t.committed v.turn i true n))

    pub moves_abort : Moves d t (transactions_after d (abort x) full) t base low low
    moves_abort = moves_close Abort (live_of d t base low g x act) t.committed (λ i e. e) (λ i n. refl)
