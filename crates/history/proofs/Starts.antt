-- The agreement of an unused archive with the empty ledger; and that the laws of a source leave a choice of whether it is full after each change.
use Rattle.std.proofs.Common.{◌≡◌, ℕ, zero, suc, ◌+◌, ◌-◌, ◌<◌, ◌≤◌, Bool, true, false, cond, ◌||◌, eqb, leb, ◌⊎◌, List, length, get_or, replicate, Some, None, Option, sym, refl, ap, ◌∙◌, subst, inl, inr, ⊎_elim, arith}
use Rattle.std.proofs.lemmas.Bool.{cases_Bool, cases_eq, cases_lt, eqb-true, leb-true, leb-false, le-leb, lt-leb, and_parts, or_cases, cond-false, both_ways}
use Rattle.std.proofs.lemmas.Bool.Decides.{nat_tests}
use Rattle.xid.specs.Line.{number_on, full_number}
use Rattle.xid.specs.Meaning.{Lawful, Known, with_status, windowed, forgettable}
use Rattle.xid.specs.Numbers.{distance, successor, in_window}
use Rattle.xid.specs.Statuses.{is_open, is_known, end_status}
use Rattle.xid.specs.declared.statuses.Status.{Status}
use Rattle.xid.specs.declared.statuses.Status.TheVariants.{Open, Unknown}
use Rattle.xid.specs.declared.statuses.End.{End}
use Rattle.xid.specs.declared.statuses.End.TheVariants.{Commit, Abort}
use Rattle.xid.proofs.Distances.{successor_steps}
use Rattle.xid.proofs.Stored.{known_within, closed_known}
use Rattle.xid.proofs.Windows.{window_within, window_takes, window_more, window_from, window_shrinks, reach}
use Rattle.snapshot.specs.Lists.{is_listed}
use Rattle.snapshot.specs.Snapshots.{SnapshotData}
use Rattle.history.specs.Archive.{Archive, Transactions}
use Rattle.history.specs.Calls.Change.{begin, commit, abort, forget}
use Rattle.history.specs.Checks.{is_active}
use Rattle.history.specs.Granted.{transactions_after, closed}
use Rattle.history.specs.Ledger.{empty}
use Rattle.history.specs.Runs.{Unused}
use Rattle.history.proofs.Invariant.{Agrees}
use Rattle.history.proofs.Listing.{with_same, with_other}
use Rattle.history.proofs.Closes.{after_close_lem}
use Rattle.history.proofs.Forgets.{after_forget_lem}

-- the place of the first number that a source with the oldest number o and the next number n gives out, where o stands in the first lap
pub first_place : ℕ → ℕ → ℕ
first_place o n = cond (leb o n) (n - 3) (n + 4294967290)

module _ (o n : ℕ) (ol : 3 ≤ o) (oh : o < 4294967296) (nl : 3 ≤ n) (nh : n < 4294967296) where
  oldest_place : o ≡ number_on (o - 3)
  oldest_place = omega arith

  next_place : n ≡ number_on (first_place o n)
  unfolding first_place
  next_place = grind (arith, nat_tests)

  first_above : o - 3 ≤ first_place o n
  unfolding first_place
  first_above = grind (arith, nat_tests)

  first_near : distance o n < 2147483648 → full_number (first_place o n) < full_number (o - 3) + 2147483648
  unfolding first_place full_number
  first_near h = go (cases_Bool (leb o n))
    where
      go : (leb o n ≡ true) ⊎ (leb o n ≡ false) → full_number (cond (leb o n) (n - 3) (n + 4294967290)) < full_number (o - 3) + 2147483648
      go (inl e) = rw e (omega (arith, leb-true o n e))
      go (inr e) = rw e (omega (arith, leb-false o n e))

none_at : (n k : ℕ) (sn : SnapshotData) → get_or (replicate n None) k None ≡ Some sn → ⊥
none_at zero k sn e = let z : ◌≡◌ {A = ℕ} 0 1 = cc in omega arith
none_at (suc n) zero sn e = let z : ◌≡◌ {A = ℕ} 0 1 = cc in omega arith
none_at (suc n) (suc k) sn e = none_at n k sn e

pub start_agrees : (s : Archive) → Unused s → (low : ℕ) × Agrees s.xacts empty.transactions (first_place s.xacts.source.oldest s.xacts.source.next) low
start_agrees s u = (
  o - 3,
  record {
    lawful = w;
    oldest_is = oldest_place o n w.oldest_low w.oldest_high w.next_low w.next_high;
    next_is = next_place o n w.oldest_low w.oldest_high w.next_low w.next_high ∙ ap number_on z;
    base_in = omega (arith, first_above o n w.oldest_low w.oldest_high w.next_low w.next_high);
    near = rw (← z) (first_near o n w.oldest_low w.oldest_high w.next_low w.next_high w.short);
    meant_is = λ i h l. absurd (omega arith);
    meant_from = λ x i e. absurd (no_some i e);
    status_is = λ i h l. absurd (omega arith);
    active_is = λ x m. absurd (both_ways false refl (ap (is_listed x) (sym u.none_active) ∙ m));
    open_is = λ i h l. absurd (omega arith);
    before = λ p h l. u.none_open_lem (number_on p);
    committed_begun = λ i e. absurd (both_ways false refl e);
    kept_committed = λ k i e. e;
    places_16 = ap length u.places_free;
    place_is = λ k sn e. absurd (none_at 16 k sn (ap (λ (ps : List (Option SnapshotData)). get_or ps k None) (sym u.places_free) ∙ e));
  },
)
  where
    o : ℕ
    o = s.xacts.source.oldest

    n : ℕ
    n = s.xacts.source.next

    w : Lawful s.xacts.source
    w = u.lawful

    z : first_place o n ≡ first_place o n + 0
    z = omega arith

    no_some : (i : ℕ) → ◌≡◌ {A = Option ℕ} None (Some i) → ⊥
    no_some i e = let c : ◌≡◌ {A = ℕ} 0 1 = cc in omega arith

-- Whether a source is full after a change is free within its laws, and never without a choice: say full from two thousand million on.

lawful_by : (o n : ℕ) (status : ℕ → Status) → 3 ≤ o → o < 4294967296 → 3 ≤ n → n < 4294967296 → distance o n < 2147483648 → Known o n status
    → ((x : ℕ) → in_window o n x ≡ false → status x ≡ Unknown) → Lawful (record { oldest = o; next = n; full = leb 2000000000 (distance o n); status = status })
lawful_by o n status ol oh nl nh short inside outside = record {
  oldest_low = ol;
  oldest_high = oh;
  next_low = nl;
  next_high = nh;
  inside = inside;
  outside = outside;
  short = short;
  empty = λ z. lt-leb 2000000000 (distance o n) (none z);
  long = λ h. le-leb 2000000000 (distance o n) h;
}
  where
    none : o ≡ n → distance o n < 2000000000
    none z = omega arith

module _ (d : Transactions) (w : Lawful d.source) where
  abbrev o : ℕ
  o = d.source.oldest

  abbrev n : ℕ
  n = d.source.next

  abbrev status : ℕ → Status
  status = d.source.status

  pub allowed_begin : d.source.full ≡ false → (full : Bool) × Lawful (transactions_after d begin full).source
  allowed_begin room = (
    leb 2000000000 (distance o (successor n)),
    subst Lawful (sym (cond-false d.source.full d.source _ room))
        (lawful_by o (successor n) status' w.oldest_low w.oldest_high bounds.0 bounds.1 bounds.2 inside outside),
  )
    where
      status' : ℕ → Status
      status' = with_status status n Open

      -- a source that is not full has room for one more
      not_long : distance o n < 2000000000
      not_long = ⊎_elim (λ l. l) (λ l. absurd (both_ways d.source.full room (w.long l))) (cases_lt (distance o n) 2000000000)

      bounds : (3 ≤ successor n) × (successor n < 4294967296) × (distance o (successor n) < 2147483648)
      bounds = ⊎_elim
          (λ h. let e = h.0 in let b = h.1 in let f = h.2 in (rw e (omega (arith, w.next_low)), rw e b, omega (arith, not_long, f)))
          (λ h. let e = h.0 in let f = h.2 in (rw e (omega arith), rw e (omega arith), omega (arith, not_long, f)))
          (successor_steps o n w.oldest_low w.oldest_high w.next_high w.short)

      same : (x : ℕ) → (x ≡ n → ⊥) → in_window o (successor n) x ≡ in_window o n x
      same = window_more o n w.oldest_low w.oldest_high w.next_low w.next_high w.short

      inside : Known o (successor n) status'
      inside x t = ⊎_elim
          (λ (e : x ≡ n). ap is_known (with_same status n x Open e))
          (λ (e : x ≡ n → ⊥). ap is_known (with_other status n x Open e) ∙ w.inside x (sym (same x e) ∙ t))
          (cases_eq x n)

      outside : (x : ℕ) → in_window o (successor n) x ≡ false → status' x ≡ Unknown
      outside x f = ⊎_elim
          (λ (e : x ≡ n). absurd (both_ways _ f (ap (in_window o (successor n)) e ∙ window_takes o n w.oldest_low w.oldest_high w.next_low w.next_high w.short)))
          (λ (e : x ≡ n → ⊥). with_other status n x Open e ∙ w.outside x (sym (same x e) ∙ f))
          (cases_eq x n)

  -- x is open, so of the window; the window stays
  module _ (x : ℕ) (act : is_active d x ≡ true) where
    allowed_close : (e : End) → (full : Bool) × Lawful (closed d x e full).source
    allowed_close e = (
      d.source.full,
      subst (λ (z : Transactions). Lawful z.source) (sym (after_close_lem d x e d.source.full act)) (record {
        oldest_low = w.oldest_low;
        oldest_high = w.oldest_high;
        next_low = w.next_low;
        next_high = w.next_high;
        inside = closed_known o n d.source.full d.source.full status (with_status status x (end_status e)) x e (with_same status x x (end_status e) refl)
            (λ y t ne. with_other status x y (end_status e) ne) w.inside;
        outside = λ y f. with_other status x y (end_status e) (λ z. out y f z) ∙ w.outside y f;
        short = w.short;
        empty = w.empty;
        long = w.long;
      }),
    )
      where
        out : (y : ℕ) → in_window o n y ≡ false → y ≡ x → ⊥
        out y f z =
            let p = and_parts (is_listed x d.active) (is_open (status x)) act in
            both_ways (is_open (status x)) (ap is_open (ap status (sym z) ∙ w.outside y f)) p.1

    pub allowed_commit : (full : Bool) × Lawful (transactions_after d (commit x) full).source
    allowed_commit = allowed_close Commit

    pub allowed_abort : (full : Bool) × Lawful (transactions_after d (abort x) full).source
    allowed_abort = allowed_close Abort

  -- a window that begins later is shorter
  pub allowed_forget : (c : ℕ) → forgettable d.source c ≡ true → (full : Bool) × Lawful (transactions_after d (forget c) full).source
  allowed_forget c y = (
    leb 2000000000 (distance c n),
    subst (λ (z : Transactions). Lawful z.source) (sym (after_forget_lem d c _ y))
        (lawful_by c n (windowed c n status) near.0 high w.next_low w.next_high short inside outside),
  )
    where
      which : (in_window o n c ≡ true) ⊎ (c ≡ n)
      which = ⊎_elim (λ t. inl t) (λ e. inr (eqb-true c n e)) (or_cases (in_window o n c) (eqb c n) (and_parts (in_window o n c || eqb c n) _ y).0)

      near : (3 ≤ c) × (distance o c ≤ distance o n)
      near = reach o n c w.next_low which

      high : c < 4294967296
      high = ⊎_elim (λ t. (window_within o n c t).high) (λ e. rw e w.next_high) which

      short : distance c n < 2147483648
      short = omega (arith, window_shrinks o n c w.oldest_high w.next_high high near.1, w.short)

      inside : Known c n (windowed c n status)
      inside = known_within c n status (λ x t. w.inside x (window_from o n c w.oldest_high w.next_high high near.1 x t).0)

      outside : (x : ℕ) → in_window c n x ≡ false → windowed c n status x ≡ Unknown
      outside x f = cond-false (in_window c n x) (status x) Unknown f
