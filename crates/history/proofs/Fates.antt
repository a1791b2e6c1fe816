-- What the page tells of the creator and the remover of a version, by the ledger.
use Rattle.std.proofs.Common.{◌≡◌, ℕ, ◌+◌, ◌<◌, ◌≤◌, Bool, true, false, not, ◌||◌, eqb, ◌⊎◌, sym, refl, ap, ◌∙◌, inl, inr, arith}
use Rattle.std.proofs.lemmas.Bool.{both_ways, cases_Bool, cases_eq, and_from, le-leb, ne_eqb, not-true, not-false, not_from_false}
use Rattle.page.specs.Slots.{Version}
use Rattle.page.specs.declared.versions.Address.{Address}
use Rattle.xid.specs.Line.{number_on}
use Rattle.xid.specs.Numbers.{in_window}
use Rattle.xid.specs.Statuses.{is_open, is_known}
use Rattle.xid.specs.declared.statuses.Status.{Status}
use Rattle.xid.specs.declared.statuses.Status.TheVariants.{Open, Committed, Aborted, Unknown}
use Rattle.xid.proofs.Line.{number_on_low}
use Rattle.heap_checks.specs.Numbers.{version_known}
use Rattle.heap_read.specs.Fates.{creator_by_status, remover_by_status, creator_fate, remover_fate}
use Rattle.heap_read.specs.Links.{is_aborted, is_none}
use Rattle.heap_upkeep.specs.Dead.{is_made, is_removed}
use Rattle.heap_upkeep.specs.Hints.{is_committed, is_aborted as has_aborted}
use Rattle.history.specs.Archive.{Transactions}
use Rattle.history.specs.Ledger.{TransactionLog, VersionLog}
use Rattle.history.proofs.Agreement.{place_in, place_known}
use Rattle.history.proofs.Invariant.{Agrees, Removed, StandsIn, alive, id_at, maker_at}
use Rattle.history.proofs.Invariant.Removed.{nobody, somebody}
use Rattle.history.proofs.Moves.{committed_alive}

-- What a status says.

aborted_is : (s : Status) → is_known s ≡ true → has_aborted s ≡ not (is_committed s || is_open s)
aborted_is Open k = refl
aborted_is Committed k = refl
aborted_is Aborted k = refl
aborted_is Unknown k = absurd (both_ways false refl k)

made_by_status : (s : Status) → is_made (creator_by_status s) ≡ is_committed s
made_by_status Open = refl
made_by_status Committed = refl
made_by_status Aborted = refl
made_by_status Unknown = refl

aborted_by_status : (s : Status) → is_aborted (creator_by_status s) ≡ has_aborted s
aborted_by_status Open = refl
aborted_by_status Committed = refl
aborted_by_status Aborted = refl
aborted_by_status Unknown = refl

none_by_status : (s : Status) → is_none (remover_by_status s) ≡ has_aborted s
none_by_status Open = refl
none_by_status Committed = refl
none_by_status Aborted = refl
none_by_status Unknown = refl

removed_by_status : (s : Status) → is_removed (remover_by_status s) ≡ is_committed s
removed_by_status Open = refl
removed_by_status Committed = refl
removed_by_status Aborted = refl
removed_by_status Unknown = refl

-- the number of a place is not 0
pub not_zero : (x p : ℕ) → x ≡ number_on p → eqb x 0 ≡ false
not_zero x p e = ne_eqb x 0 (λ z. let n = number_on_low p in omega arith)

-- What the source says of x, the number of the transaction i of the window.
module _ (d : Transactions) (t : TransactionLog) (base low : ℕ) (g : Agrees d t base low) (i x : ℕ) (h : i < t.begun) (c : low ≤ base + i)
    (e : x ≡ number_on (base + i)) where
  pub status_committed : is_committed (d.source.status x) ≡ t.committed i
  status_committed = ap (λ (y : ℕ). is_committed (d.source.status y)) e ∙ g.status_is i h c

  pub status_aborted : has_aborted (d.source.status x) ≡ not (alive d t base low i)
  status_aborted =
      aborted_is (d.source.status x) (place_known d t base low g x (base + i) c (omega arith) e)
      ∙ ap (λ (y : Bool). not (y || is_open (d.source.status x))) status_committed
      ∙ rw (le-leb low (base + i) c) (ap (λ (y : ℕ). not (t.committed i || is_open (d.source.status y))) e)

-- the one recorded transaction that is not aborted
pub record Remover (d : Transactions) (t : TransactionLog) (b : VersionLog) (base low : ℕ) (a : Address) (v : Version) : Type 0 where
  pub who : ℕ
  pub number : v.remover ≡ number_on (base + who)
  pub is_recorded : b.recorded (id_at b a) who ≡ true
  pub begun : who < t.begun
  pub current : low ≤ base + who
  pub is_alive_lem : alive d t base low who ≡ true
  pub others : (j : ℕ) → b.recorded (id_at b a) j ≡ true → (j ≡ who → ⊥) → alive d t base low j ≡ false
  pub committed_is : is_removed (remover_fate d.source.status v) ≡ t.committed who

module _ (d : Transactions) (t : TransactionLog) (b : VersionLog) (base low : ℕ) (g : Agrees d t base low) (a : Address) (v : Version)
    (q : StandsIn d t b base low a v) where
  -- with no bit set, the source says what became of the maker
  source_made : v.creator_committed ≡ false → is_made (creator_by_status (d.source.status v.creator)) ≡ t.committed (maker_at b a)
  source_made i =
      let n = q.creator_is (rw i) in
      made_by_status (d.source.status v.creator) ∙ status_committed d t base low g (maker_at b a) v.creator q.maker_begun n.1 n.0

  source_aborted : v.creator_committed ≡ false → is_aborted (creator_by_status (d.source.status v.creator)) ≡ not (alive d t base low (maker_at b a))
  source_aborted i =
      let n = q.creator_is (rw i) in
      aborted_by_status (d.source.status v.creator) ∙ status_aborted d t base low g (maker_at b a) v.creator q.maker_begun n.1 n.0

  -- committed or frozen for the page: committed in the ledger
  pub maker_committed : is_made (creator_fate d.source.status v) ≡ true → t.committed (maker_at b a) ≡ true
  maker_committed e = go (cases_Bool v.creator_committed) (cases_Bool v.creator_invalid)
    where
      go : (v.creator_committed ≡ true) ⊎ (v.creator_committed ≡ false) → (v.creator_invalid ≡ true) ⊎ (v.creator_invalid ≡ false) → t.committed (maker_at b a) ≡ true
      go (inl i) o = q.marked_committed i
      go (inr i) (inl o) = absurd (both_ways false refl (rw (i, o) at e))
      go (inr i) (inr o) = sym (source_made i) ∙ rw (i, o) at e

  pub creator_out_dead : is_aborted (creator_fate d.source.status v) ≡ true → alive d t base low (maker_at b a) ≡ false
  creator_out_dead e = go (cases_Bool v.creator_committed) (cases_Bool v.creator_invalid)
    where
      go : (v.creator_committed ≡ true) ⊎ (v.creator_committed ≡ false) → (v.creator_invalid ≡ true) ⊎ (v.creator_invalid ≡ false)
          → alive d t base low (maker_at b a) ≡ false
      go (inl i) (inl o) = absurd (both_ways false refl (rw (i, o) at e))
      go (inl i) (inr o) = absurd (both_ways false refl (rw (i, o) at e))
      go (inr i) (inl o) = q.marked_aborted i o
      go (inr i) (inr o) = not-true _ (sym (source_aborted i) ∙ rw (i, o) at e)

  pub creator_dead_out : alive d t base low (maker_at b a) ≡ false → is_aborted (creator_fate d.source.status v) ≡ true
  creator_dead_out e = go (cases_Bool v.creator_committed) (cases_Bool v.creator_invalid)
    where
      go : (v.creator_committed ≡ true) ⊎ (v.creator_committed ≡ false) → (v.creator_invalid ≡ true) ⊎ (v.creator_invalid ≡ false)
          → is_aborted (creator_fate d.source.status v) ≡ true
      go (inl i) o = absurd (both_ways _ e (committed_alive d t base low (maker_at b a) (q.marked_committed i)))
      go (inr i) (inl o) = rw (i, o)
      go (inr i) (inr o) = rw (i, o) (source_aborted i ∙ not_from_false _ e)

  pub numbers_known_lem : version_known d.source.oldest d.source.next v ≡ true
  numbers_known_lem = and_from _ _ (creator (cases_Bool v.creator_committed) (cases_Bool v.creator_invalid)) (remover q.removed)
    where
      creator : (v.creator_committed ≡ true) ⊎ (v.creator_committed ≡ false) → (v.creator_invalid ≡ true) ⊎ (v.creator_invalid ≡ false)
          → (v.creator_committed || v.creator_invalid || in_window d.source.oldest d.source.next v.creator) ≡ true
      creator (inl i) o = rw i
      creator (inr i) (inl o) = rw (i, o)
      creator (inr i) (inr o) =
          let n = q.creator_is (rw i) in
          let k = q.maker_begun in
          rw (i, o) (place_in d t base low g v.creator (base + maker_at b a) n.1 (omega arith) n.0)

      remover : Removed (alive d t base low) t.committed (b.recorded (id_at b a)) t.begun base low v
          → (eqb v.remover 0 || v.remover_committed || v.remover_invalid || in_window d.source.oldest d.source.next v.remover) ≡ true
      remover (nobody z o n f) = rw z
      remover (somebody i e r h l m k f) = go (cases_Bool v.remover_committed) (cases_Bool v.remover_invalid)
        where
          go : (v.remover_committed ≡ true) ⊎ (v.remover_committed ≡ false) → (v.remover_invalid ≡ true) ⊎ (v.remover_invalid ≡ false)
              → (eqb v.remover 0 || v.remover_committed || v.remover_invalid || in_window d.source.oldest d.source.next v.remover) ≡ true
          go (inl c) o = rw (not_zero v.remover (base + i) e, c)
          go (inr c) (inl o) = rw (not_zero v.remover (base + i) e, c, o)
          go (inr c) (inr o) = rw (not_zero v.remover (base + i) e, c, o) (place_in d t base low g v.remover (base + i) l (omega arith) e)

  pub remover_one : is_none (remover_fate d.source.status v) ≡ false → Remover d t b base low a v
  remover_one x = by q.removed
    where
      by : Removed (alive d t base low) t.committed (b.recorded (id_at b a)) t.begun base low v → Remover d t b base low a v
      by (nobody z o n f) = absurd (both_ways true (rw z at x) refl)
      by (somebody i e r h l m k f) = go (cases_Bool v.remover_invalid) (cases_Bool v.remover_committed)
        where
          nz : eqb v.remover 0 ≡ false
          nz = not_zero v.remover (base + i) e

          go : (v.remover_invalid ≡ true) ⊎ (v.remover_invalid ≡ false) → (v.remover_committed ≡ true) ⊎ (v.remover_committed ≡ false) → Remover d t b base low a v
          go (inl o) c = absurd (both_ways true (rw (nz, o) at x) refl)
          go (inr o) (inl c) = record {
            who = i;
            number = e;
            is_recorded = r;
            begun = h;
            current = l;
            is_alive_lem = committed_alive d t base low i (m c);
            others = f;
            committed_is = rw (nz, o, c) (sym (m c));
          }
          go (inr o) (inr c) = record {
            who = i;
            number = e;
            is_recorded = r;
            begun = h;
            current = l;
            is_alive_lem = not-false _ (sym (none_by_status (d.source.status v.remover) ∙ status_aborted d t base low g i v.remover h l e) ∙ rw (nz, o, c) at x);
            others = f;
            committed_is = rw (nz, o, c) (removed_by_status (d.source.status v.remover) ∙ status_committed d t base low g i v.remover h l e);
          }

  pub remover_none : is_none (remover_fate d.source.status v) ≡ true → (j : ℕ) → b.recorded (id_at b a) j ≡ true → alive d t base low j ≡ false
  remover_none x = by q.removed
    where
      by : Removed (alive d t base low) t.committed (b.recorded (id_at b a)) t.begun base low v
          → (j : ℕ) → b.recorded (id_at b a) j ≡ true → alive d t base low j ≡ false
      by (nobody z o n f) j y = f j y
      by (somebody i e r h l m k f) j y = which (cases_eq j i)
        where
          nz : eqb v.remover 0 ≡ false
          nz = not_zero v.remover (base + i) e

          at_i : (v.remover_invalid ≡ true) ⊎ (v.remover_invalid ≡ false) → (v.remover_committed ≡ true) ⊎ (v.remover_committed ≡ false) → alive d t base low i ≡ false
          at_i (inl o) c = k o
          at_i (inr o) (inl c) = absurd (both_ways false refl (rw (nz, o, c) at x))
          at_i (inr o) (inr c) = not-true _ (sym (none_by_status (d.source.status v.remover) ∙ status_aborted d t base low g i v.remover h l e) ∙ rw (nz, o, c) at x)

          which : (j ≡ i) ⊎ (j ≡ i → ⊥) → alive d t base low j ≡ false
          which (inl z) = ap (alive d t base low) z ∙ at_i (cases_Bool v.remover_invalid) (cases_Bool v.remover_committed)
          which (inr n) = f j y n

  -- one that is recorded and not aborted is the remover
  pub remover_alive : (i : ℕ) → b.recorded (id_at b a) i ≡ true → alive d t base low i ≡ true → is_none (remover_fate d.source.status v) ≡ false
  remover_alive i r e = go (cases_Bool (is_none (remover_fate d.source.status v)))
    where
      go : (is_none (remover_fate d.source.status v) ≡ true) ⊎ (is_none (remover_fate d.source.status v) ≡ false) → is_none (remover_fate d.source.status v) ≡ false
      go (inl o) = absurd (both_ways _ (remover_none o i r) e)
      go (inr o) = o
