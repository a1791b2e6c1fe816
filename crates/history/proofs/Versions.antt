-- A version that stands on a page goes on standing: as transactions and the window move on, as the version log grows, as its bits
-- are set, as it is removed.
use Rattle.std.proofs.Common.{◌≡◌, ℕ, ◌+◌, ◌<◌, ◌≤◌, Bool, true, false, cond, ◌&&◌, ◌||◌, eqb, leb, ◌⊎◌, List, Some, sym, refl, ap, ◌∙◌, subst, inl, inr, arith}
use Rattle.std.proofs.lemmas.Bool.{both_ways, cases_Bool, and_parts, and_from, or_cases, or_left, or_right, or_parts, le-leb, not-true}
use Rattle.page.specs.Slots.{Version}
use Rattle.page.specs.declared.versions.Address.{Address}
use Rattle.page_write.specs.Fields.{new_version, removed_by}
use Rattle.page_write.specs.declared.fields.Origin.{Origin}
use Rattle.page_write_laws.specs.Slots.{Replaces, Milder}
use Rattle.xid.specs.Line.{number_on}
use Rattle.xid.specs.declared.statuses.Status.{Status}
use Rattle.xid.specs.declared.statuses.Status.TheVariants.{Open, Committed, Aborted, Unknown}
use Rattle.xid.proofs.Line.{number_on_low, number_on_high}
use Rattle.heap_read.specs.Fates.{remover_fate}
use Rattle.heap_read.specs.Links.{is_none}
use Rattle.heap_upkeep.specs.Hints.{is_committed, is_aborted, hinted}
use Rattle.heap_upkeep.specs.Freezing.{to_freeze, to_clear, frozen_at}
use Rattle.heap_upkeep.proofs.Milder.{hinted_milder, frozen_milder}
use Rattle.history.specs.Archive.{Transactions}
use Rattle.history.specs.Checks.{place_taken}
use Rattle.history.specs.Ledger.{TransactionLog, VersionLog, Entry, adds, records}
use Rattle.history.proofs.Invariant.{Agrees, Settled, Removed, Stands, StandsIn, alive, id_at, maker_at}
use Rattle.history.proofs.Invariant.Removed.{nobody, somebody}
use Rattle.history.proofs.Log.{last_new, id_new, entry_here, rec_here, rec_same}
use Rattle.history.proofs.Moves.{Moves, committed_alive}
use Rattle.history.proofs.Fates.{status_committed, status_aborted, not_zero, remover_none}

-- Transactions move on, and with them the window, from low to low'.

-- the unfrozen creator and the remover of v are of the new window too
pub record StaysIn (begun base low low' : ℕ) (v : Version) : Type 0 where
  pub creator_in : (v.creator_committed && v.creator_invalid) ≡ false → (i : ℕ) → v.creator ≡ number_on (base + i) → i < begun → low ≤ base + i → low' ≤ base + i
  pub remover_in : (i : ℕ) → v.remover ≡ number_on (base + i) → i < begun → low ≤ base + i → low' ≤ base + i

-- what is not alive does not come to life
pub still_dead : (x y : Bool) → (y ≡ true → x ≡ true) → x ≡ false → y ≡ false
still_dead x true h e = absurd (both_ways x e (h refl))
still_dead x false h e = refl

pub stands_moves : (d : Transactions) (t : TransactionLog) (d' : Transactions) (t' : TransactionLog) (base low low' : ℕ) → Moves d t d' t' base low low'
    → (b : VersionLog) (a : Address) (v : Version) → ((i : ℕ) → b.recorded (id_at b a) i ≡ true → i < t.begun) → StaysIn t.begun base low low' v
    → StandsIn d t b base low a v → StandsIn d' t' b base low' a v
stands_moves d t d' t' base low low' m b a v rb s q = record {
  last = q.last;
  is_added = q.is_added;
  address_is = q.address_is;
  row_is = q.row_is;
  maker_begun = omega (arith, q.maker_begun, m.more_begun);
  creator_is = λ f. let n = q.creator_is f in (n.0, s.creator_in f (maker_at b a) n.0 q.maker_begun n.1);
  marked_committed = λ e. m.more_committed (maker_at b a) (q.marked_committed e);
  marked_aborted = λ e o. dies (maker_at b a) q.maker_begun (q.marked_aborted e o);
  frozen_settled = λ e. m.more_settled (maker_at b a) (q.frozen_settled e);
  removed = go q.removed;
  ctid_block = q.ctid_block;
  ctid_pointer = q.ctid_pointer;
}
  where
    dies : (i : ℕ) → i < t.begun → alive d t base low i ≡ false → alive d' t' base low' i ≡ false
    dies i h e = still_dead (alive d t base low i) (alive d' t' base low' i) (m.less_alive i h) e

    go : Removed (alive d t base low) t.committed (b.recorded (id_at b a)) t.begun base low v
        → Removed (alive d' t' base low') t'.committed (b.recorded (id_at b a)) t'.begun base low' v
    go (nobody z o n f) = nobody z o n (λ i r. dies i (rb i r) (f i r))
    go (somebody i e r h l c k f) =
        somebody i e r (omega (arith, m.more_begun)) (s.remover_in i e h l) (λ z. m.more_committed i (c z)) (λ z. dies i h (k z)) (λ j y n. dies j (rb j y) (f j y n))

module _ (al cm : ℕ → Bool) (st : ℕ → Type 0) (begun base low : ℕ) where
  -- the log changes, but not what it has of this address
  pub stands_book : (b b' : VersionLog) (a : Address) (v : Version) → b'.last_at a ≡ b.last_at a → b.added ≤ b'.added → b'.entry (id_at b' a) ≡ b.entry (id_at b a)
      → ((i : ℕ) → b'.recorded (id_at b' a) i ≡ b.recorded (id_at b a) i) → Stands al cm st begun base low b a v → Stands al cm st begun base low b' a v
  stands_book b b' a v la up en re q = record {
    last = rw la q.last;
    is_added = rw la (omega (arith, q.is_added));
    address_is = rw en q.address_is;
    row_is = rw en q.row_is;
    maker_begun = rw mk q.maker_begun;
    creator_is = λ f. rw mk (q.creator_is f);
    marked_committed = λ e. rw mk (q.marked_committed e);
    marked_aborted = λ e o. rw mk (q.marked_aborted e o);
    frozen_settled = λ e. rw mk (q.frozen_settled e);
    removed = go q.removed;
    ctid_block = q.ctid_block;
    ctid_pointer = q.ctid_pointer;
  }
    where
      mk : maker_at b' a ≡ maker_at b a
      mk = ap (λ (e : Entry). e.maker) en

      go : Removed al cm (b.recorded (id_at b a)) begun base low v → Removed al cm (b'.recorded (id_at b' a)) begun base low v
      go (nobody z o n f) = nobody z o n (λ i r. f i (sym (re i) ∙ r))
      go (somebody i e r h l c k f) = somebody i e (re i ∙ r) h l c k (λ j y n. f j (sym (re j) ∙ y) n)

  -- a version made by the transaction i, with the number x
  pub stands_new : (b : VersionLog) (i x : ℕ) (o : Origin) (row : List ℕ) (n r : Address) → i < begun → x ≡ number_on (base + i) → low ≤ base + i
      → ((j : ℕ) → b.recorded b.added j ≡ false) → n.block < 4294967296 → n.pointer < 65536
      → Stands al cm st begun base low (adds b (Some i) row n r) n (new_version x n o row)
  stands_new b i x o row n r ib xe il fresh nb np = record {
    last = last_new b i row n r ∙ ap Some (sym (id_new b i row n r));
    is_added = rw (id_new b i row n r) (omega arith);
    address_is = ap (λ (e : Entry). e.address) en;
    row_is = sym (ap (λ (e : Entry). e.bytes) en);
    maker_begun = rw mk ib;
    creator_is = λ f. rw mk (xe, il);
    marked_committed = λ e. absurd (both_ways false refl e);
    marked_aborted = λ e o. absurd (both_ways false refl o);
    frozen_settled = λ e. absurd (both_ways false refl e);
    removed = nobody refl refl refl (λ j y. absurd (both_ways _ (ap (λ (k : ℕ). b.recorded k j) (id_new b i row n r) ∙ fresh j) y));
    ctid_block = nb;
    ctid_pointer = np;
  }
    where
      en : (adds b (Some i) row n r).entry (id_at (adds b (Some i) row n r) n) ≡ record { maker = i; bytes = row; address = n; root = r }
      en = entry_here b i row n r

      mk : maker_at (adds b (Some i) row n r) n ≡ i
      mk = ap (λ (e : Entry). e.maker) en

  -- a version removed by the transaction i, with the number x, where all that were recorded with it are aborted
  pub stands_removed : (b : VersionLog) (a : Address) (v : Version) (i x : ℕ) (to : Address) (hot : Bool) → i < begun → x ≡ number_on (base + i) → low ≤ base + i
      → ((j : ℕ) → b.recorded (id_at b a) j ≡ true → al j ≡ false) → to.block < 4294967296 → to.pointer < 65536
      → Stands al cm st begun base low b a v → Stands al cm st begun base low (records b (Some i) (Some (id_at b a))) a (removed_by x to hot v)
  stands_removed b a v i x to hot ib xe il all tb tp q = record {
    last = q.last;
    is_added = q.is_added;
    address_is = q.address_is;
    row_is = q.row_is;
    maker_begun = q.maker_begun;
    creator_is = q.creator_is;
    marked_committed = q.marked_committed;
    marked_aborted = q.marked_aborted;
    frozen_settled = q.frozen_settled;
    removed = somebody i xe (rec_here b i (id_at b a)) ib il (λ z. absurd (both_ways false refl z)) (λ z. absurd (both_ways false refl z))
        (λ j y n. all j (sym (rec_same b i (id_at b a) j n) ∙ y));
    ctid_block = tb;
    ctid_pointer = tp;
  }

  -- other bits
  pub stands_marks : (b : VersionLog) (a : Address) (v w : Version) → w.creator ≡ v.creator → w.row ≡ v.row → w.ctid ≡ v.ctid
      → ((w.creator_committed && w.creator_invalid) ≡ false → (v.creator_committed && v.creator_invalid) ≡ false)
      → (w.creator_committed ≡ true → cm (maker_at b a) ≡ true) → (w.creator_committed ≡ false → w.creator_invalid ≡ true → al (maker_at b a) ≡ false)
      → ((w.creator_committed && w.creator_invalid) ≡ true → st (maker_at b a)) → Removed al cm (b.recorded (id_at b a)) begun base low w
      → Stands al cm st begun base low b a v → Stands al cm st begun base low b a w
  stands_marks b a v w ce re te uf mc ma fs rm q = record {
    last = q.last;
    is_added = q.is_added;
    address_is = q.address_is;
    row_is = re ∙ q.row_is;
    maker_begun = q.maker_begun;
    creator_is = λ f. let n = q.creator_is (uf f) in (ce ∙ n.0, n.1);
    marked_committed = mc;
    marked_aborted = ma;
    frozen_settled = fs;
    removed = rm;
    ctid_block = subst (λ (c : Address). c.block < 4294967296) (sym te) q.ctid_block;
    ctid_pointer = subst (λ (c : Address). c.pointer < 65536) (sym te) q.ctid_pointer;
  }

-- Hints and the marks of freeze.

-- a bit that is set, or news of a number with no bit
news_committed : (x y : Bool) (s : Status) → (x || is_committed (cond (x || y) Unknown s)) ≡ true → (x ≡ true) ⊎ ((x ≡ false) × (is_committed s ≡ true))
news_committed true y s e = inl refl
news_committed false true s e = absurd (both_ways false refl e)
news_committed false false s e = inr (refl, e)

news_aborted : (x y : Bool) (s : Status) → (y || is_aborted (cond (x || y) Unknown s)) ≡ true → (y ≡ true) ⊎ ((x ≡ false) × (is_aborted s ≡ true))
news_aborted x true s e = inl refl
news_aborted true false s e = absurd (both_ways false refl e)
news_aborted false false s e = inr (refl, e)

not_both : (s : Status) → is_committed s ≡ true → is_aborted s ≡ true → ⊥
not_both Open c e = both_ways false refl e
not_both Committed c e = both_ways false refl e
not_both Aborted c e = both_ways false refl c
not_both Unknown c e = both_ways false refl e

-- news never freezes
news_frozen : (x y : Bool) (s : Status)
    → ((x || is_committed (cond (x || y) Unknown s)) && (y || is_aborted (cond (x || y) Unknown s))) ≡ true → (x && y) ≡ true
news_frozen true true s e = refl
news_frozen true false s e = absurd (both_ways false refl e)
news_frozen false true s e = absurd (both_ways false refl e)
news_frozen false false s e = let p = and_parts _ _ e in absurd (not_both s p.0 p.1)

news_unfrozen : (x y : Bool) (s : Status)
    → ((x || is_committed (cond (x || y) Unknown s)) && (y || is_aborted (cond (x || y) Unknown s))) ≡ false → (x && y) ≡ false
news_unfrozen true true s e = e
news_unfrozen true false s e = refl
news_unfrozen false y s e = refl

or_no : (x y : Bool) → y ≡ false → (x || y) ≡ true → x ≡ true
or_no true y e f = refl
or_no false y e f = absurd (both_ways y e f)

frozen_was : (x y z : Bool) → ((x || z) && (y || z)) ≡ false → (x && y) ≡ false
frozen_was true true z e = e
frozen_was true false z e = refl
frozen_was false y z e = refl

module _ (d : Transactions) (t : TransactionLog) (b : VersionLog) (base low : ℕ) (g : Agrees d t base low) (a : Address) (v : Version)
    (q : StandsIn d t b base low a v) where
  pub stands_hint : StandsIn d t b base low a (hinted d.source.status v)
  stands_hint =
      stands_marks (alive d t base low) t.committed (Settled t (place_taken d)) t.begun base low b a v (hinted d.source.status v) refl refl refl
      (news_unfrozen v.creator_committed v.creator_invalid told) (λ e. committed (news_committed v.creator_committed v.creator_invalid told e))
      (λ i e. aborted (or_parts _ _ i).0 (news_aborted v.creator_committed v.creator_invalid told e))
      (λ e. q.frozen_settled (news_frozen v.creator_committed v.creator_invalid told e)) (by q.removed) q
    where
      told : Status
      told = d.source.status v.creator

      committed : (v.creator_committed ≡ true) ⊎ ((v.creator_committed ≡ false) × (is_committed told ≡ true)) → t.committed (maker_at b a) ≡ true
      committed (inl i) = q.marked_committed i
      committed (inr p) =
          let n = q.creator_is (rw p.0) in
          sym (status_committed d t base low g (maker_at b a) v.creator q.maker_begun n.1 n.0) ∙ p.1

      aborted : v.creator_committed ≡ false → (v.creator_invalid ≡ true) ⊎ ((v.creator_committed ≡ false) × (is_aborted told ≡ true)) → alive d t base low (maker_at b a) ≡ false
      aborted i (inl o) = q.marked_aborted i o
      aborted i (inr p) =
          let n = q.creator_is (rw i) in
          not-true _ (sym (status_aborted d t base low g (maker_at b a) v.creator q.maker_begun n.1 n.0) ∙ p.1)

      by : Removed (alive d t base low) t.committed (b.recorded (id_at b a)) t.begun base low v
          → Removed (alive d t base low) t.committed (b.recorded (id_at b a)) t.begun base low (hinted d.source.status v)
      by (nobody z o n f) = nobody z (or_left _ _ o) (rw (z, n)) f
      by (somebody i e r h l c k f) =
          somebody i e r h l
          (λ x. by_commit (news_committed v.remover_committed v.remover_invalid (d.source.status v.remover) (rw (not_zero v.remover (base + i) e) at x)))
          (λ x. by_abort (news_aborted v.remover_committed v.remover_invalid (d.source.status v.remover) (rw (not_zero v.remover (base + i) e) at x))) f
        where
          by_commit : (v.remover_committed ≡ true) ⊎ ((v.remover_committed ≡ false) × (is_committed (d.source.status v.remover) ≡ true)) → t.committed i ≡ true
          by_commit (inl x) = c x
          by_commit (inr p) = sym (status_committed d t base low g i v.remover h l e) ∙ p.1

          by_abort : (v.remover_invalid ≡ true) ⊎ ((v.remover_committed ≡ false) × (is_aborted (d.source.status v.remover) ≡ true)) → alive d t base low i ≡ false
          by_abort (inl x) = k x
          by_abort (inr p) = not-true _ (sym (status_aborted d t base low g i v.remover h l e) ∙ p.1)

  -- a version is frozen only if its maker is settled; a remover that is cleared had aborted, and so had all that are recorded
  pub stands_freeze : (c : ℕ) → (to_freeze d.source.status c v ≡ true → Settled t (place_taken d) (maker_at b a))
      → StandsIn d t b base low a (frozen_at d.source.status c v)
  stands_freeze c early =
      stands_marks (alive d t base low) t.committed (Settled t (place_taken d)) t.begun base low b a v (frozen_at d.source.status c v) refl refl refl
      (frozen_was v.creator_committed v.creator_invalid (to_freeze d.source.status c v)) (λ e. committed (or_cases _ _ e))
      (λ i e. let p = or_parts _ _ i in q.marked_aborted p.0 (or_no _ _ p.1 e))
      (λ e. let p = and_parts _ _ e in settled (or_cases _ _ p.0) (or_cases _ _ p.1)) (which (cases_Bool (to_clear d.source.status c v))) q
    where
      committed : (v.creator_committed ≡ true) ⊎ (to_freeze d.source.status c v ≡ true) → t.committed (maker_at b a) ≡ true
      committed (inl i) = q.marked_committed i
      committed (inr z) = (early z).is_committed_lem

      settled : (v.creator_committed ≡ true) ⊎ (to_freeze d.source.status c v ≡ true) → (v.creator_invalid ≡ true) ⊎ (to_freeze d.source.status c v ≡ true)
          → Settled t (place_taken d) (maker_at b a)
      settled (inl i) (inl o) = q.frozen_settled (and_from _ _ i o)
      settled (inl i) (inr z) = early z
      settled (inr z) o = early z

      -- a committed remover is not none
      no_bit : is_none (remover_fate d.source.status v) ≡ true → Removed (alive d t base low) t.committed (b.recorded (id_at b a)) t.begun base low v
          → v.remover_committed ≡ false
      no_bit x (nobody z o n f) = n
      no_bit x (somebody i e r h l m k f) =
          still_dead (alive d t base low i) v.remover_committed (λ z. committed_alive d t base low i (m z)) (remover_none d t b base low g a v q x i r)

      keep : to_clear d.source.status c v ≡ false → Removed (alive d t base low) t.committed (b.recorded (id_at b a)) t.begun base low v
          → Removed (alive d t base low) t.committed (b.recorded (id_at b a)) t.begun base low (frozen_at d.source.status c v)
      keep x (nobody z o n f) = nobody (rw x z) (or_left _ _ o) n f
      keep x (somebody i e r h l m k f) = somebody i (rw x e) r h l m (λ y. k (or_no v.remover_invalid (to_clear d.source.status c v) x y)) f

      which : (to_clear d.source.status c v ≡ true) ⊎ (to_clear d.source.status c v ≡ false)
          → Removed (alive d t base low) t.committed (b.recorded (id_at b a)) t.begun base low (frozen_at d.source.status c v)
      which (inl x) =
          let none : is_none (remover_fate d.source.status v) ≡ true = (and_parts _ _ (and_parts _ _ x).0).1 in
          nobody (rw x) (or_right v.remover_invalid _ x) (no_bit none q.removed) (remover_none d t b base low g a v q none)
      which (inr x) = keep x q.removed

-- A version that stands keeps the rules on removers and ctids, so that both leave a lawful page lawful.
module _ (d : Transactions) (t : TransactionLog) (b : VersionLog) (base low : ℕ) (a : Address) (v : Version) (q : StandsIn d t b base low a v) where
  replaces_self : Replaces v v
  replaces_self = record {
    creator = refl;
    heap_only = refl;
    row = refl;
    remover = small q.removed;
    block = q.ctid_block;
    pointer = q.ctid_pointer;
    one_bit = one_bit_lem q.removed;
    number = number q.removed;
  }
    where
      small : Removed (alive d t base low) t.committed (b.recorded (id_at b a)) t.begun base low v → v.remover < 4294967296
      small (nobody z o n f) = omega arith
      small (somebody i e r h l m k f) = omega (arith, number_on_high (base + i))

      one_bit_lem : Removed (alive d t base low) t.committed (b.recorded (id_at b a)) t.begun base low v → (v.remover_committed && v.remover_invalid) ≡ false
      one_bit_lem (nobody z o n f) = rw n
      one_bit_lem (somebody i e r h l m k f) = go (cases_Bool v.remover_committed) (cases_Bool v.remover_invalid)
        where
          go : (v.remover_committed ≡ true) ⊎ (v.remover_committed ≡ false) → (v.remover_invalid ≡ true) ⊎ (v.remover_invalid ≡ false)
              → (v.remover_committed && v.remover_invalid) ≡ false
          go (inl x) (inl y) = absurd (both_ways _ (k y) (committed_alive d t base low i (m x)))
          go (inl x) (inr y) = rw (x, y)
          go (inr x) y = rw x

      number : Removed (alive d t base low) t.committed (b.recorded (id_at b a)) t.begun base low v
          → (leb 3 v.remover || (eqb v.remover 0 && v.remover_invalid)) ≡ true
      number (nobody z o n f) = rw (z, o)
      number (somebody i e r h l m k f) = or_left _ _ (le-leb 3 v.remover (omega (arith, number_on_low (base + i))))

  pub milder_hint : (told : ℕ → Status) → Milder v (hinted told v)
  milder_hint told = hinted_milder told v replaces_self

  pub milder_freeze : (told : ℕ → Status) (c : ℕ) → Milder v (frozen_at told c v)
  milder_freeze told c = frozen_milder told c v replaces_self
