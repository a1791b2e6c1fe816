-- The slots go on agreeing with the ledger's versions: as transactions and the window move on, under hints and under the marks of freeze.
use Rattle.std.proofs.Common.{◌≡◌, ℕ, ◌+◌, ◌<◌, ◌≤◌, Bool, true, false, cond, ◌&&◌, eqb, ◌⊎◌, sym, refl, ap, ◌∙◌, subst, inl, inr, arith}
use Rattle.std.proofs.lemmas.Bool.{both_ways, cases_Bool, cases_eq, cases_lt, eq-eqb, ne_eqb, and_parts, and_from, or_parts, not-true, not_from_false}
use Rattle.page.specs.Slots.{Version, Slot}
use Rattle.page.specs.Slots.Slot.{holds}
use Rattle.page.specs.declared.versions.Address.{Address}
use Rattle.page_write_laws.specs.Slots.{on_version}
use Rattle.xid.specs.Line.{number_on}
use Rattle.xid.specs.Numbers.{precedes}
use Rattle.xid.proofs.Line.{full_number_most, line_before}
use Rattle.heap_checks.specs.Numbers.{version_needs}
use Rattle.heap_read.specs.Fates.{creator_fate}
use Rattle.heap_read.specs.declared.fates.CreatorFate.{CreatorFate}
use Rattle.heap_read.specs.declared.fates.CreatorFate.TheVariants.{Frozen, Committed, Aborted, Open, Unknown}
use Rattle.heap_upkeep.specs.Dead.{is_made}
use Rattle.heap_upkeep.specs.Hints.{hinted}
use Rattle.heap_upkeep.specs.Freezing.{is_plain, to_freeze, to_clear, frozen_at}
use Rattle.history.specs.Archive.{Transactions}
use Rattle.history.specs.Checks.{place_taken, cutoff_fits}
use Rattle.history.specs.Ledger.{TransactionLog, VersionLog}
use Rattle.history.proofs.Early.{early}
use Rattle.history.proofs.Effects.{Remarks}
use Rattle.history.proofs.Fates.{maker_committed, not_zero, remover_none}
use Rattle.history.proofs.Invariant.{Agrees, Settled, StandsIn, Account, SlotsAgree, alive, id_at, maker_at}
use Rattle.history.proofs.Invariant.Account.{here, aborted, past}
use Rattle.history.proofs.Moves.{Moves}
use Rattle.history.proofs.RowsKept.{Alike, alike_same, rows_moves, rows_each, held_by, on_same}
use Rattle.history.proofs.Versions.{StaysIn, still_dead, stands_moves, stands_hint, stands_freeze}

-- Transactions move on, and with them the window.

module _ (d : Transactions) (t : TransactionLog) (d' : Transactions) (t' : TransactionLog) (b : VersionLog) (base low low' : ℕ) (S : Address → Slot)
    (m : Moves d t d' t' base low low') where
  -- from low to low', where the numbers on pages that count are of the new window
  pub slots_low : ((a : Address) (v : Version) → S a ≡ holds v → StaysIn t.begun base low low' v) → SlotsAgree d t b base low S → SlotsAgree d' t' b base low' S
  slots_low s k = record {
    stands = λ a v e. stands_moves d t d' t' base low low' m b a v (k.rows.rec_begun (id_at b a)) (s a v e) (k.stands a v e);
    rows =
        rows_moves (alive d t base low) (alive d' t' base low') t.committed t'.committed t.begun t'.begun b S m.more_begun m.less_alive
        m.more_committed (λ a v e. (k.stands a v e).maker_begun) k.rows;
    account = λ v h. go v h (k.account v h);
    makers = λ v h. omega (arith, k.makers v h, m.more_begun);
  }
    where
      go : (v : ℕ) → v < b.added → Account d t b base low S v → Account d' t' b base low' S v
      go v h (here u e l) = here u e l
      go v h (aborted e) = aborted (still_dead _ _ (m.less_alive (b.entry v).maker (k.makers v h)) e)
      go v h (past p) = past (record { by = p.by; is_recorded = p.is_recorded; settled = m.more_settled p.by p.settled })

pub slots_moves : (d : Transactions) (t : TransactionLog) (d' : Transactions) (t' : TransactionLog) (b : VersionLog) (base low : ℕ) (S : Address → Slot)
    → Moves d t d' t' base low low → SlotsAgree d t b base low S → SlotsAgree d' t' b base low S
slots_moves d t d' t' b base low S m = slots_low d t d' t' b base low low S m (λ a v e. record { creator_in = λ f i z h l. l; remover_in = λ i z h l. l })

-- a version that does not need the numbers before x, the number at low'
pub stays_in : (d : Transactions) (t : TransactionLog) (base low : ℕ) → Agrees d t base low → (x low' : ℕ) → x ≡ number_on low' → low' ≤ base + t.begun
    → (v : Version) → version_needs x v ≡ false → StaysIn t.begun base low low' v
stays_in d t base low g x low' xe up v e =
    let needs = or_parts _ _ e in
    record {
      creator_in = λ f i z h l. go i v.creator z l (λ p. both_ways _ needs.0 (and_from _ _ (not_from_false _ f) p));
      remover_in = λ i z h l. go i v.remover z l (λ p. both_ways _ needs.1 (and_from _ _ (not_from_false _ (not_zero v.remover (base + i) z)) p));
    }
  where
    go : (i y : ℕ) → y ≡ number_on (base + i) → low ≤ base + i → (precedes y x ≡ true → ⊥) → low' ≤ base + i
    go i y z l not_before = which (cases_lt (base + i) low')
      where
        which : (base + i < low') ⊎ (low' ≤ base + i) → low' ≤ base + i
        which (inr h) = h
        which (inl h) =
            absurd (not_before (rw (z, xe) (line_before (base + i) low' h
            (omega (arith, g.near, full_number_most low' (base + t.begun) up, full_number_most low (base + i) l)))))

-- Each version of block k is changed by f, which leaves it standing and its names as they were.
module _ (d : Transactions) (t : TransactionLog) (b : VersionLog) (base low : ℕ) (S S' : Address → Slot) (k : ℕ) (f : Version → Version) (m : Remarks S S' k f)
    (stands-f : (a : Address) (v : Version) → S a ≡ holds v → StandsIn d t b base low a (f v))
    (alike-f : (a : Address) (v : Version) → S a ≡ holds v → Alike (alive d t base low) (b.recorded (id_at b a)) (b.recorded (id_at b a)) v (f v))
    (q : SlotsAgree d t b base low S) where
  abbrev on_block : Address → Version → Version
  on_block a v = cond (eqb a.block k) (f v) v

  marked : (a : Address) → S' a ≡ on_version (on_block a) (S a)
  marked a = go (cases_eq a.block k)
    where
      go : (a.block ≡ k) ⊎ (a.block ≡ k → ⊥) → S' a ≡ on_version (λ v. cond (eqb a.block k) (f v) v) (S a)
      go (inl z) = m.on a z ∙ ap (λ (x : Bool). on_version (λ v. cond x (f v) v) (S a)) (sym (eq-eqb _ _ z))
      go (inr n) = m.off a n ∙ sym (on_same (S a)) ∙ ap (λ (x : Bool). on_version (λ v. cond x (f v) v) (S a)) (sym (ne_eqb _ _ n))

  slots_marks : SlotsAgree d t b base low S'
  slots_marks = record {
    stands = λ a w e. stands' a w (held_by (on_block a) (S a) w (sym (marked a) ∙ e));
    rows =
        rows_each (alive d t base low) t.committed t.begun b b.recorded S S' on_block marked (λ a v e. alike' a v e (eqb a.block k)) (λ v i e. e)
        q.rows.rec_begun q.rows;
    account = λ v h. account' v (q.account v h);
    makers = q.makers;
  }
    where
      stands' : (a : Address) (w : Version) → (v : Version) × (S a ≡ holds v) × (on_block a v ≡ w) → StandsIn d t b base low a w
      stands' a w y = subst (λ (x : Version). StandsIn d t b base low a x) y.2 (go (eqb a.block k))
        where
          go : (x : Bool) → StandsIn d t b base low a (cond x (f y.0) y.0)
          go true = stands-f a y.0 y.1
          go false = q.stands a y.0 y.1

      alike' : (a : Address) (v : Version) → S a ≡ holds v → (x : Bool)
          → Alike (alive d t base low) (b.recorded (id_at b a)) (b.recorded (id_at b a)) v (cond x (f v) v)
      alike' a v e true = alike-f a v e
      alike' a v e false = alike_same (alive d t base low) (b.recorded (id_at b a)) (b.recorded (id_at b a)) v (λ i r. r)

      account' : (v : ℕ) → Account d t b base low S v → Account d t b base low S' v
      account' v (here u e l) = here (on_block (b.entry v).address u) (marked (b.entry v).address ∙ ap (on_version (on_block (b.entry v).address)) e) l
      account' v (aborted e) = aborted e
      account' v (past p) = past p

plain_made : (f : CreatorFate) → is_plain f ≡ true → is_made f ≡ true
plain_made Frozen e = refl
plain_made Committed e = refl
plain_made Aborted e = e
plain_made Open e = e
plain_made Unknown e = e

plain_unfrozen : (x y : Bool) (f : CreatorFate) → is_plain (cond x (cond y Frozen Committed) (cond y Aborted f)) ≡ true → (x && y) ≡ false
plain_unfrozen true true f e = absurd (both_ways false refl e)
plain_unfrozen true false f e = refl
plain_unfrozen false y f e = refl

module _ (d : Transactions) (t : TransactionLog) (b : VersionLog) (base low : ℕ) (g : Agrees d t base low) (S S' : Address → Slot) (k : ℕ)
    (q : SlotsAgree d t b base low S) where
  pub slots_hint : Remarks S S' k (hinted d.source.status) → SlotsAgree d t b base low S'
  slots_hint m =
      slots_marks d t b base low S S' k (hinted d.source.status) m (λ a v e. stands_hint d t b base low g a v (q.stands a v e))
      (λ a v e. record {
        same_only = refl;
        same_creator = refl;
        hot_was = λ z. (z, refl, refl);
        hot_rec = λ z i r. r;
        alive_hot = λ i r y z. (z, refl);
      }) q

  -- the cutoff is not behind the horizon, so who is frozen is settled; a remover that is cleared is aborted, so it made no version that counts
  pub slots_freeze : (c : ℕ) → cutoff_fits d c ≡ true → Remarks S S' k (frozen_at d.source.status c) → SlotsAgree d t b base low S'
  slots_freeze c fits m =
      slots_marks d t b base low S S' k (frozen_at d.source.status c) m (λ a v e. stands_freeze d t b base low g a v (q.stands a v e) c (settles a v e)) alike q
    where
      settles : (a : Address) (v : Version) → S a ≡ holds v → to_freeze d.source.status c v ≡ true → Settled t (place_taken d) (maker_at b a)
      settles a v e z =
          let y = and_parts _ _ z in
          let s = q.stands a v e in
          let n = s.creator_is (plain_unfrozen v.creator_committed v.creator_invalid _ y.0) in
          early d t base low g c fits (maker_at b a) s.maker_begun n.1
          (maker_committed d t b base low g a v s (plain_made (creator_fate d.source.status v) y.0))
          (ap (λ (i : ℕ). precedes i c) (sym n.0) ∙ y.1)

      alike : (a : Address) (v : Version) → S a ≡ holds v
          → Alike (alive d t base low) (b.recorded (id_at b a)) (b.recorded (id_at b a)) v (frozen_at d.source.status c v)
      alike a v e = record {
        same_only = refl;
        same_creator = refl;
        hot_was = λ z. let y = and_parts _ _ z in (y.0, refl, rw (not-true _ y.1));
        hot_rec = λ z i r. r;
        alive_hot = λ i r y z. (and_from _ _ z (not_from_false _ (stays i r y (cases_Bool (to_clear d.source.status c v)))), refl);
      }
        where
          stays : (i : ℕ) → b.recorded (id_at b a) i ≡ true → alive d t base low i ≡ true
              → (to_clear d.source.status c v ≡ true) ⊎ (to_clear d.source.status c v ≡ false) → to_clear d.source.status c v ≡ false
          stays i r y (inl x) =
              let z = remover_none d t b base low g a v (q.stands a v e) (and_parts _ _ (and_parts _ _ x).0).1 i r in
              absurd (both_ways (alive d t base low i) z y)
          stays i r y (inr x) = x
