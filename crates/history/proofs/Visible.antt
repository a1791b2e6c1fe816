-- A version is listed for a place exactly if it stands on its page and is visible.
use Rattle.std.proofs.Common.{◌≡◌, ℕ, Bool, true, false, not, ◌&&◌, ◌⊎◌, get_or, is_some, Some, None, sym, refl, ap, ◌∙◌, inl, inr}
use Rattle.std.proofs.lemmas.Bool.{both_ways, cases_Bool, cases_eq, and_parts, and_from, or_parts, not-true, not_from_false}
use Rattle.page.specs.Slots.{Version, Slot}
use Rattle.page.specs.Slots.Slot.{holds}
use Rattle.page.specs.declared.versions.Address.{Address}
use Rattle.xid.specs.declared.statuses.Status.{Status}
use Rattle.xid.specs.declared.statuses.Status.TheVariants as status
use Rattle.snapshot.specs.Snapshots.{SnapshotData, running}
use Rattle.heap_read.specs.Fates.{creator_fate, creator_by_status, remover_fate, is_seen, is_gone, visible}
use Rattle.heap_read.specs.Links.{is_none}
use Rattle.heap_read.specs.declared.fates.RemoverFate.{RemoverFate}
use Rattle.heap_read.specs.declared.fates.RemoverFate.TheVariants as remover
use Rattle.heap_upkeep.specs.Dead.{is_removed}
use Rattle.heap_upkeep.specs.Hints.{is_committed}
use Rattle.history.specs.Archive.{Transactions}
use Rattle.history.specs.Checks.{place_taken}
use Rattle.history.specs.Ledger.{Ledger, Listed}
use Rattle.history.proofs.Invariant.{Agrees, KeptBy, StandsIn, SlotsAgree, Account, alive, id_at, maker_at}
use Rattle.history.proofs.Invariant.Account.{here, aborted, past}
use Rattle.history.proofs.Agreement.{not_kept}
use Rattle.history.proofs.Fates.{Remover, remover_one, remover_none}

-- what is gone: the remover committed, and is not running
gone_is : (f : RemoverFate) (sn : SnapshotData) (x : ℕ) → is_gone f sn x ≡ (is_removed f && not (running sn x))
gone_is remover.None sn x = refl
gone_is remover.Pending sn x = refl
gone_is remover.Committed sn x = refl
gone_is remover.Unknown sn x = refl

none_gone : (f : RemoverFate) (sn : SnapshotData) (x : ℕ) → is_none f ≡ true → is_gone f sn x ≡ false
none_gone remover.None sn x e = refl
none_gone remover.Pending sn x e = refl
none_gone remover.Committed sn x e = absurd (both_ways _ refl e)
none_gone remover.Unknown sn x e = refl

seen_by_status : (st : Status) (sn : SnapshotData) (x : ℕ) → is_seen (creator_by_status st) sn x ≡ (is_committed st && not (running sn x))
seen_by_status status.Open sn x = refl
seen_by_status status.Committed sn x = refl
seen_by_status status.Aborted sn x = refl
seen_by_status status.Unknown sn x = refl

module _ (d : Transactions) (l : Ledger) (base low : ℕ) (g : Agrees d l.transactions base low) (S : Address → Slot)
    (q : SlotsAgree d l.transactions l.versions base low S) (k : ℕ) (sn : SnapshotData) (pl : get_or d.places k None ≡ Some sn) where
  kept_by : KeptBy d.source.status l.transactions base low k sn
  kept_by = g.place_is k sn pl

  place_taken_lem : place_taken d k ≡ true
  place_taken_lem = ap is_some pl

  dead_unkept : (i : ℕ) → alive d l.transactions base low i ≡ false → l.transactions.keeps k i ≡ false
  dead_unkept i e = not_kept d l.transactions base low g k i (or_parts _ _ e).0

  module _ (a : Address) (v : Version) (e : S a ≡ holds v) where
    stands : StandsIn d l.transactions l.versions base low a v
    stands = q.stands a v e

    -- the creator is seen exactly if the place keeps the maker
    creator_seen : is_seen (creator_fate d.source.status v) sn v.creator ≡ l.transactions.keeps k (maker_at l.versions a)
    creator_seen = go (cases_Bool v.creator_committed) (cases_Bool v.creator_invalid)
      where
        kept : (v.creator_committed && v.creator_invalid) ≡ false
            → l.transactions.keeps k (maker_at l.versions a) ≡ (l.transactions.committed (maker_at l.versions a) && not (running sn v.creator))
        kept z = let n = stands.creator_is z in rw n.0 (kept_by.kept_is _ stands.maker_begun n.1)

        go : (v.creator_committed ≡ true) ⊎ (v.creator_committed ≡ false) → (v.creator_invalid ≡ true) ⊎ (v.creator_invalid ≡ false)
            → is_seen (creator_fate d.source.status v) sn v.creator ≡ l.transactions.keeps k (maker_at l.versions a)
        go (inl c) (inl i) = rw (c, i) (sym ((stands.frozen_settled (and_from _ _ c i)).is_kept k place_taken_lem))
        go (inl c) (inr i) = rw (c, i, kept (rw (c, i)), stands.marked_committed c)
        go (inr c) (inl i) = rw (c, i) (sym (dead_unkept _ (stands.marked_aborted c i)))
        go (inr c) (inr i) =
            let n = stands.creator_is (rw c) in
            rw (c, i, kept (rw c), seen_by_status (d.source.status v.creator) sn v.creator)
            (ap (λ (b : Bool). b && not (running sn v.creator)) (rw n.0 (g.status_is _ stands.maker_begun n.1)))

    gone_is_kept : (r : Remover d l.transactions l.versions base low a v)
        → is_gone (remover_fate d.source.status v) sn v.remover ≡ l.transactions.keeps k r.who
    gone_is_kept r =
        gone_is (remover_fate d.source.status v) sn v.remover
        ∙ rw (r.committed_is, r.number) (sym (kept_by.kept_is r.who r.begun r.current))

    -- and it is not gone exactly if the place keeps none of those recorded with it
    not_gone_unkept : is_gone (remover_fate d.source.status v) sn v.remover ≡ false
        → (i : ℕ) → l.versions.recorded (id_at l.versions a) i ≡ true → l.transactions.keeps k i ≡ false
    not_gone_unkept h i r = go (cases_Bool (is_none (remover_fate d.source.status v)))
      where
        one : (m : Remover d l.transactions l.versions base low a v) → (i ≡ m.who) ⊎ (i ≡ m.who → ⊥) → l.transactions.keeps k i ≡ false
        one m (inl z) = ap (l.transactions.keeps k) z ∙ sym (gone_is_kept m) ∙ h
        one m (inr z) = dead_unkept i (m.others i r z)

        go : (is_none (remover_fate d.source.status v) ≡ true) ⊎ (is_none (remover_fate d.source.status v) ≡ false) → l.transactions.keeps k i ≡ false
        go (inl z) = dead_unkept i (remover_none d l.transactions l.versions base low g a v stands z i r)
        go (inr z) = let m = remover_one d l.transactions l.versions base low g a v stands z in one m (cases_eq i m.who)

    unkept_not_gone : ((i : ℕ) → l.versions.recorded (id_at l.versions a) i ≡ true → l.transactions.keeps k i ≡ false)
        → is_gone (remover_fate d.source.status v) sn v.remover ≡ false
    unkept_not_gone h = go (cases_Bool (is_none (remover_fate d.source.status v)))
      where
        go : (is_none (remover_fate d.source.status v) ≡ true) ⊎ (is_none (remover_fate d.source.status v) ≡ false)
            → is_gone (remover_fate d.source.status v) sn v.remover ≡ false
        go (inl z) = none_gone (remover_fate d.source.status v) sn v.remover z
        go (inr z) =
            let m = remover_one d l.transactions l.versions base low g a v stands z in
            gone_is_kept m ∙ h m.who m.is_recorded

    pub row_listed : v.row ≡ (l.versions.entry (id_at l.versions a)).bytes
    row_listed = stands.row_is

    pub address_listed : (l.versions.entry (id_at l.versions a)).address ≡ a
    address_listed = stands.address_is

  pub visible_listed : (a : Address) (v : Version) → S a ≡ holds v → visible d.source.status sn v ≡ true → Listed l k (id_at l.versions a)
  visible_listed a v e h =
      let both = and_parts _ _ h in
      record {
        is_added = (stands a v e).is_added;
        maker_kept = sym (creator_seen a v e) ∙ both.0;
        none_kept = not_gone_unkept a v e (not-true _ both.1);
      }

  pub listed_visible : (a : Address) (v : Version) → S a ≡ holds v → Listed l k (id_at l.versions a) → visible d.source.status sn v ≡ true
  listed_visible a v e y = and_from _ _ (creator_seen a v e ∙ y.maker_kept) (not_from_false _ (unkept_not_gone a v e y.none_kept))

  -- a listed version stands on its page
  pub record There (v : ℕ) : Type 0 where
    pub what : Version
    pub is : S (l.versions.entry v).address ≡ holds what
    pub id : id_at l.versions (l.versions.entry v).address ≡ v
    pub is_visible : visible d.source.status sn what ≡ true

  -- else its maker aborted, and is not kept, or a settled transaction is recorded with it, and is kept
  pub listed_there : (v : ℕ) → Listed l k v → There v
  listed_there v y = go (q.account v y.is_added)
    where
      go : Account d l.transactions l.versions base low S v → There v
      go (here u e last) =
          let i : id_at l.versions (l.versions.entry v).address ≡ v = rw last in
          record { what = u; is = e; id = i; is_visible = listed_visible (l.versions.entry v).address u e (rw i y) }
      go (aborted e) = absurd (both_ways _ (dead_unkept _ e) y.maker_kept)
      go (past p) = absurd (both_ways _ (y.none_kept p.by p.is_recorded) (p.settled.is_kept k place_taken_lem))
