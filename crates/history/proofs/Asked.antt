-- What a granted call was asked: each check of each call by its name.
use Rattle.std.proofs.Common.{◌≡◌, ℕ, ◌<◌, Bool, true, false, not, ◌||◌, eqb, ltb, ◌⊎◌, List, [], ◌∷◌, ◌++◌, length, is_some, Some, None, refl, inl, inr, arith}
use Rattle.std.proofs.lemmas.Bool.{cases_Bool, both_ways, and_parts, not-true, ltb-true}
use Rattle.page.specs.Kinds.{row_fits}
use Rattle.page.specs.Slots.{Version, Slot}
use Rattle.page.specs.Slots.Slot.{unused, dead, redirect, holds}
use Rattle.page.specs.declared.versions.Address.{Address}
use Rattle.xid.specs.Numbers.{in_window}
use Rattle.xid.specs.Statuses.{is_known}
use Rattle.xid.specs.Meaning.{Meaning, Lawful, forgettable}
use Rattle.xid.specs.declared.statuses.Status.{Status}
use Rattle.xid.specs.declared.statuses.Status.TheVariants as status
use Rattle.snapshot.specs.Snapshots.{lowest_free}
use Rattle.heap_checks.specs.Numbers.{version_known, still_needed}
use Rattle.heap_read.specs.Fates.{remover_fate, remover_by_status}
use Rattle.heap_read.specs.Links.{is_none}
use Rattle.heap_upkeep.specs.Dead.{is_removed}
use Rattle.history.specs.Archive.{Archive, slot_in}
use Rattle.history.specs.Calls.Change.{begin, commit, abort, register, insert, update, delete, freeze, forget}
use Rattle.history.specs.Checks.{Check, first_failing, checks, page_checks, version_checks, is_active, block_for, cutoff_fits, is_made_for, is_pending, not_pending, not_removed}

abbrev pub AllPass : List Check → Type 0
AllPass [] = Unit {0}
AllPass (c ∷ cs) = (c.0 ≡ true) × AllPass cs

pub all_pass : (cs : List Check) → first_failing cs ≡ None → AllPass cs
all_pass [] h = tt
all_pass (c ∷ cs) h = go (cases_Bool c.0) (all_pass cs)
  where
    go : (c.0 ≡ true) ⊎ (c.0 ≡ false) → (first_failing cs ≡ None → AllPass cs) → AllPass (c ∷ cs)
    go (inl e) ih = (e, ih (rw e at h))
    go (inr e) ih = let n : Some c.1 ≡ None = rw e at h in let z : ◌≡◌ {A = ℕ} 0 1 = cc in absurd (omega arith)

pub pass_all : (cs : List Check) → AllPass cs → first_failing cs ≡ None
pass_all [] h = refl
pass_all (c ∷ cs) h = rw h.0 (pass_all cs h.1)

-- Updates and deletes: the version that is replaced or removed.

-- x may remove the version at a: it stands there, its numbers are known, its maker committed or is x, and nobody removes it
pub record Removable (s : Archive) (x : ℕ) (a : Address) : Type 0 where
  pub what : Version
  pub is : slot_in s.pages a ≡ holds what
  pub known : version_known s.xacts.source.oldest s.xacts.source.next what ≡ true
  pub made : is_made_for s.xacts.source.status x what ≡ true
  pub not_removed_lem : is_none (remover_fate s.xacts.source.status what) ≡ true

-- with the status known, a remover that is neither pending nor committed is none
none_left : (m : Meaning) → Lawful m → (v : Version) → version_known m.oldest m.next v ≡ true → not_pending m.status v ≡ true
    → not_removed m.status v ≡ true → is_none (remover_fate m.status v) ≡ true
none_left m l v k p r = by (cases_Bool (eqb v.remover 0 || v.remover_invalid)) (cases_Bool v.remover_committed)
  where
    told : (st : Status) → is_known st ≡ true → not (is_pending (remover_by_status st)) ≡ true → not (is_removed (remover_by_status st)) ≡ true
        → is_none (remover_by_status st) ≡ true
    told status.Open k p r = absurd (both_ways false refl p)
    told status.Committed k p r = absurd (both_ways false refl r)
    told status.Aborted k p r = refl
    told status.Unknown k p r = absurd (both_ways false refl k)

    in_window_lem : (x y z w : Bool) → (x || y) ≡ false → z ≡ false → (x || z || y || w) ≡ true → w ≡ true
    in_window_lem true y z w a b c = absurd (both_ways true a refl)
    in_window_lem false true z w a b c = absurd (both_ways true a refl)
    in_window_lem false false true w a b c = absurd (both_ways true b refl)
    in_window_lem false false false w a b c = c

    by : ((eqb v.remover 0 || v.remover_invalid) ≡ true) ⊎ ((eqb v.remover 0 || v.remover_invalid) ≡ false)
        → (v.remover_committed ≡ true) ⊎ (v.remover_committed ≡ false) → is_none (remover_fate m.status v) ≡ true
    by (inl e) c = rw e
    by (inr e) (inl c) = absurd (both_ways false refl (rw (e, c) at r))
    by (inr e) (inr c) =
        let w = in_window_lem (eqb v.remover 0) v.remover_invalid v.remover_committed (in_window m.oldest m.next v.remover) e c (and_parts _ _ k).1 in
        rw (e, c) (told (m.status v.remover) (l.inside v.remover w) (rw (e, c) at p) (rw (e, c) at r))

removable_at : (s : Archive) → Lawful s.xacts.source → (x : ℕ) (a : Address) (slot : Slot) → slot_in s.pages a ≡ slot
    → AllPass (version_checks s.xacts.source x slot) → Removable s x a
removable_at s l x a unused e h = absurd (both_ways false refl h.0)
removable_at s l x a dead e h = absurd (both_ways false refl h.0)
removable_at s l x a (redirect t) e h = absurd (both_ways false refl h.0)
removable_at s l x a (holds v) e h = record {
  what = v;
  is = e;
  known = h.1.0;
  made = h.1.1.0;
  not_removed_lem = none_left s.xacts.source l v h.1.0 h.1.1.1.0 h.1.1.1.1.0;
}

-- Each call.

pub record Begins (s : Archive) : Type 0 where
  pub few : ltb (length s.xacts.active) 64 ≡ true
  pub not_full : s.xacts.source.full ≡ false

pub begins : (s : Archive) → first_failing (checks s begin) ≡ None → Begins s
begins s h = let y = all_pass (checks s begin) h in record { few = y.0; not_full = not-true _ y.1.0 }

pub commit_active : (s : Archive) (x : ℕ) → first_failing (checks s (commit x)) ≡ None → is_active s.xacts x ≡ true
commit_active s x h = (all_pass (checks s (commit x)) h).0

pub abort_active : (s : Archive) (x : ℕ) → first_failing (checks s (abort x)) ≡ None → is_active s.xacts x ≡ true
abort_active s x h = (all_pass (checks s (abort x)) h).0

pub place_free : (s : Archive) → first_failing (checks s register) ≡ None → ltb (lowest_free s.xacts.places) 16 ≡ true
place_free s h = (all_pass (checks s register) h).0

pub record Inserts (s : Archive) (x : ℕ) (row : List ℕ) : Type 0 where
  pub active : is_active s.xacts x ≡ true
  pub fits : row_fits s.kinds row ≡ true
  pub room : is_some (block_for s.pages row) ≡ true

pub inserts : (s : Archive) (x : ℕ) (row : List ℕ) → first_failing (checks s (insert x row)) ≡ None → Inserts s x row
inserts s x row h = let y = all_pass (checks s (insert x row)) h in record { active = y.1.1.0; fits = y.1.1.1.0; room = y.1.1.1.1.0 }

pub record Updates (s : Archive) (x : ℕ) (a : Address) (row : List ℕ) : Type 0 where
  pub block : a.block < length s.pages
  pub active : is_active s.xacts x ≡ true
  pub fits : row_fits s.kinds row ≡ true
  pub old : Removable s x a
  pub room : is_some (block_for s.pages row) ≡ true

pub updates : (s : Archive) → Lawful s.xacts.source → (x : ℕ) (a : Address) (keep : Bool) (row : List ℕ)
    → first_failing (checks s (update x a keep row)) ≡ None → Updates s x a row
updates s l x a keep row h =
    let y = all_pass (checks s (update x a keep row)) h in
    let z = y.1.1.1.1.1 in
    record {
      block = ltb-true _ _ y.1.0;
      active = y.1.1.1.0;
      fits = y.1.1.1.1.0;
      old = removable_at s l x a (slot_in s.pages a) refl (z.0, (z.1.0, (z.1.1.0, (z.1.1.1.0, (z.1.1.1.1.0, tt)))));
      room = z.1.1.1.1.1.0;
    }

pub record Deletes (s : Archive) (x : ℕ) (a : Address) : Type 0 where
  pub block : a.block < length s.pages
  pub active : is_active s.xacts x ≡ true
  pub old : Removable s x a

pub deletes : (s : Archive) → Lawful s.xacts.source → (x : ℕ) (a : Address) → first_failing (checks s (delete x a)) ≡ None → Deletes s x a
deletes s l x a h =
    let y = all_pass (checks s (delete x a)) h in
    record { block = ltb-true _ _ y.1.0; active = y.1.1.1.0; old = removable_at s l x a (slot_in s.pages a) refl y.1.1.1.1 }

pub page_block : (s : Archive) (b : ℕ) (cs : List Check) → first_failing (page_checks s b ++ cs) ≡ None → b < length s.pages
page_block s b cs h = ltb-true _ _ (all_pass (page_checks s b ++ cs) h).1.0

pub freeze_cutoff : (s : Archive) (b c : ℕ) → first_failing (checks s (freeze b c)) ≡ None → cutoff_fits s.xacts c ≡ true
freeze_cutoff s b c h = (all_pass (checks s (freeze b c)) h).1.1.1.1.0

pub record Forgets (s : Archive) (c : ℕ) : Type 0 where
  pub cutoff : cutoff_fits s.xacts c ≡ true
  pub not_needed : still_needed c s.pages ≡ false
  pub accepted : forgettable s.xacts.source c ≡ true

pub forgets : (s : Archive) (c : ℕ) → first_failing (checks s (forget c)) ≡ None → Forgets s c
forgets s c h =
    let y = all_pass (checks s (forget c)) h in
    let z = and_parts _ _ y.1.1.1.0 in
    record { cutoff = y.1.1.0; not_needed = not-true _ z.0; accepted = z.1 }
