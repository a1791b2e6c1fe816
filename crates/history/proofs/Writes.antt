-- Insert, update and delete: the slots go on agreeing with the ledger's versions.
use Rattle.std.proofs.Common.{◌≡◌, ℕ, ◌+◌, ◌<◌, ◌≤◌, Bool, true, false, cond, not, ◌||◌, eqb, ◌⊎◌, List, Some, Option, sym, refl, ap, ◌∙◌, subst, inl, inr, arith}
use Rattle.std.proofs.lemmas.Bool.{both_ways, cases_Bool, cases_eq, and_from, or_cases, or_right, eqb-true, le-leb}
use Rattle.page.specs.Slots.{Version, Slot}
use Rattle.page.specs.Slots.Slot.{unused, holds}
use Rattle.page.specs.declared.versions.Address.{Address}
use Rattle.page_write.specs.Fields.{new_version, removed_by, is_heap_only_update}
use Rattle.page_write.specs.declared.fields.Origin.{Origin}
use Rattle.page_write.specs.declared.fields.Origin.TheVariants as origin
use Rattle.page_write_laws.specs.Slots.{on_version}
use Rattle.xid.specs.Line.{number_on}
use Rattle.xid.specs.Statuses.{is_open}
use Rattle.xid.proofs.Line.{number_on_low, number_on_high}
use Rattle.heap_read.specs.Fates.{creator_fate, remover_fate}
use Rattle.heap_read.specs.Links.{is_root, is_none}
use Rattle.heap_upkeep.specs.Dead.{is_made}
use Rattle.history.specs.Archive.{Transactions, same_address}
use Rattle.history.specs.Checks.{place_taken, is_active, is_made_for}
use Rattle.history.specs.Granted.{update_origin}
use Rattle.history.specs.Ledger.{TransactionLog, VersionLog, Entry, Ledger, adds, records, root_of}
use Rattle.history.proofs.Addresses.{cases_address, same_true, same_false}
use Rattle.history.proofs.Agreement.{same_turn, live_of, meant_of, live_unkept}
use Rattle.history.proofs.Effects.{Puts, Changes}
use Rattle.history.proofs.Fates.{maker_committed, remover_none}
use Rattle.history.proofs.Invariant.{Live, Agrees, Settled, Order, Removed, StandsIn, Before, Follow, Account, SlotsAgree, alive, id_at, maker_at, root_at}
use Rattle.history.proofs.Invariant.Removed.{nobody, somebody}
use Rattle.history.proofs.Invariant.Account.{here, aborted, past}
use Rattle.history.proofs.Log.{last_new, last_other, id_new, id_other, entry_new, entry_old, entry_here, entry_other, entry_each, rec_here, rec_other, rec_same, rec_was, rec_more}
use Rattle.history.proofs.Ordered.{order_records}
use Rattle.history.proofs.RowsKept.{Alike, alike_same, rows_each, rows_add, holds_same, unused_holds, held_by, root_by, on_same}
use Rattle.history.proofs.Versions.{stands_book, stands_new, stands_removed, stands_marks}

-- the version, HOT-updated or not
abbrev heated : Bool → Version → Version
heated hot v = record {
  creator = v.creator;
  remover = v.remover;
  creator_committed = v.creator_committed;
  creator_invalid = v.creator_invalid;
  remover_committed = v.remover_committed;
  remover_invalid = v.remover_invalid;
  updated = v.updated;
  hot_updated = hot;
  heap_only = v.heap_only;
  ctid = v.ctid;
  row = v.row;
}

-- A version is added.

-- The transaction i, with the number x, puts a version at n, which is unused, in the row with the first address r; of the others only whether
-- they are HOT-updated may change, to what hot says.
module _ (d : Transactions) (t : TransactionLog) (base low : ℕ) (b : VersionLog) (fresh : (j : ℕ) → b.recorded b.added j ≡ false) (S S' : Address → Slot)
    (q : SlotsAgree d t b base low S) (i x : ℕ) (ib : i < t.begun) (xe : x ≡ number_on (base + i)) (il : low ≤ base + i) (o : Origin) (row : List ℕ) (n r : Address)
    (nb : n.block < 4294967296) (np : n.pointer < 65536) (hot : Address → Version → Bool) (free : S n ≡ unused) (now : S' n ≡ holds (new_version x n o row))
    (is : (c : Address) → (c ≡ n → ⊥) → S' c ≡ on_version (λ v. heated (hot c v) v) (S c)) where
  abbrev b⁺ : VersionLog
  b⁺ = adds b (Some i) row n r

  not_n : (c : Address) (v : Version) → S c ≡ holds v → c ≡ n → ⊥
  not_n c v e z = unused_holds (S c) v (ap S z ∙ free) e

  added_stands : (c : Address) (v : Version) → S' c ≡ holds v → StandsIn d t b⁺ base low c v
  added_stands c v e = go (cases_address c n)
    where
      go : (c ≡ n) ⊎ (c ≡ n → ⊥) → StandsIn d t b⁺ base low c v
      go (inl z) =
          subst (λ (c : Address). StandsIn d t b⁺ base low c v) (sym z)
          (subst (λ (v : Version). StandsIn d t b⁺ base low n v) (holds_same (new_version x n o row) v (sym now ∙ ap S' (sym z) ∙ e))
          (stands_new (alive d t base low) t.committed (Settled t (place_taken d)) t.begun base low b i x o row n r ib xe il fresh nb np))
      go (inr z) =
          let y = held_by (λ v. heated (hot c v) v) (S c) v (sym (is c z) ∙ e) in
          let s = q.stands c y.0 y.1 in
          let k : StandsIn d t b⁺ base low c y.0 =
          stands_book (alive d t base low) t.committed (Settled t (place_taken d)) t.begun base low b b⁺ c y.0 (last_other b i row n r c z) (omega arith)
          (entry_other b i row n r c z s.is_added) (λ j. ap (λ (m : ℕ). b.recorded m j) (id_other b i row n r c z)) s in
          subst (λ (v : Version). StandsIn d t b⁺ base low c v) y.2
          (stands_marks (alive d t base low) t.committed (Settled t (place_taken d)) t.begun base low b⁺ c y.0 (heated (hot c y.0) y.0) refl refl refl (λ f. f)
          k.marked_committed k.marked_aborted k.frozen_settled (same y.0 k.removed) k)
        where
          same : (v : Version) → Removed (alive d t base low) t.committed (b⁺.recorded (id_at b⁺ c)) t.begun base low v
              → Removed (alive d t base low) t.committed (b⁺.recorded (id_at b⁺ c)) t.begun base low (heated (hot c v) v)
          same v (nobody z o m f) = nobody z o m f
          same v (somebody j z y h l m k f) = somebody j z y h l m k f

  added_account : (v : ℕ) → v < b.added + 1 → Account d t b⁺ base low S' v
  added_account v h = go (cases_eq v b.added)
    where
      go : (v ≡ b.added) ⊎ (v ≡ b.added → ⊥) → Account d t b⁺ base low S' v
      go (inl z) =
          subst (λ (v : ℕ). Account d t b⁺ base low S' v) (sym z)
          (here (new_version x n o row) (ap (λ (y : Entry). S' y.address) (entry_new b i row n r) ∙ now)
          (ap (λ (y : Entry). b⁺.last_at y.address) (entry_new b i row n r) ∙ last_new b i row n r))
      go (inr z) = by (q.account v (omega arith))
        where
          en : b⁺.entry v ≡ b.entry v
          en = entry_old b i row n r v (omega arith)

          by : Account d t b base low S v → Account d t b⁺ base low S' v
          by (here u e l) =
              let k = not_n (b.entry v).address u e in
              let f : Version → Version = λ w. heated (hot (b.entry v).address w) w in
              here (f u) (ap (λ (y : Entry). S' y.address) en ∙ is (b.entry v).address k ∙ ap (on_version f) e)
              (ap (λ (y : Entry). b⁺.last_at y.address) en ∙ last_other b i row n r (b.entry v).address k ∙ l)
          by (aborted e) = aborted (ap (λ (y : Entry). alive d t base low y.maker) en ∙ e)
          by (past p) = past (record { by = p.by; is_recorded = p.is_recorded; settled = p.settled })

  module _ (named : (c : Address) (v : Version) → S c ≡ holds v → (heated (hot c v) v ≡ v)
      ⊎ ((v.hot_updated ≡ false) × ((j : ℕ) → b.recorded (id_at b c) j ≡ true → alive d t base low j ≡ true → Follow b⁺ S' c (heated (hot c v) v) j)))
      (root_new : is_root (S' r) ≡ true) (block_new : r.block ≡ n.block) (first-new : is_heap_only_update o ≡ false → r ≡ n)
      (prior-new : is_heap_only_update o ≡ true → Before b⁺ S' n) where
    slots_add : SlotsAgree d t b⁺ base low S'
    slots_add = record {
      stands = added_stands;
      rows =
          rows_add b i row n r (alive d t base low) t.committed t.begun S S' (λ c v. heated (hot c v) v) (new_version x n o row) free now refl is
          (λ c v e. (q.stands c v e).is_added) (λ c v e. refl) (λ c v e. refl) named root_new block_new first-new prior-new q.rows;
      account = added_account;
      makers = entry_each b i row n r (λ e. e.maker < t.begun) ib q.makers;
    }

  -- a version that begins a row of its own
  slots_put : ((c : Address) (v : Version) → S c ≡ holds v → hot c v ≡ v.hot_updated) → is_heap_only_update o ≡ false → r ≡ n → SlotsAgree d t b⁺ base low S'
  slots_put same cold rn =
      slots_add (λ c v e. inl (ap (λ (k : Bool). heated k v) (same c v e))) (ap (λ (c : Address). is_root (S' c)) rn ∙ ap is_root now ∙ ap not cold)
      (ap (λ (c : Address). c.block) rn) (λ z. rn) (λ z. absurd (both_ways _ cold z))

-- A version is removed.

-- The transaction i, with the number x, removes the version u at a, with which it is recorded; all that were recorded before are aborted.
module _ (d : Transactions) (t : TransactionLog) (base low : ℕ) (b : VersionLog) (S S' : Address → Slot) (q : SlotsAgree d t b base low S) (a : Address) (u : Version)
    (e : S a ≡ holds u) (i x : ℕ) (ib : i < t.begun) (xe : x ≡ number_on (base + i)) (il : low ≤ base + i)
    (all-dead : (j : ℕ) → b.recorded (id_at b a) j ≡ true → alive d t base low j ≡ false) (to : Address) (tb : to.block < 4294967296) (tp : to.pointer < 65536)
    (m : Changes S S' a (removed_by x to false)) where
  abbrev b⁻ : VersionLog
  b⁻ = records b (Some i) (Some (id_at b a))

  -- the version at another address is another one of the log
  other_id : (c : Address) (v : Version) → S c ≡ holds v → (c ≡ a → ⊥) → id_at b c ≡ id_at b a → ⊥
  other_id c v f z y = z (sym (q.stands c v f).address_is ∙ ap (λ (k : ℕ). (b.entry k).address) y ∙ (q.stands a u e).address_is)

  removed_here : S' a ≡ holds (removed_by x to false u)
  removed_here = m.here ∙ ap (on_version (removed_by x to false)) e

  removed_stands : (c : Address) (v : Version) → S' c ≡ holds v → StandsIn d t b⁻ base low c v
  removed_stands c v f = go (cases_address c a)
    where
      go : (c ≡ a) ⊎ (c ≡ a → ⊥) → StandsIn d t b⁻ base low c v
      go (inl z) =
          subst (λ (c : Address). StandsIn d t b⁻ base low c v) (sym z)
          (subst (λ (v : Version). StandsIn d t b⁻ base low a v) (holds_same (removed_by x to false u) v (sym removed_here ∙ ap S' (sym z) ∙ f))
          (stands_removed (alive d t base low) t.committed (Settled t (place_taken d)) t.begun base low b a u i x to false ib xe il all-dead tb tp (q.stands a u e)))
      go (inr z) =
          let k = sym (m.others c z) ∙ f in
          stands_book (alive d t base low) t.committed (Settled t (place_taken d)) t.begun base low b b⁻ c v refl (omega arith) refl
          (λ j. rec_other b i (id_at b a) (id_at b c) j (other_id c v k z)) (q.stands c v k)

  removed_account : (v : ℕ) → v < b.added → Account d t b⁻ base low S' v
  removed_account v h = by (q.account v h)
    where
      by : Account d t b base low S v → Account d t b⁻ base low S' v
      by (aborted z) = aborted z
      by (past p) = past (record { by = p.by; is_recorded = rec_more b i (id_at b a) v p.by p.is_recorded; settled = p.settled })
      by (here w f l) = go (cases_address (b.entry v).address a)
        where
          go : ((b.entry v).address ≡ a) ⊎ ((b.entry v).address ≡ a → ⊥) → Account d t b⁻ base low S' v
          go (inl z) = here (removed_by x to false u) (ap S' z ∙ removed_here) l
          go (inr z) = here w (m.others (b.entry v).address z ∙ f) l

  abbrev removed_at : Address → Version → Version
  removed_at c v = cond (same_address c a) (removed_by x to false v) v

  removed_is : (c : Address) → S' c ≡ on_version (removed_at c) (S c)
  removed_is c = go (cases_address c a)
    where
      go : (c ≡ a) ⊎ (c ≡ a → ⊥) → S' c ≡ on_version (λ v. cond (same_address c a) (removed_by x to false v) v) (S c)
      go (inl z) =
          ap S' z ∙ m.here ∙ ap (λ (c : Address). on_version (removed_by x to false) (S c)) (sym z)
          ∙ ap (λ (y : Bool). on_version (λ v. cond y (removed_by x to false v) v) (S c)) (sym (same_true c a z))
      go (inr z) = m.others c z ∙ sym (on_same (S c)) ∙ ap (λ (y : Bool). on_version (λ v. cond y (removed_by x to false v) v) (S c)) (sym (same_false c a z))

  -- it names nothing now; what it named before was made by an aborted transaction
  removed_alike : (c : Address) (v : Version) → S c ≡ holds v → Alike (alive d t base low) (b.recorded (id_at b c)) (b⁻.recorded (id_at b c)) v (removed_at c v)
  removed_alike c v f = go (cases_address c a)
    where
      go : (c ≡ a) ⊎ (c ≡ a → ⊥) → Alike (alive d t base low) (b.recorded (id_at b c)) (b⁻.recorded (id_at b c)) v (removed_at c v)
      go (inl z) =
          subst (λ (y : Bool). Alike (alive d t base low) (b.recorded (id_at b c)) (b⁻.recorded (id_at b c)) v (cond y (removed_by x to false v) v)) (sym (same_true c a z))
          (record {
            same_only = refl;
            same_creator = refl;
            hot_was = λ y. absurd (both_ways false refl y);
            hot_rec = λ y. absurd (both_ways false refl y);
            alive_hot = λ j r y w. absurd (both_ways _ (all-dead j (ap (λ (c : Address). b.recorded (id_at b c) j) (sym z) ∙ r)) y);
          })
      go (inr z) =
          subst (λ (y : Bool). Alike (alive d t base low) (b.recorded (id_at b c)) (b⁻.recorded (id_at b c)) v (cond y (removed_by x to false v) v)) (sym (same_false c a z))
          (alike_same (alive d t base low) (b.recorded (id_at b c)) (b⁻.recorded (id_at b c)) v
          (λ j r. sym (rec_other b i (id_at b a) (id_at b c) j (other_id c v f z)) ∙ r))

  slots_remove : SlotsAgree d t b⁻ base low S'
  slots_remove = record {
    stands = removed_stands;
    rows =
        rows_each (alive d t base low) t.committed t.begun b b⁻.recorded S S' removed_at removed_is removed_alike (rec_more b i (id_at b a))
        (λ v j r. begun v j (rec_was b i (id_at b a) v j r)) q.rows;
    account = removed_account;
    makers = q.makers;
  }
    where
      begun : (v j : ℕ) → (b.recorded v j ≡ true) ⊎ ((v ≡ id_at b a) × (j ≡ i)) → j < t.begun
      begun v j (inl r) = q.rows.rec_begun v j r
      begun v j (inr z) = rw z.1 ib

-- What holds of an active transaction.

pub live_number : (d : Transactions) (t : TransactionLog) (base low : ℕ) → Agrees d t base low → (x : ℕ) → is_active d x ≡ true → (3 ≤ x) × (x < 4294967296)
live_number d t base low g x e =
    let k = live_of d t base low g x e in
    let z = k.number in
    (omega (arith, number_on_low (base + k.turn)), omega (arith, number_on_high (base + k.turn)))

-- no version awaits one of its own in an unused slot: what such a version names has been made
pub none_awaits : (d : Transactions) (t : TransactionLog) (b : VersionLog) (base low : ℕ) → Agrees d t base low → (S : Address → Slot) → SlotsAgree d t b base low S
    → (x : ℕ) → is_active d x ≡ true → (n : Address) → S n ≡ unused
    → (c : Address) (u : Version) → S c ≡ holds u → u.hot_updated ≡ true → u.ctid ≡ n → u.remover ≡ x → ⊥
none_awaits d t b base low g S q x e n free c u f h to re = by (live_of d t base low g x e) (q.stands c u f).removed
  where
    by : Live d.source.status t.begun base low x → Removed (alive d t base low) t.committed (b.recorded (id_at b c)) t.begun base low u → ⊥
    by k (nobody z y m f) = omega (arith, number_on_low (base + k.turn), k.number)
    by k (somebody j z r jb jl m y p) =
        let open-j : is_open (d.source.status (number_on (base + j))) ≡ true = ap (λ (m : ℕ). is_open (d.source.status m)) (sym z ∙ re) ∙ k.is_open_lem in
        let alive-j : alive d t base low j ≡ true = or_right (t.committed j) _ (and_from _ _ (le-leb low (base + j) jl) open-j) in
        let w = q.rows.follow c u f h j r alive-j in
        unused_holds (S n) w.what free (ap S (sym to) ∙ w.is)

-- The three changes.
module _ (d : Transactions) (l : Ledger) (base low : ℕ) (g : Agrees d l.transactions base low) (o : Order l.transactions l.versions) (S : Address → Slot)
    (q : SlotsAgree d l.transactions l.versions base low S) (x : ℕ) (e : is_active d x ≡ true) where
  abbrev t : TransactionLog
  t = l.transactions

  abbrev b : VersionLog
  b = l.versions

  live : Live d.source.status t.begun base low x
  live = live_of d t base low g x e

  meant_is : t.meant x ≡ Some live.turn
  unfolding live
  meant_is = meant_of d t base low g x e

  fresh_old : (j : ℕ) → b.recorded b.added j ≡ false
  fresh_old j = go (cases_Bool (b.recorded b.added j))
    where
      go : (b.recorded b.added j ≡ true) ⊎ (b.recorded b.added j ≡ false) → b.recorded b.added j ≡ false
      go (inl z) = absurd (omega (arith, o.rec_added b.added j z))
      go (inr z) = z

  pub slots_insert : (row : List ℕ) (n : Address) → n.block < 4294967296 → n.pointer < 65536 → (S' : Address → Slot) → Puts S S' n (new_version x n origin.Insert row)
      → SlotsAgree d l.transactions (adds l.versions (l.transactions.meant x) row n n) base low S'
  slots_insert row n nb np S' p =
      subst (λ (m : Option ℕ). SlotsAgree d t (adds b m row n n) base low S') (sym meant_is)
      (slots_put d t base low b fresh_old S S' q live.turn x live.has_begun live.number live.current origin.Insert row n n nb np (λ c v. v.hot_updated) p.was
      p.here (λ c z. p.others c z ∙ sym (on_same (S c))) (λ c v f. refl) refl refl)

  -- the version u at a that x may replace or delete: it has no remover
  module _ (a : Address) (u : Version) (au : S a ≡ holds u) (none : is_none (remover_fate d.source.status u) ≡ true) where
    stood : StandsIn d t b base low a u
    stood = q.stands a u au

    abbrev now_recorded : VersionLog
    now_recorded = records b (Some live.turn) (Some (id_at b a))

    -- what holds of the transaction and the version holds of what the log calls them
    by_log : (P : Option ℕ → Option ℕ → Type 0) → P (Some live.turn) (Some (id_at b a)) → P (t.meant x) (b.last_at a)
    by_log P p = subst (λ (m : Option ℕ). P m (b.last_at a)) (sym meant_is) (subst (λ (w : Option ℕ). P (Some live.turn) w) (sym stood.last) p)

    -- its maker is committed, or is x itself, which no place keeps
    pub order_change : is_made_for d.source.status x u ≡ true → Order l.transactions (records l.versions (l.transactions.meant x) (l.versions.last_at a))
    order_change made =
        by_log (λ m w. Order t (records b m w))
        (order_records t b (Some live.turn) (Some (id_at b a)) below after (λ k j z. live_unkept d t base low g x e k j (meant_is ∙ z)) o)
      where
        maker : (t.committed (maker_at b a) ≡ true) ⊎ (live.turn ≡ maker_at b a)
        maker = go (or_cases _ _ made)
          where
            own : u.creator ≡ x → (u.creator_committed ≡ true) ⊎ (u.creator_committed ≡ false) → (t.committed (maker_at b a) ≡ true) ⊎ (live.turn ≡ maker_at b a)
            own c (inl i) = inl (stood.marked_committed i)
            own c (inr i) =
                let n = stood.creator_is (rw i) in
                inr (same_turn d t base low g live.turn (maker_at b a) live.has_begun live.current stood.maker_begun n.1 (sym live.number ∙ sym c ∙ n.0))

            go : (is_made (creator_fate d.source.status u) ≡ true) ⊎ (eqb u.creator x ≡ true) → (t.committed (maker_at b a) ≡ true) ⊎ (live.turn ≡ maker_at b a)
            go (inl i) = inl (maker_committed d t b base low g a u stood i)
            go (inr c) = own (eqb-true u.creator x c) (cases_Bool u.creator_committed)

        below : (v : ℕ) → Some (id_at b a) ≡ Some v → v < b.added
        below v z = let y : id_at b a ≡ v = cc in let k = stood.is_added in omega arith

        after : (v j : ℕ) → Some live.turn ≡ Some j → Some (id_at b a) ≡ Some v → (t.committed (b.entry v).maker ≡ true) ⊎ (j ≡ (b.entry v).maker)
        after v j z y =
            let jz : live.turn ≡ j = cc in
            let vy : id_at b a ≡ v = cc in
            subst (λ (v : ℕ). (t.committed (b.entry v).maker ≡ true) ⊎ (j ≡ (b.entry v).maker)) vy
            (subst (λ (j : ℕ). (t.committed (maker_at b a) ≡ true) ⊎ (j ≡ maker_at b a)) jz maker)

    -- the version as removed, and not HOT-updated, by x
    slots_cold : (to : Address) → to.block < 4294967296 → to.pointer < 65536 → (S' : Address → Slot) → Changes S S' a (removed_by x to false)
        → SlotsAgree d t now_recorded base low S'
    slots_cold to tb tp S' m =
        slots_remove d t base low b S S' q a u au live.turn x live.has_begun live.number live.current (remover_none d t b base low g a u stood none) to tb tp m

    pub slots_delete : a.block < 4294967296 → a.pointer < 65536 → (S' : Address → Slot) → Changes S S' a (removed_by x a false)
        → SlotsAgree d l.transactions (records l.versions (l.transactions.meant x) (l.versions.last_at a)) base low S'
    slots_delete ab ap S' m = by_log (λ m w. SlotsAgree d t (records b m w) base low S') (slots_cold a ab ap S' m)

    -- An update goes in two steps: u is removed, and not HOT-updated; then the new version comes to n, and if it is heap-only, u is HOT-updated.
    module _ (n : Address) (row : List ℕ) (nb : n.block < 4294967296) (np : n.pointer < 65536) (free : S n ≡ unused) (S' : Address → Slot)
        (others : (c : Address) → (c ≡ n → ⊥) → (c ≡ a → ⊥) → S' c ≡ S c) where
      abbrev S₁ : Address → Slot
      S₁ c = cond (same_address c a) (on_version (removed_by x n false) (S c)) (S c)

      step : Changes S S₁ a (removed_by x n false)
      step = record { here = rw (same_true a a refl); others = λ c z. rw (same_false c a z) }

      slots₁ : SlotsAgree d t now_recorded base low S₁
      slots₁ = slots_cold n nb np S₁ step

      a_not_n : a ≡ n → ⊥
      a_not_n z = unused_holds (S a) u (ap S z ∙ free) au

      free₁ : S₁ n ≡ unused
      free₁ = step.others n (λ z. a_not_n (sym z)) ∙ free

      here₁ : S₁ a ≡ holds (removed_by x n false u)
      here₁ = step.here ∙ ap (on_version (removed_by x n false)) au

      fresh₁ : (j : ℕ) → now_recorded.recorded b.added j ≡ false
      fresh₁ j = rec_other b live.turn (id_at b a) b.added j (λ z. let k = stood.is_added in omega arith) ∙ fresh_old j

      update_cold : S' n ≡ holds (new_version x n origin.Update row) → S' a ≡ holds (removed_by x n false u)
          → SlotsAgree d t (adds now_recorded (Some live.turn) row n n) base low S'
      update_cold now-n now-a =
          slots_put d t base low now_recorded fresh₁ S₁ S' slots₁ live.turn x live.has_begun live.number live.current origin.Update row n n nb np (λ c v. v.hot_updated)
          free₁ now-n is (λ c v f. refl) refl refl
        where
          is : (c : Address) → (c ≡ n → ⊥) → S' c ≡ on_version (λ v. heated v.hot_updated v) (S₁ c)
          is c z = go (cases_address c a)
            where
              go : (c ≡ a) ⊎ (c ≡ a → ⊥) → S' c ≡ on_version (λ v. heated v.hot_updated v) (S₁ c)
              go (inl y) = ap S' y ∙ now-a ∙ sym (ap S₁ y ∙ here₁) ∙ sym (on_same (S₁ c))
              go (inr y) = others c z y ∙ sym (step.others c y) ∙ sym (on_same (S₁ c))

      module _ (near : n.block ≡ a.block) (now-n : S' n ≡ holds (new_version x n origin.HeapOnlyUpdate row)) (now-a : S' a ≡ holds (removed_by x n true u)) where
        abbrev b₂ : VersionLog
        b₂ = adds now_recorded (Some live.turn) row n (root_at b a)

        abbrev hot : Address → Version → Bool
        hot c v = same_address c a || v.hot_updated

        hot_is : (c : Address) → (c ≡ n → ⊥) → S' c ≡ on_version (λ v. heated (hot c v) v) (S₁ c)
        hot_is c z = go (cases_address c a)
          where
            go : (c ≡ a) ⊎ (c ≡ a → ⊥) → S' c ≡ on_version (λ v. heated (same_address c a || v.hot_updated) v) (S₁ c)
            go (inl y) =
                ap S' y ∙ now-a ∙ sym (ap (on_version (heated true)) (ap S₁ y ∙ here₁))
                ∙ ap (λ (k : Bool). on_version (λ v. heated (k || v.hot_updated) v) (S₁ c)) (sym (same_true c a y))
            go (inr y) =
                others c z y ∙ sym (step.others c y) ∙ sym (on_same (S₁ c))
                ∙ ap (λ (k : Bool). on_version (λ v. heated (k || v.hot_updated) v) (S₁ c)) (sym (same_false c a y))

        entry_n : b₂.entry (id_at b₂ n) ≡ record { maker = live.turn; bytes = row; address = n; root = root_at b a }
        entry_n = entry_here now_recorded live.turn row n (root_at b a)

        id_a : id_at b₂ a ≡ id_at b a
        id_a = id_other now_recorded live.turn row n (root_at b a) a a_not_n

        -- of those recorded with u only x is not aborted, and it made the version at n
        followed : (j : ℕ) → now_recorded.recorded (id_at b a) j ≡ true → alive d t base low j ≡ true → Follow b₂ S' a (removed_by x n true u) j
        followed j r y = go (cases_eq j live.turn)
          where
            go : (j ≡ live.turn) ⊎ (j ≡ live.turn → ⊥) → Follow b₂ S' a (removed_by x n true u) j
            go (inr z) = absurd (both_ways _ (remover_none d t b base low g a u stood none j (sym (rec_same b live.turn (id_at b a) j z) ∙ r)) y)
            go (inl z) =
                let k = id_new now_recorded live.turn row n (root_at b a) in
                record {
                  what = new_version x n origin.HeapOnlyUpdate row;
                  is = now-n;
                  only = refl;
                  by = refl;
                  near = near;
                  maker_is = ap (λ (y : Entry). y.maker) entry_n ∙ sym z;
                  same_row = ap (λ (y : Entry). y.root) entry_n ∙ ap (λ (y : Entry). y.root) (sym (entry_other now_recorded live.turn row n (root_at b a) a a_not_n stood.is_added));
                  later = omega (arith, id_a, k, stood.is_added);
                }

        named : (c : Address) (v : Version) → S₁ c ≡ holds v → (heated (hot c v) v ≡ v)
            ⊎ ((v.hot_updated ≡ false) × ((j : ℕ) → now_recorded.recorded (id_at b c) j ≡ true → alive d t base low j ≡ true → Follow b₂ S' c (heated (hot c v) v) j))
        named c v f = go (cases_address c a)
          where
            go : (c ≡ a) ⊎ (c ≡ a → ⊥) → (heated (hot c v) v ≡ v)
                ⊎ ((v.hot_updated ≡ false) × ((j : ℕ) → now_recorded.recorded (id_at b c) j ≡ true → alive d t base low j ≡ true → Follow b₂ S' c (heated (hot c v) v) j))
            go (inr z) = inl (ap (λ (k : Bool). heated (k || v.hot_updated) v) (same_false c a z))
            go (inl z) =
                let y : removed_by x n false u ≡ v = holds_same (removed_by x n false u) v (sym here₁ ∙ ap S₁ (sym z) ∙ f) in
                inr (
                  ap (λ (w : Version). w.hot_updated) (sym y),
                  λ j r m. subst (λ (c : Address). Follow b₂ S' c (heated (hot c v) v) j) (sym z)
                      (subst (λ (w : Version). Follow b₂ S' a w j) (ap (heated true) y ∙ ap (λ (k : Bool). heated (k || v.hot_updated) v) (sym (same_true a a refl)))
                      (followed j (ap (λ (c : Address). now_recorded.recorded (id_at b c) j) (sym z) ∙ r) m)),
                )

        update_hot : SlotsAgree d t (adds now_recorded (Some live.turn) row n (root_at b a)) base low S'
        update_hot =
            slots_add d t base low now_recorded fresh₁ S₁ S' slots₁ live.turn x live.has_begun live.number live.current origin.HeapOnlyUpdate row n (root_at b a) nb np hot
            free₁ now-n hot_is named root_new block_new (λ z. absurd (both_ways true z refl)) (λ z. before)
          where
            root₁ : is_root (S₁ (root_at b a)) ≡ true
            root₁ = slots₁.rows.root_is (id_at b a) stood.is_added

            root_not_n : root_at b a ≡ n → ⊥
            root_not_n z = both_ways false refl (ap is_root (sym free₁ ∙ ap S₁ (sym z)) ∙ root₁)

            root_new : is_root (S' (root_at b a)) ≡ true
            root_new =
                ap is_root (hot_is (root_at b a) root_not_n) ∙ root_by (λ v. heated (hot (root_at b a) v) v) (S₁ (root_at b a)) (λ v f. refl) ∙ root₁

            block_new : (root_at b a).block ≡ n.block
            block_new = q.rows.root_block (id_at b a) stood.is_added ∙ ap (λ (c : Address). c.block) stood.address_is ∙ sym near

            before : Before b₂ S' n
            before = record {
              from = a;
              what = removed_by x n true u;
              is = now-a;
              is_hot_lem = refl;
              to_is = refl;
              made_by = ap (λ (k : ℕ). now_recorded.recorded k (maker_at b₂ n)) id_a
                  ∙ ap (λ (y : Entry). now_recorded.recorded (id_at b a) y.maker) entry_n ∙ rec_here b live.turn (id_at b a);
            }

    pub slots_update : (h : Bool) (n : Address) (row : List ℕ) → n.block < 4294967296 → n.pointer < 65536 → (h ≡ true → n.block ≡ a.block) → S n ≡ unused
        → (S' : Address → Slot) → S' n ≡ holds (new_version x n (update_origin h) row) → S' a ≡ holds (removed_by x n h u)
        → ((c : Address) → (c ≡ n → ⊥) → (c ≡ a → ⊥) → S' c ≡ S c)
        → SlotsAgree d l.transactions
        (adds (records l.versions (l.transactions.meant x) (l.versions.last_at a)) (l.transactions.meant x) row n (cond h (root_of l.versions (l.versions.last_at a)) n))
        base low S'
    slots_update h n row nb np near free S' now-n now-a others =
        by_log (λ m w. SlotsAgree d t (adds (records b m w) m row n (cond h (root_of b w) n)) base low S') (go h near now-n now-a)
      where
        go : (h : Bool) → (h ≡ true → n.block ≡ a.block) → S' n ≡ holds (new_version x n (update_origin h) row) → S' a ≡ holds (removed_by x n h u)
            → SlotsAgree d t (adds now_recorded (Some live.turn) row n (cond h (root_at b a) n)) base low S'
        go true near now-n now-a = update_hot n row nb np free S' others (near refl) now-n now-a
        go false near now-n now-a = update_cold n row nb np free S' others now-n now-a
