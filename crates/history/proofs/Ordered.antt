-- Who is recorded with a version comes after its maker: each change keeps that, and what it says of settled transactions.
use Rattle.std.proofs.Common.{◌≡◌, ℕ, ◌<◌, Bool, true, false, ◌⊎◌, List, Some, None, Option, sym, refl, ap, ◌∙◌, subst, inl, inr, ⊎_elim, arith}
use Rattle.std.proofs.lemmas.Bool.{cases_eq, both_ways}
use Rattle.page.specs.declared.versions.Address.{Address}
use Rattle.history.specs.Ledger.{TransactionLog, VersionLog, Entry, Ledger, Listed, with, begins_as, committed_with, commits, registers, adds, records}
use Rattle.history.proofs.Invariant.{Order, Settled, Passed}
use Rattle.history.proofs.Listing.{with_same, with_other, with_true}

module _ (t : TransactionLog) (b : VersionLog) where
  pub order_begins : (x : ℕ) → Order t b → Order (begins_as t x) b
  order_begins x o = record { rec_added = o.rec_added; rec_after = o.rec_after; kept_after = o.kept_after }

  -- no fewer are committed
  pub order_commits : (x : ℕ) → Order t b → Order (commits t x) b
  order_commits x o = record { rec_added = o.rec_added; rec_after = λ v i e. go v i (o.rec_after v i e); kept_after = o.kept_after }
    where
      grows : (m : Option ℕ) (i : ℕ) → t.committed i ≡ true → committed_with t.committed m i ≡ true
      grows None i h = h
      grows (Some j) i h = with_true t.committed j i h

      go : (v i : ℕ) → (t.committed (b.entry v).maker ≡ true) ⊎ (i ≡ (b.entry v).maker) → ((commits t x).committed (b.entry v).maker ≡ true) ⊎ (i ≡ (b.entry v).maker)
      go v i (inl c) = inl (grows (t.meant x) (b.entry v).maker c)
      go v i (inr e) = inr e

  -- the new place keeps exactly who is committed
  pub order_registers : (k : ℕ) → Order t b → Order (registers t k) b
  order_registers k o = record { rec_added = o.rec_added; rec_after = o.rec_after; kept_after = λ j v i e h. go j v i e h (cases_eq j k) }
    where
      keeps' : ℕ → ℕ → Bool
      keeps' = with t.keeps k t.committed

      committed_after : (v i : ℕ) → (t.committed (b.entry v).maker ≡ true) ⊎ (i ≡ (b.entry v).maker) → t.committed i ≡ true → t.committed (b.entry v).maker ≡ true
      committed_after v i (inl c) h = c
      committed_after v i (inr e) h = rw e at h

      go : (j v i : ℕ) → b.recorded v i ≡ true → keeps' j i ≡ true → (j ≡ k) ⊎ (j ≡ k → ⊥) → keeps' j (b.entry v).maker ≡ true
      go j v i e h (inl z) =
          let p = with_same t.keeps k j t.committed z in
          ap (λ (f : ℕ → Bool). f (b.entry v).maker) p ∙ committed_after v i (o.rec_after v i e) (ap (λ (f : ℕ → Bool). f i) (sym p) ∙ h)
      go j v i e h (inr n) =
          let p = with_other t.keeps k j t.committed n in
          ap (λ (f : ℕ → Bool). f (b.entry v).maker) p ∙ o.kept_after j v i e (ap (λ (f : ℕ → Bool). f i) (sym p) ∙ h)

  -- nobody is recorded with a version that is added
  pub order_adds : (m : Option ℕ) (row : List ℕ) (a r : Address) → Order t b → Order t (adds b m row a r)
  order_adds None row a r o = o
  order_adds (Some m) row a r o = record {
    rec_added = λ v i e. omega (arith, o.rec_added v i e);
    rec_after = λ v i e. subst (λ (n : Entry). (t.committed n.maker ≡ true) ⊎ (i ≡ n.maker)) (same v i e) (o.rec_after v i e);
    kept_after = λ k v i e h. subst (λ (n : Entry). t.keeps k n.maker ≡ true) (same v i e) (o.kept_after k v i e h);
  }
    where
      new : Entry
      new = record { maker = m; bytes = row; address = a; root = r }

      same : (v i : ℕ) → b.recorded v i ≡ true → b.entry v ≡ with b.entry b.added new v
      same v i e = sym (with_other b.entry b.added v new (λ z. omega (arith, o.rec_added v i e)))

  -- the transaction m, which no place keeps, is recorded with w, whose maker is committed or m
  pub order_records : (m w : Option ℕ) → ((v : ℕ) → w ≡ Some v → v < b.added)
      → ((v j : ℕ) → m ≡ Some j → w ≡ Some v → (t.committed (b.entry v).maker ≡ true) ⊎ (j ≡ (b.entry v).maker))
      → ((k j : ℕ) → m ≡ Some j → t.keeps k j ≡ false) → Order t b → Order t (records b m w)
  order_records None w below by-maker off o = o
  order_records (Some j) None below by-maker off o = o
  order_records (Some j) (Some w) below by-maker off o = record {
    rec_added = λ v i e. go_added v i (was v i e);
    rec_after = λ v i e. go_after v i (was v i e);
    kept_after = λ k v i e h. go_kept k v i h (was v i e);
  }
    where
      recorded' : ℕ → ℕ → Bool
      recorded' = with b.recorded w (with (b.recorded w) j true)

      -- recorded before, or now
      was : (v i : ℕ) → recorded' v i ≡ true → (b.recorded v i ≡ true) ⊎ ((v ≡ w) × (i ≡ j))
      was v i e = at_v (cases_eq v w)
        where
          at_i : v ≡ w → with (b.recorded w) j true i ≡ true → (i ≡ j) ⊎ (i ≡ j → ⊥) → (b.recorded v i ≡ true) ⊎ ((v ≡ w) × (i ≡ j))
          at_i z h (inl y) = inr (z, y)
          at_i z h (inr n) = inl (ap (λ (u : ℕ). b.recorded u i) z ∙ sym (with_other (b.recorded w) j i true n) ∙ h)

          at_v : (v ≡ w) ⊎ (v ≡ w → ⊥) → (b.recorded v i ≡ true) ⊎ ((v ≡ w) × (i ≡ j))
          at_v (inl z) = at_i z (ap (λ (f : ℕ → Bool). f i) (sym (with_same b.recorded w v (with (b.recorded w) j true) z)) ∙ e) (cases_eq i j)
          at_v (inr n) = inl (ap (λ (f : ℕ → Bool). f i) (sym (with_other b.recorded w v (with (b.recorded w) j true) n)) ∙ e)

      go_added : (v i : ℕ) → (b.recorded v i ≡ true) ⊎ ((v ≡ w) × (i ≡ j)) → v < b.added
      go_added v i (inl r) = o.rec_added v i r
      go_added v i (inr r) = rw r.0 (below w refl)

      go_after : (v i : ℕ) → (b.recorded v i ≡ true) ⊎ ((v ≡ w) × (i ≡ j)) → (t.committed (b.entry v).maker ≡ true) ⊎ (i ≡ (b.entry v).maker)
      go_after v i (inl r) = o.rec_after v i r
      go_after v i (inr r) = rw (r.0, r.1) (by-maker w j refl refl)

      go_kept : (k v i : ℕ) → t.keeps k i ≡ true → (b.recorded v i ≡ true) ⊎ ((v ≡ w) × (i ≡ j)) → t.keeps k (b.entry v).maker ≡ true
      go_kept k v i h (inl r) = o.kept_after k v i r h
      go_kept k v i h (inr r) = absurd (both_ways (t.keeps k j) (off k j refl) (rw r.1 at h))

  -- where one recorded with a version is settled, so is its maker
  pub settled_maker : (used : ℕ → Bool) → Order t b → (v : ℕ) → Passed t b used v → Settled t used (b.entry v).maker
  settled_maker used o v p = record {
    is_committed_lem = ⊎_elim (λ c. c) (λ e. rw e at p.settled.is_committed_lem) (o.rec_after v p.by p.is_recorded);
    is_kept = λ k u. o.kept_after k v p.by p.is_recorded (p.settled.is_kept k u);
  }

-- and no place in use has the version listed
pub passed_unlisted : (l : Ledger) (used : ℕ → Bool) (k v : ℕ) → used k ≡ true → Passed l.transactions l.versions used v → Listed l k v → ⊥
passed_unlisted l used k v u p q = both_ways (l.transactions.keeps k p.by) (q.none_kept p.by p.is_recorded) (p.settled.is_kept k u)
