-- What an added version and a recorded transaction change in the version log, and what they leave.
use Rattle.std.proofs.Common.{◌≡◌, ℕ, ◌+◌, ◌<◌, Bool, true, ◌⊎◌, List, Some, sym, refl, ap, ◌∙◌, subst, inl, inr, arith}
use Rattle.std.proofs.lemmas.Bool.{cases_eq, eq-eqb, ne_eqb}
use Rattle.page.specs.declared.versions.Address.{Address}
use Rattle.history.specs.Granted.{or_zero}
use Rattle.history.specs.Ledger.{VersionLog, Entry, adds, records}
use Rattle.history.proofs.Addresses.{same_true, same_false}
use Rattle.history.proofs.Invariant.{id_at}

-- the transaction i adds a version with this row at n, in the row with the first address r
module _ (b : VersionLog) (i : ℕ) (row : List ℕ) (n r : Address) where
  abbrev more : VersionLog
  more = adds b (Some i) row n r

  abbrev new : Entry
  new = record { maker = i; bytes = row; address = n; root = r }

  pub last_new : more.last_at n ≡ Some b.added
  last_new = rw (same_true n n refl)

  pub last_other : (a : Address) → (a ≡ n → ⊥) → more.last_at a ≡ b.last_at a
  last_other a z = rw (same_false a n z)

  pub id_new : id_at more n ≡ b.added
  id_new = ap or_zero last_new

  pub id_other : (a : Address) → (a ≡ n → ⊥) → id_at more a ≡ id_at b a
  id_other a z = ap or_zero (last_other a z)

  pub entry_new : more.entry b.added ≡ new
  entry_new = rw (eq-eqb b.added b.added refl)

  pub entry_old : (k : ℕ) → k < b.added → more.entry k ≡ b.entry k
  entry_old k h = rw (ne_eqb k b.added (λ z. omega arith))

  pub entry_here : more.entry (id_at more n) ≡ new
  entry_here = ap more.entry id_new ∙ entry_new

  pub entry_other : (a : Address) → (a ≡ n → ⊥) → id_at b a < b.added → more.entry (id_at more a) ≡ b.entry (id_at b a)
  entry_other a z h = ap more.entry (id_other a z) ∙ entry_old (id_at b a) h

  -- each entry is the new one or an old one
  pub entry_each : (P : Entry → Type 0) → P new → ((v : ℕ) → v < b.added → P (b.entry v)) → (v : ℕ) → v < b.added + 1 → P (more.entry v)
  entry_each P here old v h = go (cases_eq v b.added)
    where
      go : (v ≡ b.added) ⊎ (v ≡ b.added → ⊥) → P (more.entry v)
      go (inl z) = subst P (sym (ap more.entry z ∙ entry_new)) here
      go (inr k) = let l : v < b.added = omega arith in subst P (sym (entry_old v l)) (old v l)

-- the transaction i is recorded with the version v
module _ (b : VersionLog) (i v : ℕ) where
  abbrev now : ℕ → ℕ → Bool
  now = (records b (Some i) (Some v)).recorded

  pub rec_here : now v i ≡ true
  rec_here = rw (eq-eqb v v refl, eq-eqb i i refl)

  pub rec_other : (w j : ℕ) → (w ≡ v → ⊥) → now w j ≡ b.recorded w j
  rec_other w j z = rw (ne_eqb w v z)

  pub rec_same : (j : ℕ) → (j ≡ i → ⊥) → now v j ≡ b.recorded v j
  rec_same j z = rw (eq-eqb v v refl, ne_eqb j i z)

  pub rec_was : (w j : ℕ) → now w j ≡ true → (b.recorded w j ≡ true) ⊎ ((w ≡ v) × (j ≡ i))
  rec_was w j e = go (cases_eq w v) (cases_eq j i)
    where
      go : (w ≡ v) ⊎ (w ≡ v → ⊥) → (j ≡ i) ⊎ (j ≡ i → ⊥) → (b.recorded w j ≡ true) ⊎ ((w ≡ v) × (j ≡ i))
      go (inr z) y = inl (sym (rec_other w j z) ∙ e)
      go (inl z) (inl y) = inr (z, y)
      go (inl z) (inr y) = inl (ap (λ (k : ℕ). b.recorded k j) z ∙ sym (rec_same j y) ∙ ap (λ (k : ℕ). now k j) (sym z) ∙ e)

  pub rec_more : (w j : ℕ) → b.recorded w j ≡ true → now w j ≡ true
  rec_more w j e = go (cases_eq w v) (cases_eq j i)
    where
      go : (w ≡ v) ⊎ (w ≡ v → ⊥) → (j ≡ i) ⊎ (j ≡ i → ⊥) → now w j ≡ true
      go (inr z) y = rec_other w j z ∙ e
      go (inl z) (inl y) = ap (λ (k : ℕ). now k j) z ∙ ap (now v) y ∙ rec_here
      go (inl z) (inr y) = ap (λ (k : ℕ). now k j) z ∙ rec_same j y ∙ ap (λ (k : ℕ). b.recorded k j) (sym z) ∙ e
