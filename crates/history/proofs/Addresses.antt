-- Equality of addresses.
use Rattle.std.proofs.Common.{◌≡◌, ℕ, true, false, ◌⊎◌, ap, ◌∙◌, inl, inr}
use Rattle.std.proofs.lemmas.Bool.{cases_eq, cases_Bool, eq-eqb, eqb-true, and_parts, and_from}
use Rattle.page.specs.declared.versions.Address.{Address}
use Rattle.history.specs.Archive.{same_address}

pub address : (a c : Address) → a.block ≡ c.block → a.pointer ≡ c.pointer → a ≡ c
address a c e f = ap (λ (k : ℕ). record { block = k; pointer = a.pointer }) e ∙ ap (λ (k : ℕ). record { block = c.block; pointer = k }) f

pub cases_address : (a c : Address) → (a ≡ c) ⊎ (a ≡ c → ⊥)
cases_address a c = go (cases_eq a.block c.block) (cases_eq a.pointer c.pointer)
  where
    go : (a.block ≡ c.block) ⊎ (a.block ≡ c.block → ⊥) → (a.pointer ≡ c.pointer) ⊎ (a.pointer ≡ c.pointer → ⊥) → (a ≡ c) ⊎ (a ≡ c → ⊥)
    go (inl e) (inl f) = inl (address a c e f)
    go (inl e) (inr n) = inr (λ z. n (ap (λ (x : Address). x.pointer) z))
    go (inr n) y = inr (λ z. n (ap (λ (x : Address). x.block) z))

pub same_true : (a c : Address) → a ≡ c → same_address a c ≡ true
same_true a c e = and_from _ _ (eq-eqb _ _ (ap (λ (x : Address). x.block) e)) (eq-eqb _ _ (ap (λ (x : Address). x.pointer) e))

pub same_false : (a c : Address) → (a ≡ c → ⊥) → same_address a c ≡ false
same_false a c n = go (cases_Bool (same_address a c))
  where
    go : (same_address a c ≡ true) ⊎ (same_address a c ≡ false) → same_address a c ≡ false
    go (inr e) = e
    go (inl e) = let p = and_parts _ _ e in absurd (n (address a c (eqb-true _ _ p.0) (eqb-true _ _ p.1)))
