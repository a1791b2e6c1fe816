-- Items k that cover cells x, marked one after the other.
use Rattle.std.proofs.Common.{◌≡◌, ℕ, ◌+◌, ◌<◌, Bool, true, false, ◌||◌, List, get_or, sym, refl, ◌∙◌, add-one}
use Rattle.page_check.specs.All.{all_to, any_to}
use Rattle.page_check.proofs.All.{all_to_from, all_to_false, any_to_none, any_to_hit}

-- the cells below m show which of them the items below i cover
abbrev pub Shows : (ℕ → ℕ → Bool) → ℕ → ℕ → List Bool → Type 0
Shows cov m i cs = (x : ℕ) → x < m → get_or cs x false ≡ any_to (λ k. cov k x) i

module _ (cov : ℕ → ℕ → Bool) (m : ℕ) where
  pub marks_more : (i : ℕ) (cs ds : List Bool) → Shows cov m i cs
      → ((x : ℕ) → x < m → get_or ds x false ≡ (cov i x || get_or cs x false)) → Shows cov m (i + 1) ds
  marks_more i cs ds s h x l = rw add-one (h x l ∙ rw (s x l) refl)

  -- where the cells of i are free, i meets no earlier item
  pub marks_free : (g : ℕ → Bool) (i : ℕ) (cs : List Bool) → Shows cov m i cs
      → ((x : ℕ) → x < m → cov i x ≡ true → get_or cs x false ≡ false)
      → ((j : ℕ) → j < i → ((x : ℕ) → x < m → cov i x ≡ true → cov j x ≡ false) → g j ≡ true)
      → all_to g i ≡ true
  marks_free g i cs s free apart =
      all_to_from g i (λ j l. apart j l (λ x b e. any_to_none (λ k. cov k x) i j (sym (s x b) ∙ free x b e) l))

  -- where one of them is taken, i meets an earlier item
  pub marks_busy : (g : ℕ → Bool) (i : ℕ) (cs : List Bool) → Shows cov m i cs → (x : ℕ) → x < m → cov i x ≡ true → get_or cs x false ≡ true
      → ((j : ℕ) → j < i → cov i x ≡ true → cov j x ≡ true → g j ≡ false)
      → all_to g i ≡ false
  marks_busy g i cs s x b e t meet =
      let r = any_to_hit (λ k. cov k x) i (sym (s x b) ∙ t) in all_to_false g r.0 i r.1 (meet r.0 r.1 e r.2)
