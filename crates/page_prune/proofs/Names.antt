-- Names and links: what is named is heap-only and named once, so that walks from two roots do not meet.
use Rattle.std.proofs.Common.{◌≡◌, ℕ, zero, suc, ◌<◌, ◌≤◌, Bool, true, false, cond, not, ◌&&◌, eqb, ◌⊎◌, List, length, sym, refl, ap, ◌∙◌, subst, inl, inr, ⊎_elim, arith}
use Rattle.std.proofs.lemmas.List.{get_or_past}
use Rattle.std.proofs.lemmas.Bool.{cases_lt, cases_eq, and_parts, or_cases, eqb-true, eq-eqb, ne_eqb, or_left, or_right, not-true, not_from_false, both_ways, cond-true, cond-false, cases_Bool}
use Rattle.page.specs.Slots.{Slot, Version, slot_at}
use Rattle.page.specs.Slots.Slot.{unused, dead, redirect, holds}
use Rattle.page_check.specs.Rules.{is_heap_only, is_made_by, name_of, leads_well, other_name}
use Rattle.page_prune.specs.Chains.{walk}

-- the rules between slots
pub record Named (b : ℕ) (ss : List Slot) : Type 0 where
  pub targets : (n : ℕ) → 1 ≤ n → n ≤ length ss → leads_well (slot_at ss) (slot_at ss n) ≡ true
  pub once : (n m : ℕ) → 1 ≤ m → m < n → n ≤ length ss → other_name (name_of b (slot_at ss) (slot_at ss n)) (name_of b (slot_at ss) (slot_at ss m)) ≡ true

other_same : (x y : ℕ) → other_name x y ≡ true → x ≡ y → x ≡ 0
other_same x y h e =
    ⊎_elim
    (λ (z : eqb x 0 ≡ true). eqb-true x 0 z)
    (λ (z : not (eqb x y) ≡ true). absurd (both_ways (eqb x y) (not-true (eqb x y) z) (eq-eqb x y e)))
    (or_cases (eqb x 0) (not (eqb x y)) h)

other_from : (x y : ℕ) → (x ≡ y → (x ≡ 0 → ⊥) → ⊥) → other_name x y ≡ true
other_from x y h =
    ⊎_elim
    (λ (z : x ≡ 0). or_left (eqb x 0) (not (eqb x y)) (eq-eqb x 0 z))
    (λ (z : x ≡ 0 → ⊥). or_right (eqb x 0) (not (eqb x y)) (not_from_false (eqb x y) (ne_eqb x y (λ e. h e z))))
    (cases_eq x 0)

pub slot_past : (ss : List Slot) (m : ℕ) → length ss < m → slot_at ss m ≡ unused
slot_past ss zero l = refl
slot_past ss (suc k) l = get_or_past ss k unused (omega arith)

pub heap_past : (ss : List Slot) (t : ℕ) → is_heap_only (slot_at ss t) ≡ true → t ≤ length ss
heap_past ss t h = ⊎_elim (λ (z : length ss < t). absurd (both_ways (is_heap_only (slot_at ss t)) (ap is_heap_only (slot_past ss t z)) h)) (λ z. z) (cases_lt (length ss) t)

-- what is made by x is a version, and heap-only
made_holds : (x : ℕ) (s : Slot) → is_made_by x s ≡ true → (w : Version) × (s ≡ holds w)
made_holds x unused h = absurd (both_ways false refl h)
made_holds x dead h = absurd (both_ways false refl h)
made_holds x (redirect t) h = absurd (both_ways false refl h)
made_holds x (holds w) h = (w, refl)

made_heap : (x : ℕ) (s : Slot) → is_made_by x s ≡ true → is_heap_only s ≡ true
made_heap x unused h = h
made_heap x dead h = h
made_heap x (redirect t) h = h
made_heap x (holds w) h = (and_parts w.heap_only (eqb w.creator x) h).0

-- a version names what its ctid leads to, where this holds
abbrev names_on : ℕ → (ℕ → Slot) → Version → Bool
names_on b at v = v.hot_updated && eqb v.ctid.block b && is_made_by v.remover (at v.ctid.pointer)

-- what is named is heap-only
name_heap : (b : ℕ) (at : ℕ → Slot) (s : Slot) → (name_of b at s ≡ 0 → ⊥) → is_heap_only (at (name_of b at s)) ≡ true
name_heap b at unused n = absurd (n refl)
name_heap b at dead n = absurd (n refl)
name_heap b at (redirect t) n =
    ⊎_elim
    (λ (h : is_heap_only (at t) ≡ true). ap (λ (x : ℕ). is_heap_only (at x)) (cond-true (is_heap_only (at t)) t 0 h) ∙ h)
    (λ (h : is_heap_only (at t) ≡ false). absurd (n (cond-false (is_heap_only (at t)) t 0 h)))
    (cases_Bool (is_heap_only (at t)))
name_heap b at (holds v) n =
    ⊎_elim
    (λ (h : names_on b at v ≡ true).
    ap (λ (x : ℕ). is_heap_only (at x)) (cond-true (names_on b at v) v.ctid.pointer 0 h)
    ∙ made_heap v.remover (at v.ctid.pointer) (and_parts (v.hot_updated && eqb v.ctid.block b) (is_made_by v.remover (at v.ctid.pointer)) h).1)
    (λ (h : names_on b at v ≡ false). absurd (n (cond-false (names_on b at v) v.ctid.pointer 0 h)))
    (cases_Bool (names_on b at v))

target_from : (at : ℕ → Slot) (s : Slot) → ((t : ℕ) → s ≡ redirect t → is_heap_only (at t) ≡ true) → leads_well at s ≡ true
target_from at unused h = refl
target_from at dead h = refl
target_from at (redirect t) h = h t refl
target_from at (holds v) h = refl

-- Links along the names of slots that keep the rules.
module _ (b : ℕ) (ss : List Slot) (nx : ℕ → ℕ) (law : Named b ss) (links : (m : ℕ) → (nx m ≡ 0) ⊎ (nx m ≡ name_of b (slot_at ss) (slot_at ss m))) where
  -- a number that names something is among the slots
  among : (m : ℕ) → (name_of b (slot_at ss) (slot_at ss m) ≡ 0 → ⊥) → (1 ≤ m) × (m ≤ length ss)
  among m n = (
    ⊎_elim (λ (z : m ≡ 0). absurd (n (ap (λ (x : ℕ). name_of b (slot_at ss) (slot_at ss x)) z))) (λ (z : m ≡ 0 → ⊥). omega arith) (cases_eq m 0),
    ⊎_elim (λ (z : length ss < m). absurd (n (ap (name_of b (slot_at ss)) (slot_past ss m z)))) (λ z. z) (cases_lt (length ss) m),
  )

  pub unique : (m n : ℕ) → name_of b (slot_at ss) (slot_at ss m) ≡ name_of b (slot_at ss) (slot_at ss n) → (name_of b (slot_at ss) (slot_at ss m) ≡ 0 → ⊥) → m ≡ n
  unique m n e z =
      let a = among m z in let d = among n (λ y. z (e ∙ y)) in
      let names = λ (x : ℕ). name_of b (slot_at ss) (slot_at ss x) in
      ⊎_elim
      (λ (q : m ≡ n). q)
      (λ (q : m ≡ n → ⊥).
      ⊎_elim
      (λ (y : m < n). absurd (z (e ∙ other_same (names n) (names m) (law.once n m a.0 y d.1) (sym e))))
      (λ (y : n ≤ m). absurd (z (other_same (names m) (names n) (law.once m n d.0 (omega arith) a.1) e)))
      (cases_lt m n))
      (cases_eq m n)

  pub link_name : (m : ℕ) → (nx m ≡ 0 → ⊥) → nx m ≡ name_of b (slot_at ss) (slot_at ss m)
  link_name m n = ⊎_elim (λ (z : nx m ≡ 0). absurd (n z)) (λ z. z) (links m)

  -- 0 links to nothing, so that a walk stays there
  pub link_none : nx 0 ≡ 0
  link_none = ⊎_elim (λ (z : nx 0 ≡ 0). z) (λ (z : nx 0 ≡ name_of b (slot_at ss) (slot_at ss 0)). z) (links 0)

  pub link_from_lem : (m : ℕ) → (nx m ≡ 0 → ⊥) → m ≡ 0 → ⊥
  link_from_lem m n z = n (ap nx z ∙ link_none)

  -- what is linked to is no root
  pub link_heap : (m : ℕ) → (nx m ≡ 0 → ⊥) → is_heap_only (slot_at ss (nx m)) ≡ true
  link_heap m n = ap (λ (x : ℕ). is_heap_only (slot_at ss x)) (link_name m n) ∙ name_heap b (slot_at ss) (slot_at ss m) (λ y. n (link_name m n ∙ y))

  pub link_small : (m : ℕ) → nx m ≤ length ss
  link_small m = ⊎_elim (λ (z : nx m ≡ 0). omega arith) (λ (z : nx m ≡ 0 → ⊥). heap_past ss (nx m) (link_heap m z)) (cases_eq (nx m) 0)

  link_unique : (m n : ℕ) → nx m ≡ nx n → (nx m ≡ 0 → ⊥) → m ≡ n
  link_unique m n e z =
      unique m n (sym (link_name m z) ∙ e ∙ link_name n (λ y. z (e ∙ y))) (λ y. z (link_name m z ∙ y))

  -- walks from two roots do not meet
  pub walks : (i j m n : ℕ) → is_heap_only (slot_at ss m) ≡ false → is_heap_only (slot_at ss n) ≡ false → walk nx i m ≡ walk nx j n → (walk nx i m ≡ 0 → ⊥) → (m ≡ n) × (i ≡ j)
  walks zero zero m n a d e z = (e, refl)
  walks zero (suc j) m n a d e z = absurd (both_ways (is_heap_only (slot_at ss m)) a (ap (λ (x : ℕ). is_heap_only (slot_at ss x)) e ∙ link_heap (walk nx j n) (λ y. z (e ∙ y))))
  walks (suc i) zero m n a d e z = absurd (both_ways (is_heap_only (slot_at ss n)) d (ap (λ (x : ℕ). is_heap_only (slot_at ss x)) (sym e) ∙ link_heap (walk nx i m) z))
  walks (suc i) (suc j) m n a d e z =
      let r = walks i j m n a d (link_unique (walk nx i m) (walk nx j n) e z) (link_from_lem (walk nx i m) z) in (r.0, ap suc r.1)

-- A prune in outline.

-- where a redirect of the pruned slots leads: from a root past what is lost to the first that is left
pub record Led (ss ns : List Slot) (nx : ℕ → ℕ) (m t : ℕ) : Type 0 where
  pub steps : ℕ
  pub root : is_heap_only (slot_at ss m) ≡ false
  pub ends : t ≡ walk nx (suc steps) m
  pub left : slot_at ns t ≡ slot_at ss t
  pub heap_only : is_heap_only (slot_at ss t) ≡ true
  pub lost : (j : ℕ) → 1 ≤ j → j ≤ steps → slot_at ns (walk nx j m) ≡ unused

-- the slots ns are left of ss by a prune
pub record Pruning (b : ℕ) (ss ns : List Slot) (nx : ℕ → ℕ) : Type 0 where
  pub long : length ns ≡ length ss
  pub links : (m : ℕ) → (nx m ≡ 0) ⊎ (nx m ≡ name_of b (slot_at ss) (slot_at ss m))
  pub redirects : (m t : ℕ) → slot_at ns m ≡ redirect t → Led ss ns nx m t
  pub versions : (m : ℕ) (v : Version) → slot_at ns m ≡ holds v → slot_at ss m ≡ holds v

module _ (b : ℕ) (ss ns : List Slot) (nx : ℕ → ℕ) (law : Named b ss) (pr : Pruning b ss ns nx) where
  -- what a version left names, it named before
  kept_name : (v : Version) → (name_of b (slot_at ns) (holds v) ≡ 0 → ⊥) → name_of b (slot_at ns) (holds v) ≡ name_of b (slot_at ss) (holds v)
  kept_name v n =
      ⊎_elim
      (λ (h : names_on b (slot_at ns) v ≡ true).
      let r = made_holds v.remover (slot_at ns v.ctid.pointer) (and_parts (v.hot_updated && eqb v.ctid.block b) (is_made_by v.remover (slot_at ns v.ctid.pointer)) h).1 in
      ap (λ (s : Slot). cond (v.hot_updated && eqb v.ctid.block b && is_made_by v.remover s) v.ctid.pointer 0) (r.1 ∙ sym (pr.versions v.ctid.pointer r.0 r.1)))
      (λ (h : names_on b (slot_at ns) v ≡ false). absurd (n (cond-false (names_on b (slot_at ns) v) v.ctid.pointer 0 h)))
      (cases_Bool (names_on b (slot_at ns) v))

  redirect_heap : (m t : ℕ) → slot_at ns m ≡ redirect t → is_heap_only (slot_at ns t) ≡ true
  redirect_heap m t e = let r = pr.redirects m t e in ap is_heap_only r.left ∙ r.heap_only

  -- where a name comes from: a version that stays, or a redirect
  source : (m : ℕ) (s : Slot) → slot_at ns m ≡ s → (name_of b (slot_at ns) s ≡ 0 → ⊥)
      → ((v : Version) × (slot_at ns m ≡ holds v) × (name_of b (slot_at ss) (slot_at ss m) ≡ name_of b (slot_at ns) s)) ⊎ Led ss ns nx m (name_of b (slot_at ns) s)
  source m unused e n = absurd (n refl)
  source m dead e n = absurd (n refl)
  source m (redirect t) e n = inr (subst (λ (x : ℕ). Led ss ns nx m x) (sym (cond-true (is_heap_only (slot_at ns t)) t 0 (redirect_heap m t e))) (pr.redirects m t e))
  source m (holds v) e n = inl (v, e, ap (name_of b (slot_at ss)) (pr.versions m v e) ∙ sym (kept_name v n))

  -- a version left and a redirect do not name the same
  mixed : (m n x : ℕ) (v : Version) → slot_at ns m ≡ holds v → name_of b (slot_at ss) (slot_at ss m) ≡ x → (x ≡ 0 → ⊥) → Led ss ns nx n x → m ≡ n
  mixed m n x v e d z r =
      let nz : nx (walk nx r.steps n) ≡ 0 → ⊥ = λ y. z (r.ends ∙ y) in
      let same : m ≡ walk nx r.steps n = unique b ss nx law pr.links m (walk nx r.steps n) (d ∙ r.ends ∙ link_name b ss nx law pr.links (walk nx r.steps n) nz) (λ y. z (sym d ∙ y)) in
      ⊎_elim
      (λ (k : r.steps ≡ 0). same ∙ ap (λ (i : ℕ). walk nx i n) k)
      (λ (k : r.steps ≡ 0 → ⊥).
      let gone : unused ≡ holds v = sym (r.lost r.steps (omega arith) (omega arith)) ∙ ap (slot_at ns) (sym same) ∙ e in
      absurd (let q : ◌≡◌ {A = ℕ} 0 1 = cc in omega arith))
      (cases_eq r.steps 0)

  meet : (m n : ℕ) → name_of b (slot_at ns) (slot_at ns m) ≡ name_of b (slot_at ns) (slot_at ns n) → (name_of b (slot_at ns) (slot_at ns m) ≡ 0 → ⊥) → m ≡ n
  meet m n e z =
      let zn : name_of b (slot_at ns) (slot_at ns n) ≡ 0 → ⊥ = λ y. z (e ∙ y) in
      ⊎_elim
      (λ (s : (v : Version) × (slot_at ns m ≡ holds v) × (name_of b (slot_at ss) (slot_at ss m) ≡ name_of b (slot_at ns) (slot_at ns m))).
      ⊎_elim
      (λ (t : (v : Version) × (slot_at ns n ≡ holds v) × (name_of b (slot_at ss) (slot_at ss n) ≡ name_of b (slot_at ns) (slot_at ns n))).
      unique b ss nx law pr.links m n (s.2 ∙ e ∙ sym t.2) (λ y. z (sym s.2 ∙ y)))
      (λ (t : Led ss ns nx n (name_of b (slot_at ns) (slot_at ns n))). mixed m n (name_of b (slot_at ns) (slot_at ns n)) s.0 s.1 (s.2 ∙ e) zn t)
      (source n (slot_at ns n) refl zn))
      (λ (s : Led ss ns nx m (name_of b (slot_at ns) (slot_at ns m))).
      ⊎_elim
      (λ (t : (v : Version) × (slot_at ns n ≡ holds v) × (name_of b (slot_at ss) (slot_at ss n) ≡ name_of b (slot_at ns) (slot_at ns n))).
      sym (mixed n m (name_of b (slot_at ns) (slot_at ns m)) t.0 t.1 (t.2 ∙ sym e) z s))
      (λ (t : Led ss ns nx n (name_of b (slot_at ns) (slot_at ns n))).
      (walks b ss nx law pr.links (suc s.steps) (suc t.steps) m n s.root t.root (sym s.ends ∙ e ∙ t.ends) (λ y. z (s.ends ∙ y))).0)
      (source n (slot_at ns n) refl zn))
      (source m (slot_at ns m) refl z)

  -- the slots left keep the rules
  pub pruned_named : Named b ns
  pruned_named = record {
    targets = λ n x y. target_from (slot_at ns) (slot_at ns n) (λ t e. redirect_heap n t e);
    once = λ n m x y l. other_from (name_of b (slot_at ns) (slot_at ns n)) (name_of b (slot_at ns) (slot_at ns m)) (λ e z. let q = meet n m e z in omega arith);
  }
