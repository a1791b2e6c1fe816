-- The slots that a prune leaves.
use Rattle.std.proofs.Common.{◌≡◌, ℕ, zero, suc, ◌+◌, ◌-◌, ◌<◌, ◌≤◌, Bool, true, false, cond, not, ◌&&◌, ◌||◌, ◌⊎◌, List, [], ◌∷◌, length, sym, refl, ap, ◌∙◌, subst, inl, inr, ⊎_elim, add-one, arith}
use Rattle.std.proofs.lemmas.List.FromFn.{length-map-range_with_len, get_or-map-range_with_len}
use Rattle.std.proofs.lemmas.Bool.{cases_lt, cases_eq, or_parts, or_from, or_left, or_right, both_ways, cond-true, cond-false, cases_Bool, and_left}
use Rattle.page.specs.Slots.{Slot, Version, slot_at}
use Rattle.page.specs.Slots.Slot.{unused, dead, redirect, holds}
use Rattle.page_check.specs.All.{any_to}
use Rattle.page_check.specs.Rules.{is_heap_only, leads_well}
use Rattle.page_check.proofs.All.{any_to_hit}
use Rattle.page_compact.proofs.Packing.{sum_to, packing}
use Rattle.page_laws.specs.Chains.{chain}
use Rattle.page_prune.specs.Chains.{Links, walk, start_of, chain_of, member, any_dead, left, lost, chained_in, lost_in}
use Rattle.page_prune.specs.Pruned.{leads_to, root_outcome, heap_only_outcome, outcome, slot_after, pruned_slot, pruned_slots}
use Rattle.page_prune.specs.declared.outcomes.Outcome.{Outcome}
use Rattle.page_prune.specs.declared.outcomes.Outcome.TheVariants.{Stays, Freed, MadeDead, Redirected}
use Rattle.page_prune.proofs.Names.{Named, Led, Pruning, walks, link_heap, link_none, link_small, heap_past, slot_past}
use Rattle.page_prune.proofs.Walks.{clash, walk_shift, walk_zero, chain_none, chain_full, member_walk, lost_member, none_lost, left_alive, cut, first}
use Rattle.page_prune.proofs.Repoint.{Small}

any_to_from : (f : ℕ → Bool) (n k : ℕ) → k < n → f k ≡ true → any_to f n ≡ true
any_to_from f zero k l h = absurd (omega arith)
any_to_from f (suc n) k l h =
    ⊎_elim (λ (e : k ≡ n). or_left (f n) (any_to f n) (ap f (sym e) ∙ h)) (λ (e : k ≡ n → ⊥). or_right (f n) (any_to f n) (any_to_from f n k (omega arith) h)) (cases_eq k n)

leads_inv : (ms : List ℕ) (t : ℕ) → leads_to ms ≡ Redirected t → (ts : List ℕ) × (ms ≡ t ∷ ts)
leads_inv [] t h = clash _ (cc)
leads_inv (m ∷ ms) t h = (ms, let e : m ≡ t = cc in ap (λ (x : ℕ). x ∷ ms) e)

-- a slot that holds a version after a prune held it before
after_version : (o : Outcome) (s : Slot) (v : Version) → slot_after o s ≡ holds v → s ≡ holds v
after_version Stays s v h = h
after_version Freed s v h = clash _ (cc)
after_version MadeDead s v h = clash _ (cc)
after_version (Redirected t) s v h = clash _ (cc)

-- a redirect after a prune is new, or was there before
after_redirect : (o : Outcome) (s : Slot) (t : ℕ) → slot_after o s ≡ redirect t → (o ≡ Redirected t) ⊎ ((o ≡ Stays) × (s ≡ redirect t))
after_redirect Stays s t h = inr (refl, h)
after_redirect Freed s t h = clash _ (cc)
after_redirect MadeDead s t h = clash _ (cc)
after_redirect (Redirected u) s t h = inl (let e : u ≡ t = cc in ap (λ (x : ℕ). Redirected x) e)

-- From the start of a chain back to its root.

-- what a redirect links to is its target
abbrev Leads : (ℕ → ℕ) → ℕ → Slot → Type 0
Leads nx m s = (t : ℕ) → s ≡ redirect t → nx m ≡ t

from_root : (nx : ℕ → ℕ) (f m k : ℕ) (s : Slot) → Leads nx m s → member k (chain nx f (start_of m s)) ≡ true → (is_heap_only s ≡ false) × ((i : ℕ) × (k ≡ walk nx i m) × (k ≡ 0 → ⊥))
from_root nx f m k unused red h = absurd (both_ways false refl (ap (member k) (sym (chain_none nx f)) ∙ h))
from_root nx f m k dead red h = absurd (both_ways false refl (ap (member k) (sym (chain_none nx f)) ∙ h))
from_root nx f m k (redirect t) red h =
    let r = member_walk nx f t k h in (refl, (suc r.0, r.1 ∙ ap (walk nx r.0) (sym (red t refl)) ∙ walk_shift nx r.0 m, r.2))
from_root nx f m k (holds v) red h =
    ⊎_elim
    (λ (e : v.heap_only ≡ true). absurd (both_ways false refl (ap (member k) (sym (ap (chain nx f) (cond-true v.heap_only 0 m e) ∙ chain_none nx f)) ∙ h)))
    (λ (e : v.heap_only ≡ false). (e, member_walk nx f m k (ap (λ (a : ℕ). member k (chain nx f a)) (sym (cond-false v.heap_only 0 m e)) ∙ h)))
    (cases_Bool v.heap_only)

-- the first that is left of a root's chain, by steps from the root
record Start (nx : ℕ → ℕ) (gone : ℕ → Bool) (ms : List ℕ) (m t : ℕ) : Type 0 where
  pub steps : ℕ
  pub is : t ≡ walk nx (suc steps) m
  pub alive : gone t ≡ false
  pub before : (j : ℕ) → 1 ≤ j → j ≤ steps → member (walk nx j m) (lost gone ms) ≡ true
  pub behind : (k : ℕ) → member k (lost gone ms) ≡ true → (j : ℕ) × (j < suc steps) × (k ≡ walk nx j m)
  pub there : member t ms ≡ true

start : (nx : ℕ → ℕ) (gone : ℕ → Bool) (f m t : ℕ) (ts : List ℕ) (s : Slot) → Leads nx m s → left gone (chain nx f (start_of m s)) ≡ t ∷ ts → any_dead gone (chain nx f (start_of m s)) ≡ true → Start nx gone (chain nx f (start_of m s)) m t
start nx gone f m t ts unused red h a = absurd (both_ways false refl (ap (any_dead gone) (sym (chain_none nx f)) ∙ a))
start nx gone f m t ts dead red h a = absurd (both_ways false refl (ap (any_dead gone) (sym (chain_none nx f)) ∙ a))
start nx gone f m t ts (redirect u) red h a =
    let r = first nx gone f u t ts h in
    let back : (i : ℕ) → walk nx i u ≡ walk nx (suc i) m = λ i. ap (walk nx i) (sym (red u refl)) ∙ walk_shift nx i m in
    record {
      steps = r.place;
      is = r.is ∙ back r.place;
      alive = r.alive;
      before = λ j x y. let e : suc (j - 1) ≡ j = omega arith in
          ap (λ (i : ℕ). member (walk nx i m) (lost gone (chain nx f u))) (sym e) ∙ ap (λ (i : ℕ). member i (lost gone (chain nx f u))) (sym (back (j - 1))) ∙ r.before (j - 1) (omega arith);
      behind = λ k y. let q = r.behind k y in let q1 = q.1 in (suc q.0, omega arith, q.2 ∙ back q.0);
      there = r.there;
    }
start nx gone f m t ts (holds v) red h a =
    ⊎_elim
    (λ (e : v.heap_only ≡ true). absurd (both_ways false refl (ap (any_dead gone) (sym (ap (chain nx f) (cond-true v.heap_only 0 m e) ∙ chain_none nx f)) ∙ a)))
    (λ (e : v.heap_only ≡ false).
    let d : chain nx f (cond v.heap_only 0 m) ≡ chain nx f m = ap (chain nx f) (cond-false v.heap_only 0 m e) in
    let r = first nx gone f m t ts (ap (left gone) (sym d) ∙ h) in
    let one = r.moved (ap (any_dead gone) (sym d) ∙ a) in
    let ep : r.place ≡ suc (r.place - 1) = omega arith in
    let st : Start nx gone (chain nx f m) m t = record {
      steps = r.place - 1;
      is = r.is ∙ ap (λ (i : ℕ). walk nx i m) ep;
      alive = r.alive;
      before = λ j x y. r.before j (omega arith);
      behind = λ k y. let q = r.behind k y in let q1 = q.1 in (q.0, omega arith, q.2);
      there = r.there;
    } in
    subst (λ (ms : List ℕ). Start nx gone ms m t) (sym d) st)
    (cases_Bool v.heap_only)

-- a root has a chain that starts at it or at the next, or none
starts : (nx : ℕ → ℕ) (m : ℕ) (s : Slot) → Leads nx m s → (start_of m s ≡ 0) ⊎ ((is_heap_only s ≡ false) × ((d : ℕ) × (start_of m s ≡ walk nx d m)))
starts nx m unused red = inl refl
starts nx m dead red = inl refl
starts nx m (redirect t) red = inr (refl, (1, sym (red t refl)))
starts nx m (holds v) red =
    ⊎_elim
    (λ (e : v.heap_only ≡ true). inl (cond-true v.heap_only 0 m e))
    (λ (e : v.heap_only ≡ false). inr (e, (0, cond-false v.heap_only 0 m e)))
    (cases_Bool v.heap_only)

walk-walk : (nx : ℕ → ℕ) (i j m : ℕ) → walk nx i (walk nx j m) ≡ walk nx (i + j) m
walk-walk nx zero j m = let e : j ≡ 0 + j = omega arith in ap (λ (n : ℕ). walk nx n m) e
walk-walk nx (suc i) j m = let e : suc (i + j) ≡ suc i + j = omega arith in ap nx (walk-walk nx i j m) ∙ ap (λ (n : ℕ). walk nx n m) e

ones : (n : ℕ) → sum_to (λ k. 1) n ≡ n
ones zero = refl
ones (suc n) = let e = ones n in omega arith

module _ (b : ℕ) (ss : List Slot) (nx : ℕ → ℕ) (law : Named b ss) (links : Links b ss nx) where
  zero_next : nx 0 ≡ 0
  zero_next = link_none b ss nx law links.names

  -- a walk that is not at its end was not there before
  not_yet : (a i j : ℕ) → j ≤ i → (walk nx i a ≡ 0 → ⊥) → walk nx j a ≡ 0 → ⊥
  not_yet a i j le n z =
      let e : (i - j) + j ≡ i = omega arith in
      n (ap (λ (x : ℕ). walk nx x a) (sym e) ∙ sym (walk-walk nx (i - j) j a) ∙ ap (walk nx (i - j)) z ∙ walk_zero nx zero_next (i - j))

  walk_small : (m i : ℕ) → m ≤ length ss → walk nx i m ≤ length ss
  walk_small m zero l = l
  walk_small m (suc i) l = link_small b ss nx law links.names (walk nx i m)

  pub start_small : (m : ℕ) → m ≤ length ss → start_of m (slot_at ss m) ≤ length ss
  start_small m l =
      ⊎_elim
      (λ (z : start_of m (slot_at ss m) ≡ 0). omega arith)
      (λ (r : (is_heap_only (slot_at ss m) ≡ false) × ((d : ℕ) × (start_of m (slot_at ss m) ≡ walk nx d m))).
      let e = r.1.1 in let h = walk_small m r.1.0 l in omega arith)
      (starts nx m (slot_at ss m) (links.redirects m))

  -- as many steps as there are slots lead to the end: otherwise a number came twice
  root_ends : (m d : ℕ) → m ≤ length ss → is_heap_only (slot_at ss m) ≡ false → walk nx (length ss + d) m ≡ 0
  root_ends m d l root =
      ⊎_elim
      (λ (z : walk nx (length ss + d) m ≡ 0). z)
      (λ (z : walk nx (length ss + d) m ≡ 0 → ⊥).
      let there : (k : ℕ) → k < suc (length ss) → walk nx (k + d) m ≡ 0 → ⊥ = λ k x. not_yet m (length ss + d) (k + d) (omega arith) z in
      let p = packing (λ k. walk nx (k + d) m) (λ k. 1) (suc (length ss)) 1 (suc (length ss)) (omega arith)
      (λ k x. inr (let n = there k x in omega arith))
      (λ k x. inr (let n = walk_small m (k + d) l in omega arith))
      (λ j k x y. inr (inr (⊎_elim
      (λ (e : walk nx (j + d) m < walk nx (k + d) m). inl (omega arith))
      (λ (e : walk nx (k + d) m ≤ walk nx (j + d) m). inr
      (⊎_elim
      (λ (q : walk nx (j + d) m ≡ walk nx (k + d) m).
      absurd (let w = (walks b ss nx law links.names (j + d) (k + d) m m root root q (there j (omega arith))).1 in omega arith))
      (λ (q : walk nx (j + d) m ≡ walk nx (k + d) m → ⊥). omega arith)
      (cases_eq (walk nx (j + d) m) (walk nx (k + d) m))))
      (cases_lt (walk nx (j + d) m) (walk nx (k + d) m))))) in
      absurd (let o = ones (suc (length ss)) in omega arith))
      (cases_eq (walk nx (length ss + d) m) 0)

  -- a chain ends on the page
  pub chain_ends : (m : ℕ) → m ≤ length ss → walk nx (length ss) (start_of m (slot_at ss m)) ≡ 0
  chain_ends m l =
      ⊎_elim
      (λ (z : start_of m (slot_at ss m) ≡ 0). ap (walk nx (length ss)) z ∙ walk_zero nx zero_next (length ss))
      (λ (r : (is_heap_only (slot_at ss m) ≡ false) × ((d : ℕ) × (start_of m (slot_at ss m) ≡ walk nx d m))).
      ap (walk nx (length ss)) r.1.1 ∙ walk-walk nx (length ss) r.1.0 m ∙ root_ends m r.1.0 l r.0)
      (starts nx m (slot_at ss m) (links.redirects m))

module _ (b : ℕ) (ss : List Slot) (nx : ℕ → ℕ) (gone : ℕ → Bool) (law : Named b ss) (links : Links b ss nx) where
  outcome_unused : (m : ℕ) → slot_at ss m ≡ unused → outcome nx gone ss m ≡ Stays
  outcome_unused m e =
      ap (λ (s : Slot). cond (is_heap_only s) (heap_only_outcome (lost_in nx gone ss m) (chained_in nx ss m) (gone m)) (root_outcome gone (chain nx (length ss + 1) (start_of m s)))) e
      ∙ ap (root_outcome gone) (chain_none nx (length ss + 1))

  outcome_dead : (m : ℕ) → slot_at ss m ≡ dead → outcome nx gone ss m ≡ Stays
  outcome_dead m e =
      ap (λ (s : Slot). cond (is_heap_only s) (heap_only_outcome (lost_in nx gone ss m) (chained_in nx ss m) (gone m)) (root_outcome gone (chain nx (length ss + 1) (start_of m s)))) e
      ∙ ap (root_outcome gone) (chain_none nx (length ss + 1))

  pub pruned_long : length (pruned_slots nx gone ss) ≡ length ss
  pruned_long = length-map-range_with_len (pruned_slot nx gone ss) 1 (length ss)

  pruned_none : (m : ℕ) → slot_at ss m ≡ unused → pruned_slot nx gone ss m ≡ unused
  pruned_none m e = ap (λ (o : Outcome). slot_after o (slot_at ss m)) (outcome_unused m e) ∙ e

  pub pruned_at_lem : (m : ℕ) → slot_at (pruned_slots nx gone ss) m ≡ pruned_slot nx gone ss m
  pruned_at_lem zero = sym (pruned_none 0 refl)
  pruned_at_lem (suc k) =
      ⊎_elim
      (λ (l : k < length ss). get_or-map-range_with_len (pruned_slot nx gone ss) 1 (length ss) k (suc k) unused l (omega arith))
      (λ (l : length ss ≤ k). slot_past (pruned_slots nx gone ss) (suc k) (omega (arith, pruned_long)) ∙ sym (pruned_none (suc k) (slot_past ss (suc k) (omega arith))))
      (cases_lt k (length ss))

  -- who is lost at all is lost in the chain that it belongs to
  lost_root : (m k i : ℕ) → is_heap_only (slot_at ss m) ≡ false → k ≡ walk nx i m → lost_in nx gone ss k ≡ true → member k (lost gone (chain_of nx ss m)) ≡ true
  lost_root m k i root e h =
      let r = any_to_hit (λ r. member k (lost gone (chain_of nx ss (r + 1)))) (length ss) h in
      let q = from_root nx (length ss + 1) (r.0 + 1) k (slot_at ss (r.0 + 1)) (links.redirects (r.0 + 1)) (lost_member gone k (chain_of nx ss (r.0 + 1)) r.2) in
      let same = (walks b ss nx law links.names q.1.0 i (r.0 + 1) m q.0 root (sym q.1.1 ∙ e) (λ y. q.1.2 (q.1.1 ∙ y))).0 in
      ap (λ (x : ℕ). member k (lost gone (chain_of nx ss x))) (sym same) ∙ r.2

  keep : (m : ℕ) → is_heap_only (slot_at ss m) ≡ true → gone m ≡ false → lost_in nx gone ss m ≡ false → pruned_slot nx gone ss m ≡ slot_at ss m
  keep m h g l =
      ap (λ (o : Outcome). slot_after o (slot_at ss m))
      (cond-true (is_heap_only (slot_at ss m)) (heap_only_outcome (lost_in nx gone ss m) (chained_in nx ss m) (gone m)) (root_outcome gone (chain_of nx ss m)) h
      ∙ cond-false (lost_in nx gone ss m || (gone m && not (chained_in nx ss m))) Freed Stays (or_from (lost_in nx gone ss m) (gone m && not (chained_in nx ss m)) l (and_left (gone m) (not (chained_in nx ss m)) g)))

  drop : (m : ℕ) → is_heap_only (slot_at ss m) ≡ true → lost_in nx gone ss m ≡ true → pruned_slot nx gone ss m ≡ unused
  drop m h l =
      ap (λ (o : Outcome). slot_after o (slot_at ss m))
      (cond-true (is_heap_only (slot_at ss m)) (heap_only_outcome (lost_in nx gone ss m) (chained_in nx ss m) (gone m)) (root_outcome gone (chain_of nx ss m)) h
      ∙ cond-true (lost_in nx gone ss m || (gone m && not (chained_in nx ss m))) Freed Stays (or_left (lost_in nx gone ss m) (gone m && not (chained_in nx ss m)) l))

  -- a root whose chain lost something
  led_new : (m t : ℕ) (ts : List ℕ) → 1 ≤ m → m ≤ length ss → is_heap_only (slot_at ss m) ≡ false → any_dead gone (chain_of nx ss m) ≡ true → left gone (chain_of nx ss m) ≡ t ∷ ts
      → Led ss (pruned_slots nx gone ss) nx m t
  led_new m t ts one last root any e =
      let r = start nx gone (length ss + 1) m t ts (slot_at ss m) (links.redirects m) e any in
      let nz : t ≡ 0 → ⊥ = (from_root nx (length ss + 1) m t (slot_at ss m) (links.redirects m) r.there).1.2 in
      let nzw : nx (walk nx r.steps m) ≡ 0 → ⊥ = λ y. nz (r.is ∙ y) in
      let heap : is_heap_only (slot_at ss t) ≡ true = ap (λ (x : ℕ). is_heap_only (slot_at ss x)) r.is ∙ link_heap b ss nx law links.names (walk nx r.steps m) nzw in
      let safe : lost_in nx gone ss t ≡ false
      = ⊎_elim
      (λ (h : lost_in nx gone ss t ≡ true).
      let q = r.behind t (lost_root m t (suc r.steps) root r.is h) in
      let q1 = q.1 in
      let same = (walks b ss nx law links.names (suc r.steps) q.0 m m root root (sym r.is ∙ q.2) nzw).1 in
      absurd (omega arith))
      (λ h. h)
      (cases_Bool (lost_in nx gone ss t)) in
      record {
        steps = r.steps;
        root = root;
        ends = r.is;
        left = pruned_at_lem t ∙ keep t heap r.alive safe;
        heap_only = heap;
        lost = λ j x y.
            let in' = r.before j x y in
            let nzj = (from_root nx (length ss + 1) m (walk nx j m) (slot_at ss m) (links.redirects m) (lost_member gone (walk nx j m) (chain_of nx ss m) in')).1.2 in
            let ej : suc (j - 1) ≡ j = omega arith in
            let ek : nx (walk nx (j - 1) m) ≡ walk nx j m = ap (λ (i : ℕ). walk nx i m) ej in
            let m1 : (m - 1) + 1 ≡ m = omega arith in
            let hk : is_heap_only (slot_at ss (walk nx j m)) ≡ true = ap (λ (i : ℕ). is_heap_only (slot_at ss i)) (sym ek) ∙ link_heap b ss nx law links.names (walk nx (j - 1) m) (λ z. nzj (sym ek ∙ z)) in
            pruned_at_lem (walk nx j m) ∙ drop (walk nx j m) hk
            (any_to_from (λ r. member (walk nx j m) (lost gone (chain_of nx ss (r + 1)))) (length ss) (m - 1) (omega arith)
            (ap (λ (i : ℕ). member (walk nx j m) (lost gone (chain_of nx ss i))) m1 ∙ in'));
      }

  -- a redirect whose chain lost nothing
  led_old : (m t : ℕ) → 1 ≤ m → m ≤ length ss → slot_at ss m ≡ redirect t → any_dead gone (chain_of nx ss m) ≡ false → Led ss (pruned_slots nx gone ss) nx m t
  led_old m t one last e any =
      let heap : is_heap_only (slot_at ss t) ≡ true = sym (ap (leads_well (slot_at ss)) e) ∙ law.targets m one last in
      let root : is_heap_only (slot_at ss m) ≡ false = ap is_heap_only e in
      let to : nx m ≡ t = links.redirects m t e in
      let nz : t ≡ 0 → ⊥ = λ z. both_ways (is_heap_only (slot_at ss t)) (ap (λ (i : ℕ). is_heap_only (slot_at ss i)) z) heap in
      let t1 : suc (t - 1) ≡ t = omega arith in
      let ch : chain_of nx ss m ≡ t ∷ chain nx (length ss) (nx t)
      = ap (λ (s : Slot). chain nx (length ss + 1) (start_of m s)) e ∙ ap (λ (f : ℕ). chain nx f t) (add-one (length ss))
      ∙ ap (chain nx (suc (length ss))) (sym t1) ∙ ap (λ (i : ℕ). i ∷ chain nx (length ss) (nx i)) t1 in
      let alive : gone t ≡ false = (or_parts (gone t) (any_dead gone (chain nx (length ss) (nx t))) (ap (any_dead gone) (sym ch) ∙ any)).0 in
      let safe : lost_in nx gone ss t ≡ false
      = ⊎_elim
      (λ (h : lost_in nx gone ss t ≡ true).
      absurd (both_ways false refl (ap (member t) (sym (none_lost gone (chain_of nx ss m) any)) ∙ lost_root m t 1 root (sym to) h)))
      (λ h. h)
      (cases_Bool (lost_in nx gone ss t)) in
      record {
        steps = 0;
        root = root;
        ends = sym to;
        left = pruned_at_lem t ∙ keep t heap alive safe;
        heap_only = heap;
        lost = λ j x y. absurd (omega arith);
      }

  -- a root by its chain
  pub at_root : (m : ℕ) → is_heap_only (slot_at ss m) ≡ false → outcome nx gone ss m ≡ root_outcome gone (chain_of nx ss m)
  at_root m h = cond-false (is_heap_only (slot_at ss m)) (heap_only_outcome (lost_in nx gone ss m) (chained_in nx ss m) (gone m)) (root_outcome gone (chain_of nx ss m)) h

  pub at_heap : (m : ℕ) → is_heap_only (slot_at ss m) ≡ true → (outcome nx gone ss m ≡ Freed) ⊎ (outcome nx gone ss m ≡ Stays)
  at_heap m h =
      let e = cond-true (is_heap_only (slot_at ss m)) (heap_only_outcome (lost_in nx gone ss m) (chained_in nx ss m) (gone m)) (root_outcome gone (chain_of nx ss m)) h in
      ⊎_elim
      (λ (y : (lost_in nx gone ss m || (gone m && not (chained_in nx ss m))) ≡ true). inl (e ∙ cond-true (lost_in nx gone ss m || (gone m && not (chained_in nx ss m))) Freed Stays y))
      (λ (y : (lost_in nx gone ss m || (gone m && not (chained_in nx ss m))) ≡ false). inr (e ∙ cond-false (lost_in nx gone ss m || (gone m && not (chained_in nx ss m))) Freed Stays y))
      (cases_Bool (lost_in nx gone ss m || (gone m && not (chained_in nx ss m))))

  -- a slot that is redirected anew is a root, and its chain has a dead member and one left
  pub redirected : (m t : ℕ) → outcome nx gone ss m ≡ Redirected t
      → (is_heap_only (slot_at ss m) ≡ false) × (any_dead gone (chain_of nx ss m) ≡ true) × ((ts : List ℕ) × (left gone (chain_of nx ss m) ≡ t ∷ ts))
  redirected m t h =
      ⊎_elim
      (λ (k : is_heap_only (slot_at ss m) ≡ true).
      ⊎_elim (λ (e : outcome nx gone ss m ≡ Freed). clash _ (cc)) (λ (e : outcome nx gone ss m ≡ Stays). clash _ (cc)) (at_heap m k))
      (λ (k : is_heap_only (slot_at ss m) ≡ false).
      ⊎_elim
      (λ (a : any_dead gone (chain_of nx ss m) ≡ true).
      (k, a, leads_inv (left gone (chain_of nx ss m)) t (sym (cond-true (any_dead gone (chain_of nx ss m)) (leads_to (left gone (chain_of nx ss m))) Stays a) ∙ sym (at_root m k) ∙ h)))
      (λ (a : any_dead gone (chain_of nx ss m) ≡ false).
      clash _ (let d : Stays ≡ Redirected t = sym (cond-false (any_dead gone (chain_of nx ss m)) (leads_to (left gone (chain_of nx ss m))) Stays a) ∙ sym (at_root m k) ∙ h in cc))
      (cases_Bool (any_dead gone (chain_of nx ss m))))
      (cases_Bool (is_heap_only (slot_at ss m)))

  leads_stays : (ms : List ℕ) → leads_to ms ≡ Stays → ⊥
  leads_stays [] h = clash _ (cc)
  leads_stays (m ∷ ms) h = clash _ (cc)

  -- a root that stays has no dead member in its chain
  pub stays_alive : (m : ℕ) → outcome nx gone ss m ≡ Stays → any_dead gone (chain_of nx ss m) ≡ false
  stays_alive m h =
      ⊎_elim
      (λ (a : any_dead gone (chain_of nx ss m) ≡ true).
      let root = dead_root a in
      absurd (leads_stays (left gone (chain_of nx ss m)) (sym (cond-true (any_dead gone (chain_of nx ss m)) (leads_to (left gone (chain_of nx ss m))) Stays a) ∙ sym (at_root m root) ∙ h)))
      (λ a. a)
      (cases_Bool (any_dead gone (chain_of nx ss m)))
    where
      no_chain : (s : Slot) → is_heap_only s ≡ true → start_of m s ≡ 0
      no_chain unused k = refl
      no_chain dead k = refl
      no_chain (redirect t) k = absurd (both_ways false refl k)
      no_chain (holds v) k = cond-true v.heap_only 0 m k

      dead_root : any_dead gone (chain_of nx ss m) ≡ true → is_heap_only (slot_at ss m) ≡ false
      dead_root a =
          ⊎_elim
          (λ (k : is_heap_only (slot_at ss m) ≡ true). absurd (both_ways false refl (ap (any_dead gone) (sym (ap (chain nx (length ss + 1)) (no_chain (slot_at ss m) k) ∙ chain_none nx (length ss + 1))) ∙ a)))
          (λ k. k)
          (cases_Bool (is_heap_only (slot_at ss m)))

  inside : (m t : ℕ) → pruned_slot nx gone ss m ≡ redirect t → (1 ≤ m) × (m ≤ length ss)
  inside m t e = (
    ⊎_elim (λ (z : m ≡ 0). clash _ (let d : unused ≡ redirect t = sym (pruned_none m (ap (slot_at ss) z)) ∙ e in cc)) (λ (z : m ≡ 0 → ⊥). omega arith) (cases_eq m 0),
    ⊎_elim (λ (z : length ss < m). clash _ (let d : unused ≡ redirect t = sym (pruned_none m (slot_past ss m z)) ∙ e in cc)) (λ z. z) (cases_lt (length ss) m),
  )

  pub led : (m t : ℕ) → pruned_slot nx gone ss m ≡ redirect t → Led ss (pruned_slots nx gone ss) nx m t
  led m t e =
      let r = inside m t e in
      ⊎_elim
      (λ (o : outcome nx gone ss m ≡ Redirected t). let q = redirected m t o in led_new m t q.2.0 r.0 r.1 q.0 q.1 q.2.1)
      (λ (o : (outcome nx gone ss m ≡ Stays) × (slot_at ss m ≡ redirect t)). led_old m t r.0 r.1 o.1 (stays_alive m o.0))
      (after_redirect (outcome nx gone ss m) (slot_at ss m) t e)

  pub pruning : Pruning b ss (pruned_slots nx gone ss) nx
  pruning = record {
    long = pruned_long;
    links = links.names;
    redirects = λ m t e. led m t (sym (pruned_at_lem m) ∙ e);
    versions = λ m v e. after_version (outcome nx gone ss m) (slot_at ss m) v (sym (pruned_at_lem m) ∙ e);
  }

  small_of : (o : Outcome) → ((t : ℕ) → o ≡ Redirected t → t < 32768) → Small o
  small_of Stays h = tt
  small_of Freed h = tt
  small_of MadeDead h = tt
  small_of (Redirected t) h = h t refl

  pub outcome_small : length ss ≤ 291 → (m : ℕ) → Small (outcome nx gone ss m)
  outcome_small few m =
      small_of (outcome nx gone ss m)
      (λ t e. let l = heap_past ss t (led m t (ap (λ (o : Outcome). slot_after o (slot_at ss m)) e)).heap_only in omega arith)

  -- No chain has a dead member afterwards.

  chain_after : (m : ℕ) (o : Outcome) → m ≤ length ss → outcome nx gone ss m ≡ o → any_dead gone (chain nx (length ss + 1) (start_of m (slot_after o (slot_at ss m)))) ≡ false
  chain_after m Stays l e = stays_alive m e
  chain_after m Freed l e = ap (any_dead gone) (chain_none nx (length ss + 1))
  chain_after m MadeDead l e = ap (any_dead gone) (chain_none nx (length ss + 1))
  chain_after m (Redirected t) l e =
      let r = redirected m t e in
      let a = start_of m (slot_at ss m) in
      let k = length (lost gone (chain_of nx ss m)) in
      let f : left gone (chain_of nx ss m) ≡ chain nx (length ss + 1 - k) (walk nx k a) = (cut nx gone (length ss + 1) a).back in
      let h : t ≡ walk nx k a = head_is (length ss + 1 - k) (walk nx k a) t r.2.0 (sym f ∙ r.2.1) in
      let short : k ≤ length ss + 1 = (cut nx gone (length ss + 1) a).short in
      let z : nx 0 ≡ 0 = zero_next b ss nx law links in
      let e1 : (length ss + 1 - k) + k ≡ suc (length ss) = omega arith in
      let e2 : length ss + 1 ≡ (length ss + 1 - k) + k = omega arith in
      let done : walk nx (length ss + 1 - k) t ≡ 0
      = ap (walk nx (length ss + 1 - k)) h ∙ walk-walk nx (length ss + 1 - k) k a ∙ ap (λ (x : ℕ). walk nx x a) e1 ∙ ap nx (chain_ends b ss nx law links m l) ∙ z in
      let whole : chain nx (length ss + 1) t ≡ chain nx (length ss + 1 - k) t
      = ap (λ (x : ℕ). chain nx x t) e2 ∙ chain_full nx z (length ss + 1 - k) k t done in
      ap (any_dead gone) (whole ∙ ap (chain nx (length ss + 1 - k)) h ∙ sym f) ∙ left_alive gone (chain_of nx ss m)
    where
      head_is : (f a t : ℕ) (ts : List ℕ) → chain nx f a ≡ t ∷ ts → t ≡ a
      head_is zero a t ts h = clash _ (cc)
      head_is (suc f) zero t ts h = clash _ (cc)
      head_is (suc f) (suc a) t ts h = cc

  pub none_dead_left : (m : ℕ) → any_dead gone (chain_of nx (pruned_slots nx gone ss) m) ≡ false
  none_dead_left m =
      ⊎_elim
      (λ (l : length ss < m).
      ap (λ (s : Slot). any_dead gone (chain nx (length (pruned_slots nx gone ss) + 1) (start_of m s))) (slot_past (pruned_slots nx gone ss) m (omega (arith, pruned_long)))
      ∙ ap (any_dead gone) (chain_none nx (length (pruned_slots nx gone ss) + 1)))
      (λ (l : m ≤ length ss).
      ap (λ (n : ℕ). any_dead gone (chain nx (n + 1) (start_of m (slot_at (pruned_slots nx gone ss) m)))) pruned_long
      ∙ ap (λ (s : Slot). any_dead gone (chain nx (length ss + 1) (start_of m s))) (pruned_at_lem m)
      ∙ chain_after m (outcome nx gone ss m) l refl)
      (cases_lt (length ss) m)

  -- An outcome other than to stay changes the slot.

  pub shows : (m : ℕ) (o : Outcome) → outcome nx gone ss m ≡ o → slot_after o (slot_at ss m) ≡ slot_at ss m → o ≡ Stays
  shows m Stays e h = refl
  shows m Freed e h = clash _ (let d = outcome_unused m (sym h) in cc)
  shows m MadeDead e h = clash _ (let d = outcome_dead m (sym h) in cc)
  shows m (Redirected t) e h =
      let r = redirected m t e in
      let a : start_of m (slot_at ss m) ≡ t = ap (start_of m) (sym h) in
      let i = first nx gone (length ss + 1) (start_of m (slot_at ss m)) t r.2.0 r.2.1 in
      let to : nx m ≡ t = links.redirects m t (sym h) in
      let moved = i.moved r.1 in
      let nz : t ≡ 0 → ⊥ = (from_root nx (length ss + 1) m t (slot_at ss m) (links.redirects m) i.there).1.2 in
      let far : t ≡ walk nx (suc i.place) m = i.is ∙ ap (walk nx i.place) (a ∙ sym to) ∙ walk_shift nx i.place m in
      absurd (let w = (walks b ss nx law links.names (suc i.place) 1 m m r.0 r.0 (sym far ∙ sym to) (λ y. nz (far ∙ y))).1 in omega arith)

  -- A root that is unused afterwards was so before.

  pub root_unused : (m : ℕ) → is_heap_only (slot_at ss m) ≡ false → pruned_slot nx gone ss m ≡ unused → slot_at ss m ≡ unused
  root_unused m root e =
      let o = at_root m root in
      ⊎_elim
      (λ (a : any_dead gone (chain_of nx ss m) ≡ true).
      absurd (leads_somewhere (left gone (chain_of nx ss m)) (slot_at ss m)
      (ap (λ (x : Outcome). slot_after x (slot_at ss m)) (sym (o ∙ cond-true (any_dead gone (chain_of nx ss m)) (leads_to (left gone (chain_of nx ss m))) Stays a)) ∙ e)))
      (λ (a : any_dead gone (chain_of nx ss m) ≡ false).
      ap (λ (x : Outcome). slot_after x (slot_at ss m)) (sym (o ∙ cond-false (any_dead gone (chain_of nx ss m)) (leads_to (left gone (chain_of nx ss m))) Stays a)) ∙ e)
      (cases_Bool (any_dead gone (chain_of nx ss m)))
    where
      leads_somewhere : (ms : List ℕ) (s : Slot) → slot_after (leads_to ms) s ≡ unused → ⊥
      leads_somewhere [] s h = clash _ (cc)
      leads_somewhere (t ∷ ts) s h = clash _ (cc)
