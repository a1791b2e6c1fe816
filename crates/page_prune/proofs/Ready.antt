-- What the code may rely on: a lawful page, and links along its names.
use Rattle.std.proofs.Common.{◌≡◌, ℕ, ◌+◌, ◌<◌, ◌≤◌, Bool, true, false, List, length, set, sym, ap, ◌∙◌, ⊎_elim, arith}
use Rattle.std.proofs.lemmas.List.{get_or-set_same, get_or-set_other}
use Rattle.std.proofs.lemmas.Bool.{cases_eq, cond-true, cond-false}
use Rattle.page_check.specs.Rules.{is_heap_only}
use Rattle.page_prune.specs.Marking.{is_chained, is_lost, Marked}
use Rattle.page_prune.specs.declared.marks.ChainMark.{ChainMark}
use Rattle.page_prune.specs.declared.outcomes.Outcome.{Outcome}
use Rattle.page_prune.specs.declared.outcomes.Outcome.TheVariants.{Stays}
use Rattle.page.specs.Headers.{count_of}
use Rattle.page.specs.LinePointers.{pointer_at}
use Rattle.page.specs.Slots.{slot_of, slot_at, view_of}
use Rattle.page_check.specs.Marking.{AllLie}
use Rattle.page_laws.specs.Keeps.{Keeps}
use Rattle.page_laws.proofs.Facts.{lawful_tells}
use Rattle.page_laws.proofs.Views.{view_length}
use Rattle.page_laws.proofs.Own.{keeps_lie}
use Rattle.page_laws.specs.Chains.{chain}
use Rattle.page_prune.specs.Chains.{start_of, chain_of, chained_in, lost_in}
use Rattle.page_prune.specs.Pruned.{Prunable, outcome, outcome_in, root_outcome, heap_only_outcome}
use Rattle.page_prune.proofs.Names.{Named, link_small}
use Rattle.page_prune.proofs.Left.{start_small}
use Rattle.page_prune.proofs.Counts.{slot_at_lem}
use Rattle.page_prune.proofs.Whole.{view_named}

module _ (p : List ℕ) (nx : ℕ → ℕ) (h : Prunable p nx) where
  keeps : Keeps h.kinds h.block p
  keeps = lawful_tells h.kinds h.block p h.lawful

  named : Named h.block (view_of p)
  named = view_named h.kinds h.block p keeps

  pub few : count_of p ≤ 291
  few = keeps.header.pointer_limit

  pub lie : AllLie p
  lie = keeps_lie h.kinds h.block p keeps

  pub within : (m : ℕ) → nx m ≤ 291
  within m = let a = link_small h.block (view_of p) nx named h.links.names m in let b = view_length p in let d = few in omega arith

  pub small : (n : ℕ) → 1 ≤ n → n ≤ count_of p → start_of n (slot_of p (pointer_at p n)) ≤ 291
  small n a b =
      let e = ap (start_of n) (slot_at_lem p n a b) in let l = view_length p in let d = few in
      let s = start_small h.block (view_of p) nx named h.links n (omega arith) in omega arith

-- the chain that the code walks
pub chain_is : (p : List ℕ) (nx : ℕ → ℕ) (n a : ℕ) → 1 ≤ n → n ≤ count_of p → a ≡ start_of n (slot_of p (pointer_at p n)) → chain nx (count_of p + 1) a ≡ chain_of nx (view_of p) n
chain_is p nx n a x y s =
    ap (λ (k : ℕ). chain nx (k + 1) a) (sym (view_length p)) ∙ ap (chain nx (length (view_of p) + 1)) (s ∙ ap (start_of n) (slot_at_lem p n x y))

-- What becomes of a pointer, by the marks and by its chain.
module _ (p : List ℕ) (nx : ℕ → ℕ) (gone : ℕ → Bool) (n : ℕ) (a : 1 ≤ n) (b : n ≤ count_of p) (r : Outcome) where
  pub heap_only_decided : (ms : List ChainMark) → n ≤ 291 → Marked nx gone (view_of p) ms → true ≡ is_heap_only (slot_of p (pointer_at p n))
      → r ≡ heap_only_outcome (is_lost ms n) (is_chained ms n) (gone n) → r ≡ outcome nx gone (view_of p) n
  heap_only_decided ms l m h e =
      e ∙ ap (λ (c : Bool). heap_only_outcome c (is_chained ms n) (gone n)) (m.lost n l)
      ∙ ap (λ (c : Bool). heap_only_outcome (lost_in nx gone (view_of p) n) c (gone n)) (m.chained n l)
      ∙ sym (cond-true (is_heap_only (slot_at (view_of p) n)) (heap_only_outcome (lost_in nx gone (view_of p) n) (chained_in nx (view_of p) n) (gone n))
      (root_outcome gone (chain_of nx (view_of p) n)) (sym (h ∙ ap is_heap_only (slot_at_lem p n a b))))

  pub root_decided : false ≡ is_heap_only (slot_of p (pointer_at p n)) → r ≡ root_outcome gone (chain_of nx (view_of p) n) → r ≡ outcome nx gone (view_of p) n
  root_decided h e =
      e ∙ sym (cond-false (is_heap_only (slot_at (view_of p) n)) (heap_only_outcome (lost_in nx gone (view_of p) n) (chained_in nx (view_of p) n) (gone n))
      (root_outcome gone (chain_of nx (view_of p) n)) (sym (h ∙ ap is_heap_only (slot_at_lem p n a b))))

-- One pointer more is decided.
pub decide_more : (os : List Outcome) (f : ℕ → Outcome) (n : ℕ) (v : Outcome) → n < length os → ((k : ℕ) → 1 ≤ k → k < n → outcome_in os k ≡ f k) → v ≡ f n
    → (k : ℕ) → 1 ≤ k → k < n + 1 → outcome_in (set os n v) k ≡ f k
decide_more os f n v l h e k o m =
    ⊎_elim
    (λ (y : k ≡ n). rw y (get_or-set_same os n v Stays l ∙ e))
    (λ (y : k ≡ n → ⊥). get_or-set_other os n k v Stays y ∙ h k o (omega arith))
    (cases_eq k n)
