-- The loops over the outcomes, in plain variables; and outcomes that agree on the pointers of a page.
use Rattle.std.proofs.Common.{◌≡◌, ℕ, zero, suc, ◌+◌, ◌<◌, ◌≤◌, Bool, cond, ◌||◌, List, length, sym, refl, ap, ◌∙◌, subst, arith}
use Rattle.page.specs.Headers.{count_of}
use Rattle.page.specs.LinePointers.{pointer_at}
use Rattle.page.specs.Slots.{Slot, slot_of, slot_at, view_of}
use Rattle.page_check.proofs.Slots.{slot_no_in}
use Rattle.page_laws.proofs.Views.{view_at, view_length}
use Rattle.page_compact.specs.Compaction.{LawfulPage, compacted}
use Rattle.page_check.specs.All.{count_to}
use Rattle.page_check.proofs.Ranges.{any_list, count_list}
use Rattle.std.specs.List.{range_with_len, count_by}
use Rattle.page_prune.specs.Pruned.{Prunable, outcome, slot_after, is_change, changed_by, loses_version, becomes_dead, removed_by, made_dead_by, repointed, repoint_to, pruned_by}
use Rattle.page_prune.specs.Marking.{pruned_along}
use Rattle.page_prune.specs.declared.outcomes.Outcome.{Outcome}
use Rattle.page_prune.proofs.Whole.{repointed_lawful}

-- the slot of a pointer of the page
pub slot_at_lem : (p : List ℕ) (n : ℕ) → 1 ≤ n → n ≤ count_of p → slot_of p (pointer_at p n) ≡ slot_at (view_of p) n
slot_at_lem p n a b = sym (slot_no_in p n a b) ∙ sym (view_at p n)

-- a count over the numbers of a page, by the slots
count_as : (f g : ℕ → Bool) (n : ℕ) → ((k : ℕ) → k < n → f (k + 1) ≡ g (k + 1)) → count_to f n ≡ count_to g n
count_as f g zero h = refl
count_as f g (suc n) h =
    ap (λ (b : Bool). cond b 1 0 + count_to f n) (h n (omega arith)) ∙ ap (λ (c : ℕ). cond (g (n + 1)) 1 0 + c) (count_as f g n (λ k l. h k (omega arith)))

pub count_slots : (f : ℕ → Slot → Bool) (p : List ℕ)
    → count_by (λ n. f n (slot_of p (pointer_at p n))) (range_with_len 1 (count_of p)) ≡ count_to (λ n. f n (slot_at (view_of p) n)) (length (view_of p))
count_slots f p =
    count_list (λ n. f n (slot_of p (pointer_at p n))) (count_of p)
    ∙ count_as (λ n. f n (slot_of p (pointer_at p n))) (λ n. f n (slot_at (view_of p) n)) (count_of p)
    (λ k l. ap (f (k + 1)) (slot_at_lem p (k + 1) (omega arith) (omega arith)))
    ∙ ap (count_to (λ n. f n (slot_at (view_of p) n))) (sym (view_length p))

pub pruned_along_is : (p : List ℕ) (os : ℕ → Outcome) → pruned_along os p ≡ pruned_by os p
pruned_along_is p os = ap (λ (b : Bool). cond b (compacted (repoint_to p os (count_of p))) p) (any_list (λ n. is_change (os n)) (count_of p))

-- Outcomes that agree from 1 to n.

abbrev pub Agree : (ℕ → Outcome) → (ℕ → Outcome) → ℕ → Type 0
Agree os os' n = (k : ℕ) → k < n → os (k + 1) ≡ os' (k + 1)

changed_same : (os os' : ℕ → Outcome) (n : ℕ) → Agree os os' n → changed_by os n ≡ changed_by os' n
changed_same os os' zero h = refl
changed_same os os' (suc n) h =
    ap (λ (o : Outcome). is_change o || changed_by os n) (h n (omega arith)) ∙ ap (λ (b : Bool). is_change (os' (n + 1)) || b) (changed_same os os' n (λ k l. h k (omega arith)))

repoint_same : (p : List ℕ) (os os' : ℕ → Outcome) (n : ℕ) → Agree os os' n → repoint_to p os n ≡ repoint_to p os' n
repoint_same p os os' zero h = refl
repoint_same p os os' (suc n) h =
    ap (λ (o : Outcome). repointed (repoint_to p os n) (n + 1) o) (h n (omega arith)) ∙ ap (λ (q : List ℕ). repointed q (n + 1) (os' (n + 1))) (repoint_same p os os' n (λ k l. h k (omega arith)))

count_same : (f : ℕ → Outcome → Bool) (os os' : ℕ → Outcome) (n : ℕ) → Agree os os' n → count_to (λ k. f k (os k)) n ≡ count_to (λ k. f k (os' k)) n
count_same f os os' n h = count_as (λ k. f k (os k)) (λ k. f k (os' k)) n (λ k l. ap (f (k + 1)) (h k l))

-- outcomes as good as those of the definition
module _ (p : List ℕ) (os os' : ℕ → Outcome) (h : Agree os os' (count_of p)) where
  pub pruned_same : pruned_by os p ≡ pruned_by os' p
  pruned_same =
      ap (λ (b : Bool). cond b (compacted (repoint_to p os (count_of p))) p) (changed_same os os' (count_of p) h)
      ∙ ap (λ (q : List ℕ). cond (changed_by os' (count_of p)) (compacted q) p) (repoint_same p os os' (count_of p) h)

  agree : Agree os os' (length (view_of p))
  agree k l = h k (let e = view_length p in omega arith)

  pub removed_same : removed_by os (view_of p) ≡ removed_by os' (view_of p)
  removed_same = count_same (λ n o. loses_version (slot_at (view_of p) n) (slot_after o (slot_at (view_of p) n))) os os' (length (view_of p)) agree

  pub dead_same : made_dead_by os (view_of p) ≡ made_dead_by os' (view_of p)
  dead_same = count_same (λ n o. becomes_dead (slot_at (view_of p) n) (slot_after o (slot_at (view_of p) n))) os os' (length (view_of p)) agree

pub lawful_repointed : (p : List ℕ) (nx : ℕ → ℕ) (gone : ℕ → Bool) (os : ℕ → Outcome) → length p ≡ 8192 → Prunable p nx → Agree os (outcome nx gone (view_of p)) (count_of p)
    → LawfulPage (repoint_to p os (count_of p))
lawful_repointed p nx gone os len h a =
    subst (λ (q : List ℕ). LawfulPage q) (sym (repoint_same p os (outcome nx gone (view_of p)) (count_of p) a))
    (record { kinds = h.kinds; block = h.block; lawful = repointed_lawful h.kinds h.block nx gone p len h.lawful h.links })
