-- The walk along a chain.
use Rattle.std.proofs.Common.{◌≡◌, ℕ, zero, suc, ◌-◌, ◌<◌, ◌≤◌, Bool, true, false, ◌⊎◌, List, [], ◌∷◌, cond, unwrap_or, Some, None, Option, sym, refl, ap, ◌∙◌, ⊎_elim, arith}
use Rattle.std.proofs.lemmas.Bool.{cond-true, cond-false}
use Rattle.std.specs.Bool.{then_some}
use Rattle.page.specs.Headers.{count_of}
use Rattle.page.specs.LinePointers.{pointer_at}
use Rattle.page.specs.Slots.{Slot, slot_of, slot_no}
use Rattle.page.specs.Slots.Slot.{unused, dead, redirect, holds}
use Rattle.page_check.proofs.Slots.{slot_no_in, slot_no_past}
use Rattle.xid.specs.Meaning.{Meaning}
use Rattle.xid.specs.declared.statuses.Status.{Status}
use Rattle.snapshot.specs.Snapshots.{SnapshotData}
use Rattle.heap_read.specs.Reading.{visible_slot}
use Rattle.heap_read.proofs.Shown.{shown}
use Rattle.page_laws.specs.Chains.{chain}
use Rattle.heap_read.specs.Links.{links_on, link_in, link_from, link_at, first_in}

reached_step : (nx : ℕ → ℕ) (left at : ℕ) → 1 ≤ left → 1 ≤ at → chain nx left at ≡ at ∷ chain nx (left - 1) (nx at)
reached_step nx zero at a b = absurd (omega arith)
reached_step nx (suc k) zero a b = absurd (omega arith)
reached_step nx (suc k) (suc m) a b = let e : k ≡ suc k - 1 = omega arith in ap (λ (j : ℕ). suc m ∷ chain nx j (nx (suc m))) e

reached_none : (nx : ℕ → ℕ) (left : ℕ) → chain nx left 0 ≡ []
reached_none nx zero = refl
reached_none nx (suc k) = refl

module _ (see : ℕ → Bool) (nx : ℕ → ℕ) where
  pub walk_hit : (left at : ℕ) → 1 ≤ left → 1 ≤ at → true ≡ see at → Some at ≡ first_in see (chain nx left at)
  walk_hit left at a b e =
      sym (ap (first_in see) (reached_step nx left at a b) ∙ cond-true (see at) (Some at) (first_in see (chain nx (left - 1) (nx at))) (sym e))

  pub walk_on : (left at : ℕ) → 1 ≤ left → 1 ≤ at → false ≡ see at → first_in see (chain nx left at) ≡ first_in see (chain nx (left - 1) (nx at))
  walk_on left at a b e =
      ap (first_in see) (reached_step nx left at a b) ∙ cond-false (see at) (Some at) (first_in see (chain nx (left - 1) (nx at))) (sym e)

  pub walk_nowhere : (left : ℕ) → first_in see (chain nx left 0) ≡ None
  walk_nowhere left = ap (first_in see) (reached_none nx left)

-- past the last pointer nothing is seen, and nothing is linked to
module _ (told : ℕ → Status) (s : SnapshotData) (b : ℕ) (p : List ℕ) where
  abbrev pub sees : ℕ → Bool
  sees n = visible_slot told s (slot_no p n)

  -- what is still ahead of the walk at a number
  abbrev pub ahead : ℕ → ℕ → Option ℕ
  ahead left at = first_in sees (chain (link_at told b p) left at)

  walk_past : (left at : ℕ) → count_of p < at → ahead left at ≡ None
  walk_past zero at l = refl
  walk_past (suc k) at l =
      let e = slot_no_past p at l in
      walk_on sees (link_at told b p) (suc k) at (omega arith) (omega arith) (sym (ap (visible_slot told s) e))
      ∙ ap (λ (t : ℕ). first_in sees (chain (link_at told b p) (suc k - 1) t)) (ap (link_from told b (slot_no p)) e)
      ∙ walk_nowhere sees (link_at told b p) (suc k - 1)

  -- the walk ends where its steps are used up, or where it stands at no pointer
  pub walk_end : (left at : ℕ) → (left ≡ 0) ⊎ ((at ≡ 0) ⊎ (count_of p < at)) → ahead left at ≡ None
  walk_end left at h =
      ⊎_elim
      (λ (e : left ≡ 0). rw e refl)
      (⊎_elim (λ (e : at ≡ 0). rw e (walk_nowhere sees (link_at told b p) left)) (λ l. walk_past left at l))
      h

-- a link as a number, 0 for none
pub link_number : (told : ℕ → Status) (b : ℕ) (slot : ℕ → Slot) (s : Slot) → unwrap_or (link_in told b slot s) 0 ≡ link_from told b slot s
link_number told b slot unused = refl
link_number told b slot dead = refl
link_number told b slot (redirect t) = refl
link_number told b slot (holds v) =
    elim (links_on told b slot v) as (λ l. unwrap_or (then_some l v.ctid.pointer) 0 ≡ cond l v.ctid.pointer 0) [ true ↦ refl | false ↦ refl ]

-- the link that is asked for by its pointer is that of its slot, also with a source that means the same
pub linked : (m n : Meaning) (b : ℕ) (p : List ℕ) (i : ℕ) (r : Option ℕ) → n ≡ m → 1 ≤ i → i ≤ count_of p
    → r ≡ link_in n.status b (slot_no p) (slot_of p (pointer_at p i)) → unwrap_or r 0 ≡ link_at m.status b p i
linked m n b p i r e x y h =
    ap (λ (o : Option ℕ). unwrap_or o 0) h ∙ link_number n.status b (slot_no p) (slot_of p (pointer_at p i))
    ∙ ap (λ (x : Meaning). link_from x.status b (slot_no p) (slot_of p (pointer_at p i))) e ∙ ap (link_from m.status b (slot_no p)) (sym (slot_no_in p i x y))

-- a step of the walk, as it is asked of sources that mean the same
module _ (m n : Meaning) (s : SnapshotData) (b : ℕ) (p : List ℕ) (left at : ℕ) (kept : n ≡ m) (first : 1 ≤ at) (last : at ≤ count_of p) (more : 1 ≤ left) where
  pub step_hit : true ≡ visible_slot n.status s (slot_of p (pointer_at p at)) → Some at ≡ ahead m.status s b p left at
  step_hit h = walk_hit (sees m.status s b p) (link_at m.status b p) left at more first (shown m n s p at true kept first last h)

  pub step_on : (o : Meaning) (r : Option ℕ) (k : ℕ) → false ≡ visible_slot n.status s (slot_of p (pointer_at p at)) → o ≡ n
      → r ≡ link_in o.status b (slot_no p) (slot_of p (pointer_at p at)) → k ≡ left - 1 → ahead m.status s b p k (unwrap_or r 0) ≡ ahead m.status s b p left at
  step_on o r k h e f g =
      rw (g, linked m o b p at r (e ∙ kept) first last f) (sym (walk_on (sees m.status s b p) (link_at m.status b p) left at more first (shown m n s p at false kept first last h)))
