-- What a prune keeps, and what it reaches.
use Rattle.std.specs.Prelude.{◌≡◌, ℕ, ◌-◌, ◌<◌, ◌≤◌, Bool, true, false, List, length, sum_by, ◌≢◌, slice_index}
use Rattle.page.specs.Headers.{header_of, count_of}
use Rattle.page.specs.LinePointers.{pointer_at}
use Rattle.page.specs.Slots.{slot_at, view_of}
use Rattle.page.specs.Slots.Slot.{unused}
use Rattle.page.specs.declared.kinds.Kind.{Kind}
use Rattle.page_check.specs.Rules.{is_heap_only}
use Rattle.page_check.specs.Lawful.{is_lawful}
use Rattle.page_laws.specs.Windows.{Same}
use Rattle.page_compact.specs.Laws.{slot_size, Padded}
use Rattle.page_prune.specs.Chains.{Links, walk, start_of, any_dead, chain_of}
use Rattle.page_prune.specs.Pruned.{outcome, pruned_slots, pruned_page, changed_by}

abbrev pub changed : (ℕ → ℕ) → (ℕ → Bool) → List ℕ → Bool
changed nx is_dead p = changed_by (outcome nx is_dead (view_of p)) (count_of p)

-- q is the page p of block b after a prune: its slots are the pruned ones, it is lawful, and its header stays but for upper;
-- where no pointer changed it is as it was, to the byte; otherwise upper is told by the slots, and the room and all padding
-- are zero
pub record Prunes (kinds : List Kind) (b : ℕ) (nx : ℕ → ℕ) (is_dead : ℕ → Bool) (p q : List ℕ) : Type 0 where
  pub view : view_of q ≡ pruned_slots nx is_dead (view_of p)
  pub lawful : is_lawful kinds b q ≡ true
  pub header : Same 0 14 q p × Same 16 24 q p
  pub untouched : changed nx is_dead p ≡ false → q ≡ p
  pub upper : changed nx is_dead p ≡ true → (header_of q).upper ≡ 8192 - sum_by slot_size (view_of q)
  pub room : changed nx is_dead p ≡ true → (k : ℕ) → (header_of q).lower ≤ k → k < (header_of q).upper → slice_index q k ≡ 0
  pub padding : changed nx is_dead p ≡ true → (n : ℕ) → 1 ≤ n → n ≤ count_of q → Padded q (pointer_at q n)

-- of every lawful page of every block, whatever is dead and whichever of the names are links
abbrev pub ForAll : ((kinds : List Kind) (b : ℕ) (nx : ℕ → ℕ) (is_dead : ℕ → Bool) (p : List ℕ) → Type 0) → Type 0
ForAll Law = (kinds : List Kind) (b : ℕ) (nx : ℕ → ℕ) (is_dead : ℕ → Bool) (p : List ℕ)
    → length p ≡ 8192 → is_lawful kinds b p ≡ true → Links b (view_of p) nx → Law kinds b nx is_dead p

abbrev pub PruningKeeps : Type 0
PruningKeeps = ForAll (λ kinds b nx is_dead p. Prunes kinds b nx is_dead p (pruned_page nx is_dead p))

-- a chain ends after no more members than there are slots, so that the bound in its definition cuts none
abbrev pub ChainsEnd : Type 0
ChainsEnd = ForAll (λ kinds b nx is_dead p. (m : ℕ) → m ≤ count_of p → walk nx (length (view_of p)) (start_of m (slot_at (view_of p) m)) ≡ 0)

-- no chain has a dead member afterwards, first or not: what comes before a dead member goes with it
abbrev pub NothingDeadLeft : Type 0
NothingDeadLeft = ForAll (λ kinds b nx is_dead p. (m : ℕ) → any_dead is_dead (chain_of nx (view_of (pruned_page nx is_dead p)) m) ≡ false)

-- where a pointer counts as changed, the page's slots are others
abbrev pub ChangeShows : Type 0
ChangeShows = ForAll (λ kinds b nx is_dead p. changed nx is_dead p ≡ true → view_of (pruned_page nx is_dead p) ≢ view_of p)

-- a root never becomes unused: its number goes on to lead to its row, or says that it is dead
abbrev pub RootsStay : Type 0
RootsStay = ForAll (λ kinds b nx is_dead p. (m : ℕ) → is_heap_only (slot_at (view_of p) m) ≡ false
    → slot_at (view_of (pruned_page nx is_dead p)) m ≡ unused → slot_at (view_of p) m ≡ unused)
