-- How versions hang together: links, roots and chains.
use Rattle.std.specs.Prelude.{◌≡◌, ℕ, suc, Bool, true, false, cond, not, ◌&&◌, ◌⊎◌, List, [], ◌∷◌, Some, None, Option, ◌==◌, slice_index_or}
use Rattle.std.specs.Bool.{then_some}
use Rattle.std.specs.Option.{option_map}
use Rattle.page.specs.Headers.{count_of}
use Rattle.page.specs.Slots.{Version, Slot, slot_no}
use Rattle.page.specs.Slots.Slot.{unused, dead, redirect, holds}
use Rattle.page_check.specs.Rules.{is_made_by, name_of}
use Rattle.xid.specs.declared.statuses.Status.{Status}
use Rattle.snapshot.specs.Snapshots.{SnapshotData}
use Rattle.heap_read.specs.Fates.{creator_fate, remover_fate}
use Rattle.page.specs.declared.versions.Address.{Address}
use Rattle.page_laws.specs.Chains.{chain}
use Rattle.heap_read.specs.Reading.{visible_slot, address_in}
use Rattle.heap_read.specs.declared.fates.CreatorFate.{CreatorFate}
use Rattle.heap_read.specs.declared.fates.CreatorFate.TheVariants as creator
use Rattle.heap_read.specs.declared.fates.RemoverFate.{RemoverFate}
use Rattle.heap_read.specs.declared.fates.RemoverFate.TheVariants as remover

abbrev pub is_aborted : CreatorFate → Bool
is_aborted creator.Frozen = false
is_aborted creator.Committed = false
is_aborted creator.Aborted = true
is_aborted creator.Open = false
is_aborted creator.Unknown = false

abbrev pub is_none : RemoverFate → Bool
is_none remover.None = true
is_none remover.Pending = false
is_none remover.Committed = false
is_none remover.Unknown = false

-- a version of block b names the one at its ctid: it is HOT-updated, and its ctid is that of a heap-only version of its page whose
-- creator is its remover
abbrev pub names_on : ℕ → (ℕ → Slot) → Version → Bool
names_on b slot v = v.hot_updated && v.ctid.block == b && is_made_by v.remover (slot v.ctid.pointer)

-- it links on to what it names if its creator is not aborted and its remover is not none
abbrev pub links_on : (ℕ → Status) → ℕ → (ℕ → Slot) → Version → Bool
links_on told b slot v = names_on b slot v && not (is_aborted (creator_fate told v)) && not (is_none (remover_fate told v))

-- the pointer that a slot links to
abbrev pub link_in : (ℕ → Status) → ℕ → (ℕ → Slot) → Slot → Option ℕ
link_in told b slot unused = None
link_in told b slot dead = None
link_in told b slot (redirect t) = Some t
link_in told b slot (holds v) = then_some (links_on told b slot v) v.ctid.pointer

-- the same as a number, 0 for none
abbrev pub link_from : (ℕ → Status) → ℕ → (ℕ → Slot) → Slot → ℕ
link_from told b slot unused = 0
link_from told b slot dead = 0
link_from told b slot (redirect t) = t
link_from told b slot (holds v) = cond (links_on told b slot v) v.ctid.pointer 0

-- what can be said of a link without asking the source: it leads along the names of the page, or nowhere
abbrev pub LeadsAlong : ℕ → (ℕ → Slot) → Slot → ℕ → Type 0
LeadsAlong b slot unused r = r ≡ 0
LeadsAlong b slot dead r = r ≡ 0
LeadsAlong b slot (redirect t) r = r ≡ t
LeadsAlong b slot (holds v) r = (r ≡ 0) ⊎ (r ≡ name_of b slot (holds v))

abbrev pub link_at : (ℕ → Status) → ℕ → List ℕ → ℕ → ℕ
link_at told b p n = link_from told b (slot_no p) (slot_no p n)

-- a root: a redirect, a dead pointer, or a version that is not heap-only
abbrev pub is_root : Slot → Bool
is_root unused = false
is_root dead = true
is_root (redirect t) = true
is_root (holds v) = not v.heap_only

-- the first of a list that passes a test
abbrev pub first_in : (ℕ → Bool) → List ℕ → Option ℕ
first_in f [] = None
first_in f (x ∷ xs) = cond (f x) (Some x) (first_in f xs)

-- the first visible version that is reached from a root: a chain has no more members than the page has pointers
abbrev pub fetch_on : (ℕ → Status) → SnapshotData → ℕ → List ℕ → ℕ → Option ℕ
fetch_on told s b p root =
    first_in (λ n. visible_slot told s (slot_no p n)) (chain (link_at told b p) (suc (count_of p)) root)

-- the same by the address of the root, in the heap
abbrev pub fetch_in : (ℕ → Status) → SnapshotData → List (List ℕ) → Address → Option Address
fetch_in told s pages root = option_map (address_in root.block) (fetch_on told s root.block (slice_index_or pages root.block []) root.pointer)
