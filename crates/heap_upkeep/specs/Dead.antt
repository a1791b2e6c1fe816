-- Dead versions, and the table by which a page is pruned.
use Rattle.std.specs.Prelude.{◌≡◌, ℕ, Bool, true, false, ◌&&◌, ◌||◌, List, slice_index_or}
use Rattle.page.specs.Slots.{Version, Slot, slot_no}
use Rattle.page.specs.Slots.Slot.{unused, dead, redirect, holds}
use Rattle.page_prune.specs.Members.{no_member, next_in}
use Rattle.page_prune.specs.declared.chains.Member.{Member}
use Rattle.xid.specs.Numbers.{precedes}
use Rattle.xid.specs.declared.statuses.Status.{Status}
use Rattle.heap_read.specs.Fates.{creator_fate, remover_fate}
use Rattle.heap_read.specs.Links.{is_aborted, link_in, LeadsAlong}
use Rattle.heap_read.specs.declared.fates.CreatorFate.{CreatorFate}
use Rattle.heap_read.specs.declared.fates.CreatorFate.TheVariants as creator
use Rattle.heap_read.specs.declared.fates.RemoverFate.{RemoverFate}
use Rattle.heap_read.specs.declared.fates.RemoverFate.TheVariants as remover

-- committed or frozen
abbrev pub is_made : CreatorFate → Bool
is_made creator.Frozen = true
is_made creator.Committed = true
is_made creator.Aborted = false
is_made creator.Open = false
is_made creator.Unknown = false

abbrev pub is_removed : RemoverFate → Bool
is_removed remover.None = false
is_removed remover.Pending = false
is_removed remover.Committed = true
is_removed remover.Unknown = false

-- the creator is aborted, or is committed or frozen with a committed remover that precedes the horizon
abbrev pub is_dead : (ℕ → Status) → ℕ → Version → Bool
is_dead told h v =
    is_aborted (creator_fate told v)
    || (is_made (creator_fate told v) && precedes v.remover h && is_removed (remover_fate told v))

abbrev pub dead_slot : (ℕ → Status) → ℕ → Slot → Bool
dead_slot told h unused = false
dead_slot told h dead = false
dead_slot told h (redirect t) = false
dead_slot told h (holds v) = is_dead told h v

-- what a slot links to, and whether its version is dead
abbrev pub member_of : (ℕ → Status) → ℕ → ℕ → (ℕ → Slot) → Slot → Member
member_of told h b slot s = record { next = link_in told b slot s; dead = dead_slot told h s }

-- the table has that of each number
abbrev pub TellsMembers : (ℕ → Status) → ℕ → ℕ → List ℕ → List Member → Type 0
TellsMembers told h b p table = (n : ℕ) → slice_index_or table n no_member ≡ member_of told h b (slot_no p) (slot_no p n)

-- whatever a source says, it leads along the names of the page
abbrev pub AlongNames : ℕ → List ℕ → List Member → Type 0
AlongNames b p table = (n : ℕ) → LeadsAlong b (slot_no p) (slot_no p n) (next_in table n)
