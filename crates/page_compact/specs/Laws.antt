-- What compaction keeps, and what it makes of the room.
use Rattle.std.specs.Prelude.{◌≡◌, ℕ, ◌+◌, ◌-◌, ◌<◌, ◌≤◌, true, List, length, sum_by, slice_index}
use Rattle.page.specs.Headers.{header_of, count_of}
use Rattle.page.specs.LinePointers.{pointer_at}
use Rattle.page.specs.Slots.{Slot, view_of}
use Rattle.page.specs.Slots.Slot.{unused, dead, redirect, holds}
use Rattle.page.specs.declared.kinds.Kind.{Kind}
use Rattle.page.specs.declared.line_pointers.Pointer.{Pointer}
use Rattle.page.specs.declared.line_pointers.Pointer.TheVariants.{Unused, Normal, Redirect, Dead}
use Rattle.page_check.specs.Lawful.{is_lawful}
use Rattle.page_laws.specs.Windows.{Same}
use Rattle.page_room.specs.Room.{up8}
use Rattle.page_compact.specs.Compaction.{compacted}

-- how many bytes the version of a slot takes, with its padding
abbrev pub slot_size : Slot → ℕ
slot_size unused = 0
slot_size dead = 0
slot_size (redirect t) = 0
slot_size (holds v) = up8 (24 + length v.row)

-- the bytes behind the version of a pointer, up to the next multiple of 8, are zero
abbrev pub Padded : List ℕ → Pointer → Type 0
Padded p Unused = Unit {0}
Padded p (Normal o n) = (k : ℕ) → o + n ≤ k → k < o + up8 n → slice_index p k ≡ 0
Padded p (Redirect t) = Unit {0}
Padded p Dead = Unit {0}

-- q is the page p of block b with its versions laid anew: no slot changes, it stays lawful, the header stays but for upper,
-- upper is told by the slots, and the room between the pointers and the versions and all padding are zero
pub record Compacts (kinds : List Kind) (b : ℕ) (p q : List ℕ) : Type 0 where
  pub view : view_of q ≡ view_of p
  pub lawful : is_lawful kinds b q ≡ true
  pub header : Same 0 14 q p × Same 16 24 q p
  pub upper : (header_of q).upper ≡ 8192 - sum_by slot_size (view_of p)
  pub room : (k : ℕ) → (header_of q).lower ≤ k → k < (header_of q).upper → slice_index q k ≡ 0
  pub padding : (n : ℕ) → 1 ≤ n → n ≤ count_of q → Padded q (pointer_at q n)

abbrev pub CompactionKeeps : Type 0
CompactionKeeps = (kinds : List Kind) (b : ℕ) (p : List ℕ) → length p ≡ 8192 → is_lawful kinds b p ≡ true → Compacts kinds b p (compacted p)
