-- A page as a list of slots: what each line pointer stands for, its version decoded.
use Rattle.std.specs.Prelude.{ℕ, zero, suc, Bool, cond, ◌&&◌, List, map, None, Option, nat_le, slice_index_or}
use Rattle.std.specs.List.{range_with_len}
use Rattle.std.specs.Option.{option_map}
use Rattle.page.specs.Headers.{count_of}
use Rattle.page.specs.LinePointers.{pointer_at}
use Rattle.page.specs.Versions.{header_at, version_at, row_of, has_mark}
use Rattle.page.specs.declared.line_pointers.Pointer.{Pointer}
use Rattle.page.specs.declared.line_pointers.Pointer.TheVariants.{Unused, Normal, Redirect, Dead}
use Rattle.page.specs.declared.versions.Address.{Address}
use Rattle.page.specs.declared.versions.VersionHeader.{VersionHeader}
use Rattle.page.specs.declared.versions.Mark.TheVariants.{CreatorCommitted, CreatorInvalid, RemoverCommitted, RemoverInvalid, Updated, HotUpdated, HeapOnly}

pub record Version : Type 0 where
  pub creator : ℕ
  pub remover : ℕ
  pub creator_committed : Bool
  pub creator_invalid : Bool
  pub remover_committed : Bool
  pub remover_invalid : Bool
  pub updated : Bool
  pub hot_updated : Bool
  pub heap_only : Bool
  pub ctid : Address
  pub row : List ℕ

pub data Slot : Type 0 where
  unused : Slot
  dead : Slot
  redirect : ℕ → Slot
  holds : Version → Slot

abbrev pub decoded : VersionHeader → List ℕ → Version
decoded v row = record {
  creator = v.creator;
  remover = v.remover;
  creator_committed = has_mark v CreatorCommitted;
  creator_invalid = has_mark v CreatorInvalid;
  remover_committed = has_mark v RemoverCommitted;
  remover_invalid = has_mark v RemoverInvalid;
  updated = has_mark v Updated;
  hot_updated = has_mark v HotUpdated;
  heap_only = has_mark v HeapOnly;
  ctid = v.ctid;
  row = row;
}

abbrev pub slot_of : List ℕ → Pointer → Slot
slot_of p Unused = unused
slot_of p (Normal o n) = holds (decoded (header_at p o) (row_of p o n))
slot_of p (Redirect t) = redirect t
slot_of p Dead = dead

-- the slot of number n: unused where n is 0 or past the last pointer
abbrev pub slot_no : List ℕ → ℕ → Slot
slot_no p n = cond (nat_le 1 n && nat_le n (count_of p)) (slot_of p (pointer_at p n)) unused

-- the header of the version of number n, where there is one inside the page
abbrev pub header_in : List ℕ → Pointer → Option VersionHeader
header_in p Unused = None
header_in p (Normal o n) = version_at p o
header_in p (Redirect t) = None
header_in p Dead = None

abbrev pub header_no : List ℕ → ℕ → Option VersionHeader
header_no p n = cond (nat_le 1 n && nat_le n (count_of p)) (header_in p (pointer_at p n)) None

-- where the version of a pointer stands, and its header, where it has one inside the page
abbrev pub place_in : List ℕ → Pointer → Option (ℕ × VersionHeader)
place_in p Unused = None
place_in p (Normal o n) = option_map (λ v. (o, v)) (version_at p o)
place_in p (Redirect t) = None
place_in p Dead = None

-- all slots of a page, that of pointer 1 first
abbrev pub view_of : List ℕ → List Slot
view_of p = map (λ n. slot_of p (pointer_at p n)) (range_with_len 1 (count_of p))

-- the slot of a number in a list of slots
abbrev pub slot_at : List Slot → ℕ → Slot
slot_at ss zero = unused
slot_at ss (suc n) = slice_index_or ss n unused
