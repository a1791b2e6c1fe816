-- What each rule of a lawful page asks.
use Rattle.std.specs.Prelude.{ℕ, zero, suc, ◌+◌, ◌-◌, ◌*◌, ◌/◌, ◌%◌, Bool, true, false, cond, not, ◌&&◌, ◌||◌, List, [], ◌∷◌, is_some, Some, None, Option, ◌==◌, nat_le, slice_index}
use Rattle.page.specs.Kinds.{body_len, fits}
use Rattle.page.specs.Headers.{header_of, pointer_count}
use Rattle.page.specs.LinePointers.{pointer_at}
use Rattle.page.specs.Versions.{weight, word_of, has_mark}
use Rattle.page.specs.Slots.{Slot, slot_no}
use Rattle.page.specs.Slots.Slot.{unused, dead, redirect, holds}
use Rattle.page.specs.declared.kinds.Kind.{Kind}
use Rattle.page.specs.declared.headers.PageHeader.{PageHeader}
use Rattle.page.specs.declared.line_pointers.State.{State}
use Rattle.page.specs.declared.line_pointers.State.TheVariants as state
use Rattle.page.specs.declared.line_pointers.LinePointer.{LinePointer}
use Rattle.page.specs.declared.line_pointers.Pointer.{Pointer}
use Rattle.page.specs.declared.line_pointers.Pointer.TheVariants.{Unused, Normal, Redirect, Dead}
use Rattle.page.specs.declared.versions.VersionHeader.{VersionHeader}
use Rattle.page.specs.declared.versions.Mark.{Mark}
use Rattle.page.specs.declared.versions.Mark.TheVariants.{CreatorCommitted, CreatorInvalid, RemoverCommitted, RemoverInvalid, Updated, HotUpdated, HeapOnly}
use Rattle.page_check.specs.All.{each}
use Rattle.page_check.specs.declared.rules.HeaderRule.{HeaderRule}
use Rattle.page_check.specs.declared.rules.HeaderRule.TheVariants.{SpecialAtEnd, LayoutVersion, NoFlags, LowerPastHeader, LowerByUpper, UpperInPage, WholePointers, UpperAligned, PointerLimit}
use Rattle.page_check.specs.declared.rules.PointerRule.{PointerRule}
use Rattle.page_check.specs.declared.rules.PointerRule.TheVariants.{UnusedIsZero, DeadIsZero, RedirectHasNoLength, OffsetAligned, AboveUpper, EndsInPage, HoldsKind, KnownKind, RowLength}
use Rattle.page_check.specs.declared.rules.VersionRule.{VersionRule}
use Rattle.page_check.specs.declared.rules.VersionRule.TheVariants.{HeaderLength, ZeroByte, OneAttribute, NamedBits, OneRemoverBit, CreatorIsNumber, RemoverIsNumber}
use Rattle.page_check.specs.declared.rules.PageRule.{PageRule}
use Rattle.page_check.specs.declared.rules.PageRule.TheVariants.{NoOverlap, RedirectTarget, NamedOnce}

-- The header.

abbrev pub header_holds : PageHeader → HeaderRule → Bool
header_holds h SpecialAtEnd = h.special == 8192
header_holds h LayoutVersion = h.version == 0x2004
header_holds h NoFlags = h.flags == 0
header_holds h LowerPastHeader = nat_le 24 h.lower
header_holds h LowerByUpper = nat_le h.lower h.upper
header_holds h UpperInPage = nat_le h.upper 8192
header_holds h WholePointers = (h.lower - 24) % 4 == 0
header_holds h UpperAligned = h.upper % 8 == 0
header_holds h PointerLimit = nat_le (pointer_count h) 291

abbrev pub header_rules : List HeaderRule
header_rules =
    SpecialAtEnd ∷ LayoutVersion ∷ NoFlags ∷ LowerPastHeader ∷ LowerByUpper ∷ UpperInPage ∷ WholePointers ∷ UpperAligned ∷ PointerLimit ∷ []

-- A line pointer by itself.

-- the kind of the row of the version at offset o
abbrev pub kind_at : List ℕ → ℕ → ℕ
kind_at p o = slice_index p (o + 24)

abbrev pub pointer_holds : List Kind → List ℕ → LinePointer → PointerRule → Bool
pointer_holds kinds p l UnusedIsZero = l.offset == 0 && l.len == 0
pointer_holds kinds p l DeadIsZero = l.offset == 0 && l.len == 0
pointer_holds kinds p l RedirectHasNoLength = l.len == 0
pointer_holds kinds p l OffsetAligned = l.offset % 8 == 0
pointer_holds kinds p l AboveUpper = nat_le (header_of p).upper l.offset
pointer_holds kinds p l EndsInPage = nat_le (l.offset + l.len) 8192
pointer_holds kinds p l HoldsKind = nat_le 25 l.len
pointer_holds kinds p l KnownKind = is_some (body_len kinds (kind_at p l.offset))
pointer_holds kinds p l RowLength = fits (body_len kinds (kind_at p l.offset)) (l.len - 25)

abbrev pub pointer_rules : State → List PointerRule
pointer_rules state.Unused = UnusedIsZero ∷ []
pointer_rules state.Dead = DeadIsZero ∷ []
pointer_rules state.Redirect = RedirectHasNoLength ∷ []
pointer_rules state.Normal = OffsetAligned ∷ AboveUpper ∷ EndsInPage ∷ HoldsKind ∷ KnownKind ∷ RowLength ∷ []

-- the rules on the row of a version of the length n whose kind is k
abbrev pub row_break : List Kind → ℕ → ℕ → Option PointerRule
row_break kinds k n = cond (is_some (body_len kinds k)) (cond (fits (body_len kinds k) (n - 25)) None (Some RowLength)) (Some KnownKind)

-- The header of a version.

-- what a mark adds to its word where it is set
abbrev pub part : VersionHeader → Mark → ℕ
part v m = word_of v m / weight m % 2 * weight m

-- the two words are their named bits alone, beside the attribute count in the low 11 bits of infomask2
abbrev pub only_named_bits : VersionHeader → Bool
only_named_bits v =
    (v.infomask == part v CreatorCommitted + part v CreatorInvalid + part v RemoverCommitted + part v RemoverInvalid + part v Updated)
    && v.infomask2 == v.infomask2 % 2048 + part v HotUpdated + part v HeapOnly

abbrev pub version_holds : VersionHeader → VersionRule → Bool
version_holds v HeaderLength = v.hoff == 24
version_holds v ZeroByte = v.zero == 0
version_holds v OneAttribute = v.infomask2 % 2048 == 1
version_holds v NamedBits = only_named_bits v
version_holds v OneRemoverBit = not (has_mark v RemoverCommitted && has_mark v RemoverInvalid)
version_holds v CreatorIsNumber = nat_le 3 v.creator
version_holds v RemoverIsNumber = nat_le 3 v.remover || (v.remover == 0 && has_mark v RemoverInvalid)

-- only a normal pointer has a version
abbrev pub version_rules : State → List VersionRule
version_rules state.Unused = []
version_rules state.Dead = []
version_rules state.Redirect = []
version_rules state.Normal =
    HeaderLength ∷ ZeroByte ∷ OneAttribute ∷ NamedBits ∷ OneRemoverBit ∷ CreatorIsNumber ∷ RemoverIsNumber ∷ []

-- A line pointer among the others.

-- two versions, each rounded up to 8, share no byte
abbrev pub apart : Pointer → Pointer → Bool
apart Unused b = true
apart (Normal o n) Unused = true
apart (Normal o n) (Normal o' n') = nat_le ((o + n + 7) / 8 * 8) o' || nat_le ((o' + n' + 7) / 8 * 8) o
apart (Normal o n) (Redirect t) = true
apart (Normal o n) Dead = true
apart (Redirect t) b = true
apart Dead b = true

-- a heap-only version
abbrev pub is_heap_only : Slot → Bool
is_heap_only unused = false
is_heap_only dead = false
is_heap_only (redirect t) = false
is_heap_only (holds v) = v.heap_only

-- a heap-only version with the creator x
abbrev pub is_made_by : ℕ → Slot → Bool
is_made_by x unused = false
is_made_by x dead = false
is_made_by x (redirect t) = false
is_made_by x (holds v) = v.heap_only && v.creator == x

-- the number of the heap-only version that a slot of block b names, or 0
abbrev pub name_of : ℕ → (ℕ → Slot) → Slot → ℕ
name_of b slot unused = 0
name_of b slot dead = 0
name_of b slot (redirect t) = cond (is_heap_only (slot t)) t 0
name_of b slot (holds v) =
    cond (v.hot_updated && v.ctid.block == b && is_made_by v.remover (slot v.ctid.pointer)) v.ctid.pointer 0

-- the same with no number for none
abbrev pub some_name : ℕ → Option ℕ
some_name zero = None
some_name (suc t) = Some (suc t)

-- a redirect leads to a heap-only version
abbrev pub leads_well : (ℕ → Slot) → Slot → Bool
leads_well slot unused = true
leads_well slot dead = true
leads_well slot (redirect t) = is_heap_only (slot t)
leads_well slot (holds v) = true

-- no name, or another one
abbrev pub other_name : ℕ → ℕ → Bool
other_name x y = x == 0 || not (x == y)

-- the rule on the pointer n of the page of block b: among the earlier pointers none overlaps it, and none names what it names
abbrev pub page_holds : ℕ → List ℕ → ℕ → PageRule → Bool
page_holds b p n NoOverlap = each (λ j. apart (pointer_at p n) (pointer_at p j)) (n - 1)
page_holds b p n RedirectTarget = leads_well (slot_no p) (slot_no p n)
page_holds b p n NamedOnce = each (λ j. other_name (name_of b (slot_no p) (slot_no p n)) (name_of b (slot_no p) (slot_no p j))) (n - 1)
