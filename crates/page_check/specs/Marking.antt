-- How overlap and naming are found in one pass: each version marks its cells of eight bytes, each name its number.
use Rattle.std.specs.Prelude.{◌≡◌, ℕ, ◌+◌, ◌-◌, ◌/◌, ◌%◌, ◌<◌, ◌≤◌, Bool, true, false, cond, not, ◌&&◌, ◌||◌, List, [], length, replicate, ◌==◌, nat_le, nat_lt, slice_index_or, slice_set}
use Rattle.std.specs.List.{list_all, between}
use Rattle.std.specs.Coded.{Unit-prop}
use mathlib.Core.HLevel.{Π_prop}
use Rattle.std.proofs.Props.{props}
use borrow.Rule.Slice.PartMut.{put_mid}
use Rattle.page.specs.LinePointers.{pointer_at}
use Rattle.page.specs.Headers.{count_of}
use Rattle.page.specs.declared.line_pointers.Pointer.{Pointer}
use Rattle.page.specs.declared.line_pointers.Pointer.TheVariants.{Unused, Normal, Redirect, Dead}

-- where a version lies, as the rules of its pointer have it
pub record Lies (o n : ℕ) : Type 0 where
  pub aligned : o % 8 ≡ 0
  pub ends : o + n ≤ 8192
  pub holds_kind : 25 ≤ n

abbrev pub LiesIn : Pointer → Type 0
LiesIn Unused = Unit {0}
LiesIn (Normal o n) = Lies o n
LiesIn (Redirect t) = Unit {0}
LiesIn Dead = Unit {0}

-- all versions of a page lie so
abbrev pub AllLie : List ℕ → Type 0
AllLie p = (k : ℕ) → k < count_of p → LiesIn (pointer_at p (k + 1))

LiesIn-prop : (x : Pointer) → IsProp (LiesIn x)
LiesIn-prop Unused = Unit-prop
LiesIn-prop (Normal o n) = Prim.hlevel props
LiesIn-prop (Redirect t) = Unit-prop
LiesIn-prop Dead = Unit-prop

pub AllLie-prop : (p : List ℕ) → IsProp (AllLie p)
AllLie-prop p = Π_prop λ k. Π_prop λ _. LiesIn-prop (pointer_at p (k + 1))

-- and those of all pages of a heap
abbrev pub PagesLie : List (List ℕ) → Type 0
PagesLie pages = (k : ℕ) → k < length pages → AllLie (slice_index_or pages k [])

-- the cells of a version
abbrev pub first_cell : ℕ → ℕ
first_cell o = o / 8

abbrev pub end_cell : ℕ → ℕ → ℕ
end_cell o n = (o + n + 7) / 8

abbrev pub covers : Pointer → ℕ → Bool
covers Unused x = false
covers (Normal o n) x = nat_le (first_cell o) x && nat_lt x (end_cell o n)
covers (Redirect t) x = false
covers Dead x = false

-- the cells of a version are all free, and are then taken
abbrev pub cells_free : List Bool → Pointer → Bool
cells_free cells Unused = true
cells_free cells (Normal o n) = list_all not (between (first_cell o) (end_cell o n) cells)
cells_free cells (Redirect t) = true
cells_free cells Dead = true

abbrev pub cells_taken : List Bool → Pointer → List Bool
cells_taken cells Unused = cells
cells_taken cells (Normal o n) = put_mid (first_cell o) (end_cell o n - first_cell o) cells (replicate (end_cell o n - first_cell o) true)
cells_taken cells (Redirect t) = cells
cells_taken cells Dead = cells

-- the name t is none or free, and is then taken
abbrev pub name_free : List Bool → ℕ → Bool
name_free named t = t == 0 || not (slice_index_or named t false)

abbrev pub name_taken : List Bool → ℕ → List Bool
name_taken named t = cond (t == 0) named (slice_set named t true)
