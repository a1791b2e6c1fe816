-- Counts along a page whose versions change one after the other.
use Rattle.std.specs.Prelude.{ℕ, zero, suc, ◌+◌, Bool, cond, List, nat_le}
use Rattle.page.specs.LinePointers.{pointer_at}
use Rattle.page.specs.Slots.{Version, decoded}
use Rattle.page.specs.Versions.{header_at, row_of}
use Rattle.page.specs.declared.line_pointers.Pointer.{Pointer}
use Rattle.page.specs.declared.line_pointers.Pointer.TheVariants.{Unused, Normal, Redirect, Dead}
use Rattle.page_write.specs.Changing.{change_to}

abbrev pub one : Bool → ℕ
one b = cond b 1 0

-- what a count b has for the version of a pointer: 0 where there is none inside the page
abbrev pub per_version : (Version → ℕ) → List ℕ → Pointer → ℕ
per_version b p Unused = 0
per_version b p (Normal o n) = cond (nat_le (o + 24) 8192) (b (decoded (header_at p o) (row_of p o n))) 0
per_version b p (Redirect t) = 0
per_version b p Dead = 0

-- the sum over the pointers 1 to n, each as it stands before f changes it
abbrev pub count_along : (Version → ℕ) → (Version → Version) → List ℕ → ℕ → ℕ
count_along b f p zero = 0
count_along b f p (suc n) = count_along b f p n + per_version b (change_to f p n) (pointer_at (change_to f p n) (n + 1))
