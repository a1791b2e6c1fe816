-- The size of a heap image, and the line pointers of a page by state.
use Rattle.std.specs.Prelude.{ℕ, ◌/◌, ◌%◌, Bool, cond, List, Ok, Err, Result, ◌==◌, nat_le}
use Rattle.page.specs.Headers.{count_of}
use Rattle.page.specs.LinePointers.{state_code, line_pointer_at}
use Rattle.page.specs.declared.line_pointers.State.{State}
use Rattle.heap_report.specs.declared.image.SizeFault.{SizeFault}
use Rattle.heap_report.specs.declared.image.SizeFault.TheVariants.{Empty, BrokenPage, TooManyPages}
use Rattle.page_check.specs.All.{count_to}

-- 1 to 64 whole pages
abbrev pub pages_in : ℕ → Result ℕ SizeFault
pages_in n =
    cond (n == 0) (Err Empty)
    (cond (n % 8192 == 0)
    (cond (nat_le (n / 8192) 64) (Ok (n / 8192)) (Err (TooManyPages n)))
    (Err (BrokenPage n)))

-- the pointer n is in the state of a code
abbrev pub in_state : List ℕ → ℕ → ℕ → Bool
in_state p code n = state_code (line_pointer_at p n).state == code

abbrev pub count_in_state : List ℕ → State → ℕ
count_in_state p s = count_to (in_state p (state_code s)) (count_of p)
