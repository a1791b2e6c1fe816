-- When a page takes a row, under which pointer, and in which block.
use Rattle.std.specs.Prelude.{ℕ, zero, suc, ◌+◌, ◌-◌, ◌*◌, ◌/◌, Bool, true, false, cond, ◌&&◌, List, [], length, Some, None, Option, nat_le, nat_lt, slice_index_or}
use Rattle.page.specs.Headers.{header_of, count_of}
use Rattle.page.specs.LinePointers.{pointer_at}
use Rattle.page.specs.declared.line_pointers.Pointer.{Pointer}
use Rattle.page.specs.declared.line_pointers.Pointer.TheVariants.{Unused, Normal, Redirect, Dead}

-- n rounded up to a multiple of 8
abbrev pub up8 : ℕ → ℕ
up8 n = (n + 7) / 8 * 8

-- the least number below n of which f holds, else n
abbrev pub least_to : (ℕ → Bool) → ℕ → ℕ
least_to f zero = zero
least_to f (suc n) = cond (nat_lt (least_to f n) n) (least_to f n) (cond (f n) n (suc n))

abbrev pub is_unused : Pointer → Bool
is_unused Unused = true
is_unused (Normal o n) = false
is_unused (Redirect t) = false
is_unused Dead = false

-- the lowest unused pointer, else one more than there are
abbrev pub free_pointer : List ℕ → ℕ
free_pointer p = least_to (λ k. is_unused (pointer_at p (k + 1))) (count_of p) + 1

abbrev pub has_unused : List ℕ → Bool
has_unused p = nat_le (free_pointer p) (count_of p)

-- the free bytes between the pointers and the versions
abbrev pub room_of : List ℕ → ℕ
room_of p = (header_of p).upper - (header_of p).lower

-- the page takes a version of n bytes, and the reserve stays over: without an unused pointer it needs 4 bytes more for a
-- new one, of which there are at most 291
abbrev pub takes : ℕ → List ℕ → ℕ → Bool
takes reserve p n =
    cond (has_unused p)
    (nat_le (up8 n + reserve) (room_of p))
    (nat_le (up8 n + 4 + reserve) (room_of p) && nat_lt (count_of p) 291)

-- the lowest block whose page takes a version of n bytes
abbrev pub block_taking : ℕ → List (List ℕ) → ℕ → ℕ
block_taking reserve pages n = least_to (λ b. takes reserve (slice_index_or pages b []) n) (length pages)

abbrev pub first_block_taking : ℕ → List (List ℕ) → ℕ → Option ℕ
first_block_taking reserve pages n =
    cond (nat_lt (block_taking reserve pages n) (length pages)) (Some (block_taking reserve pages n)) None
