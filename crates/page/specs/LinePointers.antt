-- Line pointers.
use Rattle.std.specs.Prelude.{ℕ, ◌+◌, ◌*◌, ◌/◌, ◌%◌, cond, List, ◌==◌}
use Rattle.page.specs.Bytes.{get32}
use Rattle.page.specs.declared.line_pointers.State.{State}
use Rattle.page.specs.declared.line_pointers.State.TheVariants as state
use Rattle.page.specs.declared.line_pointers.LinePointer.{LinePointer}
use Rattle.page.specs.declared.line_pointers.Pointer.{Pointer}
use Rattle.page.specs.declared.line_pointers.Pointer.TheVariants.{Unused, Normal, Redirect, Dead}

-- the codes of the states
abbrev pub state_code : State → ℕ
state_code state.Unused = 0
state_code state.Normal = 1
state_code state.Redirect = 2
state_code state.Dead = 3

-- the state of a code, of which only two bits count
abbrev pub state_of : ℕ → State
state_of c =
    cond (c % 4 == state_code state.Unused) state.Unused
    (cond (c % 4 == state_code state.Normal) state.Normal
    (cond (c % 4 == state_code state.Redirect) state.Redirect state.Dead))

-- offset in bits 0 to 14, state in 15 and 16, length in 17 to 31
abbrev pub line_pointer_of : ℕ → LinePointer
line_pointer_of w = record { offset = w % 32768; state = state_of (w / 32768); len = w / 131072 }

-- the bits of the line pointer of number n, counted from 1: the first follows the page header
abbrev pub word_at : List ℕ → ℕ → ℕ
word_at p n = get32 p (20 + 4 * n)

abbrev pub line_pointer_at : List ℕ → ℕ → LinePointer
line_pointer_at p n = line_pointer_of (word_at p n)

abbrev pub meaning_of : State → ℕ → ℕ → Pointer
meaning_of state.Unused o n = Unused
meaning_of state.Normal o n = Normal o n
meaning_of state.Redirect o n = Redirect o
meaning_of state.Dead o n = Dead

abbrev pub pointer_of : LinePointer → Pointer
pointer_of l = meaning_of l.state l.offset l.len

abbrev pub pointer_at : List ℕ → ℕ → Pointer
pointer_at p n = pointer_of (line_pointer_at p n)

-- the bits of a pointer
abbrev pub word_of : Pointer → ℕ
word_of Unused = state_code state.Unused * 32768
word_of (Normal o n) = o % 32768 + state_code state.Normal * 32768 + n % 32768 * 131072
word_of (Redirect t) = t % 32768 + state_code state.Redirect * 32768
word_of Dead = state_code state.Dead * 32768
