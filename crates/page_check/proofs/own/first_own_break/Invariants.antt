use Rattle.std.proofs.Common.{◌≡◌, ◌-◌, None}
use Rattle.page.specs.LinePointers.{line_pointer_at}
use Rattle.page_check.specs.All.{first_to}
use Rattle.page_check.specs.Lawful.{own_break}
use Rattle.page_check.proofs.own.first_own_break.Given as goal

-- the pointers passed keep their rules
abbrev pub invariant-loop-number : goal.invariant-loop-number
invariant-loop-number l = first_to (λ n. own_break l.kinds l.page n (line_pointer_at l.page n)) (l.number - 1) ≡ None
