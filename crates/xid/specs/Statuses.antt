-- Statuses and ends, and the codes of the statuses.
use Rattle.std.specs.Prelude.{ℕ, Bool, true, false, cond, ◌==◌}
use Rattle.xid.specs.declared.statuses.Status.{Status}
use Rattle.xid.specs.declared.statuses.Status.TheVariants.{Open, Committed, Aborted, Unknown}
use Rattle.xid.specs.declared.statuses.End.{End}
use Rattle.xid.specs.declared.statuses.End.TheVariants.{Commit, Abort}

-- The codes of the commit log, in two bits. A number outside the window has no code; 3, which is never written, stands for that.
abbrev pub code_of : Status → ℕ
code_of Open = 0
code_of Committed = 1
code_of Aborted = 2
code_of Unknown = 3

-- the status that has a code
abbrev pub status_of : ℕ → Status
status_of v = cond (v == code_of Open) Open (cond (v == code_of Committed) Committed (cond (v == code_of Aborted) Aborted Unknown))

abbrev pub end_status : End → Status
end_status Commit = Committed
end_status Abort = Aborted

abbrev pub is_open : Status → Bool
is_open Open = true
is_open Committed = false
is_open Aborted = false
is_open Unknown = false

abbrev pub is_known : Status → Bool
is_known Open = true
is_known Committed = true
is_known Aborted = true
is_known Unknown = false
