-- What the slots hold.
use Rattle.std.specs.Prelude.{ℕ, ◌%◌, cond, List, Some, None, Option, ◌==◌, slice_index_or, slice_set}
use Rattle.xid.specs.declared.statuses.End.{End}
use Rattle.xid.specs.declared.statuses.End.TheVariants.{Commit, Abort}
use Rattle.xid.specs.declared.statuses.Status.{Status}
use Rattle.xid.specs.declared.statuses.Status.TheVariants.{Open, Committed, Aborted, Unknown}
use Rattle.status_cache.specs.declared.slots.Ended.{Ended}

-- the end in a slot, if it is that of x
abbrev pub end_if : ℕ → Option Ended → Option End
end_if x None = None
end_if x (Some ended) = cond (ended.number == x) (Some ended.end) None

-- the end in the slot of x, if it holds x
abbrev pub held_for : List (Option Ended) → ℕ → Option End
held_for slots x = end_if x (slice_index_or slots (x % 64) None)

-- x in its slot
abbrev pub kept : List (Option Ended) → ℕ → End → List (Option Ended)
kept slots x e = slice_set slots (x % 64) (Some (record { number = x; end = e }))

-- x in its slot, if it ended
abbrev pub noted : List (Option Ended) → ℕ → Status → List (Option Ended)
noted slots x Open = slots
noted slots x Committed = kept slots x Commit
noted slots x Aborted = kept slots x Abort
noted slots x Unknown = slots
