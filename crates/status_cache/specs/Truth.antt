-- The slots tell what the source means.
use Rattle.std.specs.Prelude.{◌≡◌, List, Option, IfSome}
use Rattle.std.specs.List.{All}
use Rattle.xid.specs.Statuses.{end_status}
use Rattle.xid.specs.Meaning.{Meaning}
use Rattle.status_cache.specs.declared.slots.Ended.{Ended}

-- a slot that is filled has the status of its number
abbrev pub Tells : Meaning → Option Ended → Type 0
Tells m slot = IfSome slot (λ ended. m.status ended.number ≡ end_status ended.end)

abbrev pub Truthful : Meaning → List (Option Ended) → Type 0
Truthful m slots = All (Tells m) slots
