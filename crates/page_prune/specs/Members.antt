-- What the table of members says, and what an iterator along a chain still comes to.
use Rattle.std.specs.Prelude.{ℕ, Bool, false, List, None, slice_index_or}
use Rattle.std.specs.Option.{unwrap_or}
use Rattle.page_laws.specs.Chains.{chain}
use Rattle.page_prune.specs.declared.chains.Member.{Member}
use Rattle.page_prune.specs.declared.chains.Chain.{Chain}

-- a number that the table does not have links on to none and is not dead
abbrev pub no_member : Member
no_member = record { next = None; dead = false }

-- what a number links on to, or 0
abbrev pub next_in : List Member → ℕ → ℕ
next_in ms m = unwrap_or (slice_index_or ms m no_member).next 0

abbrev pub dead_in : List Member → ℕ → Bool
dead_in ms m = (slice_index_or ms m no_member).dead

abbrev pub ahead : Chain → List ℕ
ahead c = chain (next_in c.members.now) c.limit (unwrap_or c.at 0)

abbrev pub dead_along : Chain → ℕ → Bool
dead_along c = dead_in c.members.now
