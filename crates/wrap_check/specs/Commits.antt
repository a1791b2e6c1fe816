-- What a transaction in a new source answers.
use Rattle.std.specs.Prelude.{ℕ, cond, Some, None, Ok, Err, Option, Result, nat_le}
use Rattle.xid.specs.declared.source.TurnedDown.{TurnedDown}
use Rattle.xid.specs.declared.source.TurnedDown.TheVariants.{Full}
use Rattle.xid.specs.declared.statuses.Status.{Status}
use Rattle.xid.specs.declared.statuses.Status.TheVariants.{Committed}
use Rattle.refusal.specs.declared.Refusal.{Refusal}
use Rattle.refusal.specs.declared.Refusal.TheVariants.{NumberOutOfRange}
use Rattle.xid.specs.Meaning.{Meaning}
use Rattle.clog.specs.Pages.{refused_with}

-- the next number, which is then committed, unless the source is full
abbrev pub committed_one : Meaning → Result (ℕ × Status) TurnedDown
committed_one m = cond m.full (Err Full) (Ok (m.next, Committed))

abbrev pub or_refused : Option Refusal → ℕ → Result (ℕ × Status) Refusal
or_refused None oldest = Ok (oldest, Committed)
or_refused (Some why) oldest = Err why

-- in new pages of this size
abbrev pub in_pages : ℕ → ℕ → Result (ℕ × Status) Refusal
in_pages size oldest = or_refused (refused_with size oldest) oldest

-- in a new plain source
abbrev pub in_plain : ℕ → Result (ℕ × Status) Refusal
in_plain oldest = cond (nat_le 3 oldest) (Ok (oldest, Committed)) (Err NumberOutOfRange)
