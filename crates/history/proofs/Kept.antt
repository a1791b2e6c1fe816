-- What a granted change keeps.
use Rattle.std.proofs.Common.{ℕ, Bool, Ok}
use Rattle.history.specs.Archive.{Archive}
use Rattle.history.specs.Calls.{Change}
use Rattle.history.specs.Granted.{after, answer}
use Rattle.history.specs.Ledger.{Ledger, fed}
use Rattle.history.proofs.Invariant.{Invariant}

-- the invariant, after the change c was granted and the ledger was fed its answer
abbrev pub Kept : Archive → Ledger → ℕ → Change → Bool → Type 0
Kept s l base c full = Invariant (after s c full) (fed l c (Ok (answer s c))) base
