-- What keeps the slots true.
use Rattle.std.proofs.Common.{◌≡◌, List, replicate, None, Option, sym, subst}
use Rattle.std.proofs.lemmas.List.Elements.{All-replicate}
use Rattle.xid.specs.Meaning.{Meaning}
use Rattle.status_cache.specs.declared.slots.Ended.{Ended}
use Rattle.status_cache.specs.Truth.{Tells, Truthful}

-- empty slots tell nothing, of whatever source
pub emptied_truthful : (m : Meaning) (slots : List (Option Ended)) → slots ≡ replicate 64 None → Truthful m slots
emptied_truthful m slots e = subst (Truthful m) (sym e) (All-replicate (Tells m) 64 None tt)
