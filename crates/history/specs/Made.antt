-- What the contract of a call says: the one reply that is defined, and the archive that it leaves.
use Rattle.std.specs.Prelude.{◌≡◌, Bool, Some, None, Option}
use Rattle.xid.specs.Meaning.{Meaning}
use Rattle.refusal.specs.declared.Refusal.{Refusal}
use Rattle.history.specs.Archive.{Archive}
use Rattle.history.specs.Calls.{Change, Reading, Reply, Shown}
use Rattle.history.specs.Checks.{first_failing, checks}
use Rattle.history.specs.Granted.{after, answer, shown, reply_by}

-- the reply to a change: the refusal of its first failing check, or its answer
abbrev pub reply_to : (s : Archive) (c : Change) → Reply c
reply_to s c = reply_by (first_failing (checks s c)) (answer s c)

abbrev pub leaves_by : Option Refusal → Archive → Change → Bool → Archive
leaves_by None s c full = after s c full
leaves_by (Some q) s c full = s

-- the archive that it leaves: refused, the same; else as defined, where `full` says whether the source is full then
abbrev pub leaves : Archive → Change → Bool → Archive
leaves s c full = leaves_by (first_failing (checks s c)) s c full

-- The change c was made in the archive s and replied r; t is the archive afterwards, and sound-after says that its source is sound.
pub record Did (sound-after : Type 0) (s t : Archive) (c : Change) (r : Reply c) : Type 0 where
  pub sound : sound-after
  pub reply : r ≡ reply_to s c
  pub left : t ≡ leaves s c t.xacts.source.full

-- The reading q was made in the archive s and showed r; m is the meaning of the source afterwards.
pub record Showed (sound-after : Type 0) (s : Archive) (m : Meaning) (q : Reading) (r : Shown) : Type 0 where
  pub sound : sound-after
  pub kept : m ≡ s.xacts.source
  pub reply : r ≡ shown s q
