-- What the plain source means.
use Rattle.std.specs.Prelude.{◌≡◌, ℕ, ◌<◌, Some, None, Option, nat_le}
use Rattle.xid.specs.Numbers.{distance}
use Rattle.xid.specs.Meaning.{Meaning, meaning_by}
use Rattle.plain_source.specs.declared.plain.PlainSource.{PlainSource}
use Rattle.plain_source.specs.Bounded.{stored_at}

abbrev pub meaning_of : PlainSource → Meaning
meaning_of p = meaning_by p.window.oldest p.window.next (nat_le 8 (distance p.window.oldest p.window.next)) (stored_at p.statuses p.window.oldest)

-- a new source has an empty window; there is none with an oldest number below 3
pub record Empty (oldest : ℕ) (p : PlainSource) : Type 0 where
  pub from : p.window.oldest ≡ oldest
  pub to : p.window.next ≡ oldest

abbrev pub Made : ℕ → Option PlainSource → Type 0
Made oldest None = oldest < 3
Made oldest (Some p) = Empty oldest p
