-- Runs: lists of changes from an unused archive, each granted or refused.
use Rattle.std.specs.Prelude.{◌≡◌, ℕ, ◌≤◌, Bool, false, List, [], ◌∷◌, length, replicate, Some, None, Ok, Err}
use Rattle.page_write.specs.Empty.{empty_page}
use Rattle.xid.specs.Meaning.{Lawful}
use Rattle.xid.specs.Statuses.{is_open}
use Rattle.refusal.specs.declared.Refusal.{Refusal}
use Rattle.history.specs.Archive.{Archive}
use Rattle.history.specs.Calls.{Change, Reply}
use Rattle.history.specs.Checks.{first_failing, checks}
use Rattle.history.specs.Granted.{after, answer}

-- A change is refused, and then nothing changes; or it is granted, and leaves what is defined, with a source that keeps its laws.
pub data Step (s : Archive) (c : Change) : Reply c → Archive → Type 0 where
  refused : (q : Refusal) → first_failing (checks s c) ≡ Some q → Step s c (Err q) s
  granted : (full : Bool) → first_failing (checks s c) ≡ None → Lawful (after s c full).xacts.source → Step s c (Ok (answer s c)) (after s c full)

-- empty pages, no active transaction, free places, and a source with nothing open
pub record Unused (s : Archive) : Type 0 where
  pub some_page : 1 ≤ length s.pages
  pub few_pages : length s.pages ≤ 64
  pub empty_pages : s.pages ≡ replicate (length s.pages) empty_page
  pub none_active : s.xacts.active ≡ []
  pub places_free : s.xacts.places ≡ replicate 16 None
  pub none_open_lem : (x : ℕ) → is_open (s.xacts.source.status x) ≡ false
  pub lawful : Lawful s.xacts.source

-- a change with its answer or refusal
pub record Event : Type 0 where
  pub call : Change
  pub reply : Reply call

-- the events that lead from s to another archive, the last one first
pub data Run (s : Archive) : List Event → Archive → Type 0 where
  start : Run s [] s
  more : {es : List Event} {m t : Archive} {c : Change} {r : Reply c} → Run s es m → Step m c r t → Run s (record { call = c; reply = r } ∷ es) t
