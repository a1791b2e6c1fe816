-- The marks of freeze.
use Rattle.std.specs.Prelude.{◌≡◌, ℕ, Bool, true, false, cond, not, ◌&&◌, ◌||◌, List, ◌==◌}
use Rattle.page.specs.Headers.{count_of}
use Rattle.page.specs.LinePointers.{pointer_at}
use Rattle.page.specs.Slots.{Version}
use Rattle.page_write.specs.Changing.{change_version, change_to}
use Rattle.xid.specs.Numbers.{precedes}
use Rattle.xid.specs.declared.statuses.Status.{Status}
use Rattle.heap_read.specs.Fates.{creator_fate, remover_fate}
use Rattle.heap_read.specs.Links.{is_none}
use Rattle.heap_read.specs.declared.fates.CreatorFate.{CreatorFate}
use Rattle.heap_read.specs.declared.fates.CreatorFate.TheVariants as creator
use Rattle.heap_upkeep.specs.Along.{one, per_version, count_along}

-- committed, and not frozen yet
abbrev pub is_plain : CreatorFate → Bool
is_plain creator.Frozen = false
is_plain creator.Committed = true
is_plain creator.Aborted = false
is_plain creator.Open = false
is_plain creator.Unknown = false

-- a committed creator that precedes the cutoff c is frozen
abbrev pub to_freeze : (ℕ → Status) → ℕ → Version → Bool
to_freeze told c v = is_plain (creator_fate told v) && precedes v.creator c

-- a nonzero remover that is none and precedes the cutoff is cleared
abbrev pub to_clear : (ℕ → Status) → ℕ → Version → Bool
to_clear told c v = not (v.remover == 0) && is_none (remover_fate told v) && precedes v.remover c

-- both creator bits are set; the remover becomes 0 with its bit, and the version is no longer HOT-updated
abbrev pub with_marks : Bool → Bool → Version → Version
with_marks freeze clear v = record {
  creator = v.creator;
  remover = cond clear 0 v.remover;
  creator_committed = v.creator_committed || freeze;
  creator_invalid = v.creator_invalid || freeze;
  remover_committed = v.remover_committed;
  remover_invalid = v.remover_invalid || clear;
  updated = v.updated;
  hot_updated = v.hot_updated && not clear;
  heap_only = v.heap_only;
  ctid = v.ctid;
  row = v.row;
}

abbrev pub frozen_at : (ℕ → Status) → ℕ → Version → Version
frozen_at told c v = with_marks (to_freeze told c v) (to_clear told c v) v

-- the marks of a page, version by version, and how many creators were frozen and removers cleared
abbrev pub marked_page : (ℕ → Status) → ℕ → List ℕ → List ℕ
marked_page told c p = change_to (frozen_at told c) p (count_of p)

abbrev pub frozen_count : (ℕ → Status) → ℕ → List ℕ → ℕ
frozen_count told c p = count_along (λ v. one (to_freeze told c v)) (frozen_at told c) p (count_of p)

abbrev pub cleared_count : (ℕ → Status) → ℕ → List ℕ → ℕ
cleared_count told c p = count_along (λ v. one (to_clear told c v)) (frozen_at told c) p (count_of p)

-- the version of the pointer n of p was marked, which left q, with f creators frozen and r removers cleared
pub record Marked (told : ℕ → Status) (c : ℕ) (p : List ℕ) (n : ℕ) (q : List ℕ) (f r : ℕ) : Type 0 where
  pub bytes : q ≡ change_version (frozen_at told c) p n
  pub frozen : f ≡ per_version (λ v. one (to_freeze told c v)) p (pointer_at p n)
  pub cleared : r ≡ per_version (λ v. one (to_clear told c v)) p (pointer_at p n)

-- the same of a whole page
pub record Marks (told : ℕ → Status) (c : ℕ) (p q : List ℕ) (f r : ℕ) : Type 0 where
  pub bytes : q ≡ marked_page told c p
  pub frozen : f ≡ frozen_count told c p
  pub cleared : r ≡ cleared_count told c p
