-- Hints: the bits that say how a creator or a remover ended.
use Rattle.std.specs.Prelude.{ℕ, ◌+◌, Bool, true, false, cond, ◌||◌, List, ◌==◌}
use Rattle.page.specs.Headers.{count_of}
use Rattle.page.specs.Slots.{Version}
use Rattle.page_write.specs.Changing.{change_to}
use Rattle.heap_upkeep.specs.Along.{one, count_along}
use Rattle.xid.specs.declared.statuses.Status.{Status}
use Rattle.xid.specs.declared.statuses.Status.TheVariants.{Open, Committed, Aborted, Unknown}

abbrev pub is_committed : Status → Bool
is_committed Open = false
is_committed Committed = true
is_committed Aborted = false
is_committed Unknown = false

abbrev pub is_aborted : Status → Bool
is_aborted Open = false
is_aborted Committed = false
is_aborted Aborted = true
is_aborted Unknown = false

-- what the source says of a number that no bit speaks of; nothing of the others
abbrev pub creator_news : (ℕ → Status) → Version → Status
creator_news told v = cond (v.creator_committed || v.creator_invalid) Unknown (told v.creator)

abbrev pub remover_news : (ℕ → Status) → Version → Status
remover_news told v = cond (v.remover == 0 || v.remover_committed || v.remover_invalid) Unknown (told v.remover)

-- the version with the bits for a creator and a remover that have ended so
abbrev pub with_news : Status → Status → Version → Version
with_news c r v = record {
  creator = v.creator;
  remover = v.remover;
  creator_committed = v.creator_committed || is_committed c;
  creator_invalid = v.creator_invalid || is_aborted c;
  remover_committed = v.remover_committed || is_committed r;
  remover_invalid = v.remover_invalid || is_aborted r;
  updated = v.updated;
  hot_updated = v.hot_updated;
  heap_only = v.heap_only;
  ctid = v.ctid;
  row = v.row;
}

abbrev pub hinted : (ℕ → Status) → Version → Version
hinted told v = with_news (creator_news told v) (remover_news told v) v

-- how many bits that sets
abbrev pub bits_set : (ℕ → Status) → Version → ℕ
bits_set told v =
    one (is_committed (creator_news told v) || is_aborted (creator_news told v)) + one (is_committed (remover_news told v) || is_aborted (remover_news told v))

-- a hint of a page, version by version, and how many bits it sets
abbrev pub hinted_page : (ℕ → Status) → List ℕ → List ℕ
hinted_page told p = change_to (hinted told) p (count_of p)

abbrev pub hint_count : (ℕ → Status) → List ℕ → ℕ
hint_count told p = count_along (bits_set told) (hinted told) p (count_of p)
