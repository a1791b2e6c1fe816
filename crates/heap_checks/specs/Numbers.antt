-- What is asked of the numbers on pages.
use Rattle.std.specs.Prelude.{Bool, true, false, ◌&&◌, ◌||◌, not, List, [], ℕ, ◌+◌, ◌==◌, length, slice_index_or}
use Rattle.page.specs.Headers.{count_of}
use Rattle.page.specs.Slots.{Version, Slot, slot_no}
use Rattle.page.specs.Slots.Slot.{unused, dead, redirect, holds}
use Rattle.page_check.specs.All.{any_to, each}
use Rattle.xid.specs.Numbers.{precedes, in_window}

-- a creator is marked, or lies in the window; a remover is none, marked, or lies in the window
abbrev pub version_known : ℕ → ℕ → Version → Bool
version_known oldest next v =
    (v.creator_committed || v.creator_invalid || in_window oldest next v.creator)
    && (v.remover == 0 || v.remover_committed || v.remover_invalid || in_window oldest next v.remover)

abbrev pub slot_known : ℕ → ℕ → Slot → Bool
slot_known oldest next unused = true
slot_known oldest next dead = true
slot_known oldest next (redirect t) = true
slot_known oldest next (holds v) = version_known oldest next v

abbrev pub page_known : ℕ → ℕ → List ℕ → Bool
page_known oldest next p = each (λ n. slot_known oldest next (slot_no p n)) (count_of p)

-- an unfrozen creator, or a remover other than 0, precedes c
abbrev pub version_needs : ℕ → Version → Bool
version_needs c v =
    (not (v.creator_committed && v.creator_invalid) && precedes v.creator c)
    || (not (v.remover == 0) && precedes v.remover c)

abbrev pub slot_needs : ℕ → Slot → Bool
slot_needs c unused = false
slot_needs c dead = false
slot_needs c (redirect t) = false
slot_needs c (holds v) = version_needs c v

abbrev pub page_needs : ℕ → List ℕ → Bool
page_needs c p = any_to (λ k. slot_needs c (slot_no p (k + 1))) (count_of p)

-- some version of some page does
abbrev pub still_needed : ℕ → List (List ℕ) → Bool
still_needed c pages = any_to (λ k. page_needs c (slice_index_or pages k [])) (length pages)
