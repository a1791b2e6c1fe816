-- A link leads along the names of the page, whatever the source says.
use Rattle.std.proofs.Common.{◌≡◌, ℕ, Bool, true, false, not, ◌&&◌, sym, refl, subst, unwrap_or, inl, inr}
use Rattle.std.proofs.lemmas.Bool.{and_parts, cond-true}
use Rattle.std.specs.Bool.{then_some}
use Rattle.page.specs.Slots.{Version, Slot}
use Rattle.page.specs.Slots.Slot.{unused, dead, redirect, holds}
use Rattle.xid.specs.declared.statuses.Status.{Status}
use Rattle.heap_read.specs.Fates.{creator_fate, remover_fate}
use Rattle.heap_read.specs.Links.{is_aborted, is_none, names_on, links_on, link_in, link_from, LeadsAlong}
use Rattle.heap_read.proofs.Walks.{link_number}

-- what is linked to only where the names of the page lead there
pub named_along : (b : ℕ) (slot : ℕ → Slot) (v : Version) (l : Bool) → (l ≡ true → names_on b slot v ≡ true)
    → LeadsAlong b slot (holds v) (unwrap_or (then_some l v.ctid.pointer) 0)
named_along b slot v true h = inr (sym (cond-true (names_on b slot v) v.ctid.pointer 0 (h refl)))
named_along b slot v false h = inl refl

-- the link that the source's meaning gives is such a one
pub link_in_along : (told : ℕ → Status) (b : ℕ) (slot : ℕ → Slot) (s : Slot) → LeadsAlong b slot s (unwrap_or (link_in told b slot s) 0)
link_in_along told b slot unused = refl
link_in_along told b slot dead = refl
link_in_along told b slot (redirect t) = refl
link_in_along told b slot (holds v) =
    let names = names_on b slot v in
    let alive = not (is_aborted (creator_fate told v)) in
    let gone = not (is_none (remover_fate told v)) in
    named_along b slot v (links_on told b slot v) (λ h. (and_parts names alive (and_parts (names && alive) gone h).0).0)

pub link_along : (told : ℕ → Status) (b : ℕ) (slot : ℕ → Slot) (s : Slot) → LeadsAlong b slot s (link_from told b slot s)
link_along told b slot s = subst (LeadsAlong b slot s) (link_number told b slot s) (link_in_along told b slot s)
