-- A prune at a horizon.
use Rattle.std.specs.Prelude.{◌≡◌, ℕ, Bool, true, List}
use Rattle.page.specs.Slots.{slot_no, view_of}
use Rattle.page.specs.declared.kinds.Kind.{Kind}
use Rattle.page_check.specs.Lawful.{is_lawful}
use Rattle.page_prune.specs.Pruned.{pruned_page, versions_removed, pointers_made_dead}
use Rattle.xid.specs.declared.statuses.Status.{Status}
use Rattle.heap_read.specs.Links.{link_at}
use Rattle.heap_upkeep.specs.Dead.{dead_slot}
use Rattle.heap_upkeep.specs.Freezing.{marked_page, frozen_count, cleared_count}

-- the page p of block b is lawful, by some table of kinds
pub record LawfulOn (b : ℕ) (p : List ℕ) : Type 0 where
  pub kinds : List Kind
  pub lawful : is_lawful kinds b p ≡ true

-- the versions of a page that are dead at the horizon h, by number
abbrev pub dead_at : (ℕ → Status) → ℕ → List ℕ → ℕ → Bool
dead_at told h p n = dead_slot told h (slot_no p n)

-- the page after a prune, and how many versions went and pointers were made dead
abbrev pub pruned_at : (ℕ → Status) → ℕ → ℕ → List ℕ → List ℕ
pruned_at told h b p = pruned_page (link_at told b p) (dead_at told h p) p

abbrev pub removed_at : (ℕ → Status) → ℕ → ℕ → List ℕ → ℕ
removed_at told h b p = versions_removed (link_at told b p) (dead_at told h p) (view_of p)

abbrev pub made_dead_at : (ℕ → Status) → ℕ → ℕ → List ℕ → ℕ
made_dead_at told h b p = pointers_made_dead (link_at told b p) (dead_at told h p) (view_of p)

-- what a prune leaves and answers
pub record Prunes (told : ℕ → Status) (h b : ℕ) (p q : List ℕ) (r d : ℕ) : Type 0 where
  pub bytes : q ≡ pruned_at told h b p
  pub removed : r ≡ removed_at told h b p
  pub made_dead : d ≡ made_dead_at told h b p

-- what a freeze leaves and answers: it prunes first, and then marks what is left
pub record Freezes (told : ℕ → Status) (h c b : ℕ) (p q : List ℕ) (r d f x : ℕ) : Type 0 where
  pub bytes : q ≡ marked_page told c (pruned_at told h b p)
  pub removed : r ≡ removed_at told h b p
  pub made_dead : d ≡ made_dead_at told h b p
  pub frozen : f ≡ frozen_count told c (pruned_at told h b p)
  pub cleared : x ≡ cleared_count told c (pruned_at told h b p)
