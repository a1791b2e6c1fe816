-- A table of links along the names of a page, as pruning wants it.
use Rattle.std.proofs.Common.{◌≡◌, ℕ, zero, suc, ◌<◌, ◌≤◌, Bool, true, ◌⊎◌, List, sym, refl, ap, ◌∙◌, subst, inl, inr, ⊎_elim, arith}
use mathlib.Core.Path.{fun_ext}
use Rattle.std.proofs.lemmas.Bool.{cond-true, cases_lt}
use Rattle.std.specs.Option.{unwrap_or}
use Rattle.page.specs.Headers.{count_of}
use Rattle.page.specs.Slots.{Slot, slot_no, view_of}
use Rattle.page.specs.Slots.Slot.{unused, dead, redirect, holds}
use Rattle.page.specs.declared.kinds.Kind.{Kind}
use Rattle.page_check.specs.Rules.{name_of, leads_well, is_heap_only}
use Rattle.page_check.proofs.Slots.{slot_no_past}
use Rattle.page_laws.specs.Keeps.{Keeps}
use Rattle.page_laws.proofs.Views.{view_at, view_fun}
use Rattle.page_prune.specs.Chains.{Links}
use Rattle.page_prune.specs.Members.{next_in, dead_in}
use Rattle.page_prune.specs.declared.chains.Member.{Member}
use Rattle.page_prune.specs.Pruned.{pruned_page, versions_removed, pointers_made_dead}
use Rattle.xid.specs.declared.statuses.Status.{Status}
use Rattle.heap_read.specs.Links.{link_at, LeadsAlong}
use Rattle.heap_read.proofs.Along.{link_along}
use Rattle.heap_read.proofs.Walks.{link_number}
use Rattle.heap_upkeep.specs.Dead.{TellsMembers, AlongNames}
use Rattle.heap_upkeep.specs.Pruning.{dead_at, Prunes}

along_name : (b : ℕ) (slot : ℕ → Slot) (s : Slot) (r : ℕ) → LeadsAlong b slot s r → leads_well slot s ≡ true → (r ≡ 0) ⊎ (r ≡ name_of b slot s)
along_name b slot unused r h w = inl h
along_name b slot dead r h w = inl h
along_name b slot (redirect t) r h w = inr (h ∙ sym (cond-true (is_heap_only (slot t)) t 0 w))
along_name b slot (holds v) r h w = h

module _ (kinds : List Kind) (b : ℕ) (p : List ℕ) (k : Keeps kinds b p) where
  well : (m : ℕ) → leads_well (slot_no p) (slot_no p m) ≡ true
  well zero = refl
  well (suc m) =
      ⊎_elim
      (λ (l : count_of p < suc m). ap (leads_well (slot_no p)) (slot_no_past p (suc m) l))
      (λ (l : suc m ≤ count_of p). k.redirect_target (suc m) (omega arith) l)
      (cases_lt (count_of p) (suc m))

  links_of : (nx : ℕ → ℕ) → ((m : ℕ) → LeadsAlong b (slot_no p) (slot_no p m) (nx m)) → Links b (view_of p) nx
  links_of nx along = record {
    names = λ m. subst (λ (slot : ℕ → Slot). (nx m ≡ 0) ⊎ (nx m ≡ name_of b slot (slot m))) (sym (view_fun p)) (along_name b (slot_no p) (slot_no p m) (nx m) (along m) (well m));
    redirects = λ m to e. subst (λ (s : Slot). LeadsAlong b (slot_no p) s (nx m)) (sym (view_at p m) ∙ e) (along m);
  }

  pub along_links : (t : List Member) → AlongNames b p t → Links b (view_of p) (next_in t)
  along_links t along = links_of (next_in t) along

  pub told_links : (told : ℕ → Status) → Links b (view_of p) (link_at told b p)
  told_links told = links_of (link_at told b p) (λ m. link_along told b (slot_no p) (slot_no p m))

-- the table is what the source says
module _ (told : ℕ → Status) (h b : ℕ) (p : List ℕ) (t : List Member) (tells : TellsMembers told h b p t) where
  pub next_told : next_in t ≡ link_at told b p
  next_told = fun_ext (λ n. ap (λ (m : Member). unwrap_or m.next 0) (tells n) ∙ link_number told b (slot_no p) (slot_no p n))

  dead_told : dead_in t ≡ dead_at told h p
  dead_told = fun_ext (λ n. ap (λ (m : Member). m.dead) (tells n))

  pub prunes : (q : List ℕ) (r d : ℕ) → q ≡ pruned_page (next_in t) (dead_in t) p → r ≡ versions_removed (next_in t) (dead_in t) (view_of p)
      → d ≡ pointers_made_dead (next_in t) (dead_in t) (view_of p) → Prunes told h b p q r d
  prunes q r d bytes removed made = record {
    bytes = bytes ∙ ap (λ (x : ℕ → ℕ). pruned_page x (dead_in t) p) next_told ∙ ap (λ (x : ℕ → Bool). pruned_page (link_at told b p) x p) dead_told;
    removed = removed ∙ ap (λ (x : ℕ → ℕ). versions_removed x (dead_in t) (view_of p)) next_told ∙ ap (λ (x : ℕ → Bool). versions_removed (link_at told b p) x (view_of p)) dead_told;
    made_dead = made ∙ ap (λ (x : ℕ → ℕ). pointers_made_dead x (dead_in t) (view_of p)) next_told ∙ ap (λ (x : ℕ → Bool). pointers_made_dead (link_at told b p) x (view_of p)) dead_told;
  }
