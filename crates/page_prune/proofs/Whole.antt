-- A prune of a lawful page as a whole.
use Rattle.std.proofs.Common.{◌≡◌, ℕ, ◌+◌, ◌-◌, ◌<◌, ◌≤◌, Bool, true, false, List, length, get_or, sum_by, sym, refl, ap, ◌∙◌, subst, ⊎_elim, arith}
use Rattle.std.proofs.lemmas.List.{ext_get_or}
use Rattle.std.proofs.lemmas.List.FromFn.{get_or-map-range_with_len}
use Rattle.std.proofs.lemmas.Bool.{both_ways, cond-true, cond-false, cases_Bool}
use Rattle.page.specs.Headers.{count_of}
use Rattle.page.specs.Slots.{Slot, slot_no, slot_at, view_of}
use Rattle.page.specs.Slots.Slot.{unused}
use Rattle.page.specs.declared.kinds.Kind.{Kind}
use Rattle.page_check.specs.Rules.{is_heap_only, name_of, leads_well, other_name}
use Rattle.page_check.specs.Lawful.{is_lawful}
use Rattle.page_check.proofs.All.{any_to_hit, any_to_none}
use Rattle.page_laws.specs.Keeps.{Keeps}
use Rattle.page_laws.proofs.Facts.{lawful_tells, lawful_from}
use Rattle.page_laws.proofs.Views.{view_at, view_fun, view_get, view_length}
use Rattle.page_compact.specs.Compaction.{compacted}
use Rattle.page_compact.specs.Laws.{slot_size, Compacts}
use Rattle.page_compact.proofs.Sound.{Sound, sound_of}
use Rattle.page_compact.proofs.Compact.{compacted_long}
use Rattle.page_compact.proofs.Uppers.{compacts}
use Rattle.page_prune.specs.Chains.{Links, walk, start_of, any_dead, chain_of}
use Rattle.page_prune.specs.Pruned.{outcome, slot_after, pruned_slot, pruned_slots, is_change, repoint_to, pruned_page}
use Rattle.page_prune.specs.Laws.{changed, Prunes}
use Rattle.page_prune.specs.declared.outcomes.Outcome.{Outcome}
use Rattle.page_prune.specs.declared.outcomes.Outcome.TheVariants.{Stays, Freed, MadeDead, Redirected}
use Rattle.page_prune.proofs.Names.{Named, pruned_named}
use Rattle.page_prune.proofs.Repoint.{TurnedTo, turned_to}
use Rattle.page_prune.proofs.Left.{chain_ends, pruned_long, pruned_at_lem, pruning, outcome_small, none_dead_left, shows, root_unused}

-- The rules between pointers, of the page and of its list of slots.

pub view_named : (kinds : List Kind) (b : ℕ) (p : List ℕ) → Keeps kinds b p → Named b (view_of p)
view_named kinds b p k =
    let e = view_fun p in let l = view_length p in
    record {
      targets = λ n x y. ap (λ (f : ℕ → Slot). leads_well f (f n)) e ∙ k.redirect_target n x (omega arith);
      once = λ n m x y z. ap (λ (f : ℕ → Slot). other_name (name_of b f (f n)) (name_of b f (f m))) e ∙ k.named_once n m x y (omega arith);
    }

keeps_named : (kinds : List Kind) (b : ℕ) (p : List ℕ) → Sound kinds p → Named b (view_of p) → Keeps kinds b p
keeps_named kinds b p s d =
    let e = sym (view_fun p) in let l = view_length p in
    record {
      header = s.header;
      own = s.own;
      no_overlap = s.no_overlap;
      redirect_target = λ n x y. ap (λ (f : ℕ → Slot). leads_well f (f n)) e ∙ d.targets n x (omega arith);
      named_once = λ n m x y z. ap (λ (f : ℕ → Slot). other_name (name_of b f (f n)) (name_of b f (f m))) e ∙ d.once n m x y (omega arith);
    }

no_change : (o : Outcome) → is_change o ≡ false → o ≡ Stays
no_change Stays h = refl
no_change Freed h = absurd (both_ways true h refl)
no_change MadeDead h = absurd (both_ways true h refl)
no_change (Redirected t) h = absurd (both_ways true h refl)

module _ (kinds : List Kind) (b : ℕ) (nx : ℕ → ℕ) (is_dead : ℕ → Bool) (p : List ℕ) (len : length p ≡ 8192) (law : is_lawful kinds b p ≡ true) (links : Links b (view_of p) nx) where
  abbrev ns : List Slot
  ns = pruned_slots nx is_dead (view_of p)

  abbrev q : List ℕ
  q = repoint_to p (outcome nx is_dead (view_of p)) (count_of p)

  keeps : Keeps kinds b p
  keeps = lawful_tells kinds b p law

  pub named : Named b (view_of p)
  named = view_named kinds b p keeps

  pub few : length (view_of p) ≤ 291
  few = let a = view_length p in let d = keeps.header.pointer_limit in omega arith

  turned : TurnedTo kinds p q (outcome nx is_dead (view_of p)) (count_of p)
  turned =
      turned_to kinds p (outcome nx is_dead (view_of p)) (count_of p) (omega arith) len (sound_of kinds b p keeps)
      (λ k l. outcome_small b (view_of p) nx is_dead named links few (k + 1))

  pruned_get : (k : ℕ) → k < count_of p → get_or ns k unused ≡ slot_after (outcome nx is_dead (view_of p) (k + 1)) (slot_no p (k + 1))
  pruned_get k l =
      let a = view_length p in
      get_or-map-range_with_len (pruned_slot nx is_dead (view_of p)) 1 (length (view_of p)) k (k + 1) unused (omega arith) (omega arith)
      ∙ ap (slot_after (outcome nx is_dead (view_of p) (k + 1))) (view_at p (k + 1))

  long : length ns ≡ count_of p
  long = pruned_long b (view_of p) nx is_dead named links ∙ view_length p

  -- once the pointers say what becomes of them, the slots are the pruned ones, and the page is lawful
  repointed_view : view_of q ≡ ns
  repointed_view =
      let a = view_length q in let d = turned.count in let l = long in
      ext_get_or unused (view_of q) ns (omega arith) (λ k h. view_get q k ∙ turned.past k (omega arith) ∙ sym (pruned_get k (omega arith)))

  pub repointed_lawful : is_lawful kinds b q ≡ true
  repointed_lawful =
      lawful_from kinds b q (keeps_named kinds b q turned.sound
      (subst (λ (ss : List Slot). Named b ss) (sym repointed_view) (pruned_named b (view_of p) ns nx named (pruning b (view_of p) nx is_dead named links))))

  all : Compacts kinds b q (compacted q)
  all = compacts kinds b q turned.long repointed_lawful

  same_view : changed nx is_dead p ≡ false → view_of p ≡ ns
  same_view h =
      let a = view_length p in let l = long in
      ext_get_or unused (view_of p) ns (omega arith)
      (λ k m. view_get p k
      ∙ ap (λ (o : Outcome). slot_after o (slot_no p (k + 1))) (sym (no_change (outcome nx is_dead (view_of p) (k + 1)) (any_to_none (λ k. is_change (outcome nx is_dead (view_of p) (k + 1))) (count_of p) k h (omega arith))))
      ∙ sym (pruned_get k (omega arith)))

  pub prunes : Prunes kinds b nx is_dead p (pruned_page nx is_dead p)
  prunes =
      ⊎_elim
      (λ (h : changed nx is_dead p ≡ true).
      subst (λ (x : List ℕ). Prunes kinds b nx is_dead p x) (sym (cond-true (changed nx is_dead p) (compacted q) p h))
      (record {
        view = all.view ∙ repointed_view;
        lawful = all.lawful;
        header = (λ k x y. all.header.0 k x y ∙ turned.head k (omega arith) (omega arith), λ k x y. all.header.1 k x y ∙ turned.head k (omega arith) (omega arith));
        untouched = λ f. absurd (both_ways (changed nx is_dead p) f h);
        upper = λ t. all.upper ∙ ap (λ (ss : List Slot). 8192 - sum_by slot_size ss) (sym all.view);
        room = λ t. all.room;
        padding = λ t. all.padding;
      }))
      (λ (h : changed nx is_dead p ≡ false).
      subst (λ (x : List ℕ). Prunes kinds b nx is_dead p x) (sym (cond-false (changed nx is_dead p) (compacted q) p h))
      (record {
        view = same_view h;
        lawful = law;
        header = (λ k x y. refl, λ k x y. refl);
        untouched = λ f. refl;
        upper = λ t. absurd (both_ways (changed nx is_dead p) h t);
        room = λ t. absurd (both_ways (changed nx is_dead p) h t);
        padding = λ t. absurd (both_ways (changed nx is_dead p) h t);
      }))
      (cases_Bool (changed nx is_dead p))

  pub pruned_length : length (pruned_page nx is_dead p) ≡ 8192
  pruned_length =
      ⊎_elim
      (λ (h : changed nx is_dead p ≡ true). ap length (cond-true (changed nx is_dead p) (compacted q) p h) ∙ compacted_long kinds q turned.long turned.sound)
      (λ (h : changed nx is_dead p ≡ false). ap length (cond-false (changed nx is_dead p) (compacted q) p h) ∙ len)
      (cases_Bool (changed nx is_dead p))

  pub chains_end : (m : ℕ) → m ≤ count_of p → walk nx (length (view_of p)) (start_of m (slot_at (view_of p) m)) ≡ 0
  chains_end m l = let a = view_length p in chain_ends b (view_of p) nx named links m (omega arith)

  pub nothing_dead : (m : ℕ) → any_dead is_dead (chain_of nx (view_of (pruned_page nx is_dead p)) m) ≡ false
  nothing_dead m = ap (λ (ss : List Slot). any_dead is_dead (chain_of nx ss m)) prunes.view ∙ none_dead_left b (view_of p) nx is_dead named links m

  pub change_shows : changed nx is_dead p ≡ true → view_of (pruned_page nx is_dead p) ≡ view_of p → ⊥
  change_shows h e =
      let r = any_to_hit (λ k. is_change (outcome nx is_dead (view_of p) (k + 1))) (count_of p) h in
      let m = r.0 + 1 in
      let same : pruned_slot nx is_dead (view_of p) m ≡ slot_at (view_of p) m
      = sym (pruned_at_lem b (view_of p) nx is_dead named links m) ∙ ap (λ (ss : List Slot). slot_at ss m) (sym prunes.view ∙ e) in
      let o = shows b (view_of p) nx is_dead named links m (outcome nx is_dead (view_of p) m) refl same in
      both_ways (is_change (outcome nx is_dead (view_of p) m)) (ap is_change o) r.2

  pub roots_stay : (m : ℕ) → is_heap_only (slot_at (view_of p) m) ≡ false → slot_at (view_of (pruned_page nx is_dead p)) m ≡ unused → slot_at (view_of p) m ≡ unused
  roots_stay m root e =
      root_unused b (view_of p) nx is_dead named links m root
      (sym (pruned_at_lem b (view_of p) nx is_dead named links m) ∙ ap (λ (ss : List Slot). slot_at ss m) (sym prunes.view) ∙ e)
