use Rattle.std.proofs.Common.{List, map, sym, ap, ◌∙◌, subst}
use Rattle.page.specs.Slots.{Slot, slot_at, view_of}
use Rattle.page_laws.proofs.Facts.{lawful_tells}
use Rattle.page_write_laws.specs.Laws.{Becomes}
use Rattle.page_write_laws.specs.Slots.{on_version}
use Rattle.page_prune.proofs.Left.{pruning}
use Rattle.page_prune.proofs.Whole.{prunes, named, pruned_length}
use Rattle.heap_read.specs.Links.{link_at}
use Rattle.heap_upkeep.specs.Freezing.{frozen_at, marked_page}
use Rattle.heap_upkeep.specs.Pruning.{dead_at, pruned_at}
use Rattle.heap_upkeep.proofs.Milder.{frozen_milder}
use Rattle.heap_upkeep.proofs.PruneLinks.{told_links}
use Rattle.heap_upkeep.proofs.WholePage.{Ready, ready, becomes}
use Rattle.heap_upkeep.proofs.laws.freeze_law.Goals as goal

-- the versions that a prune leaves stood on the page before
pub returns : goal.returns
returns c told h cut kinds b p s =
    let nx = link_at told b p in
    let gone = dead_at told h p in
    let links = told_links kinds b p (lawful_tells kinds b p s.lawful) told in
    let pruned = prunes kinds b nx gone p s.long s.lawful links in
    let left = pruning b (view_of p) nx gone (named kinds b nx gone p s.long s.lawful links) links in
    let after : Ready kinds b (pruned_at told h b p) = record {
      long = pruned_length kinds b nx gone p s.long s.lawful links;
      lawful = pruned.lawful;
      same = λ k u e. (ready kinds b p s).same k u (left.versions k u (ap (λ (ss : List Slot). slot_at ss k) (sym pruned.view) ∙ e));
    } in
    subst (λ (ss : List Slot). Becomes kinds b (marked_page told cut (pruned_at told h b p)) (map (on_version (frozen_at told cut)) ss)) pruned.view
    (becomes kinds b (pruned_at told h b p) after (frozen_at told cut) (frozen_milder told cut))
