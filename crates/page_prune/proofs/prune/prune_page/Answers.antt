use Rattle.std.proofs.Common.{◌∙◌}
use Rattle.page.specs.Slots.{view_of}
use Rattle.page_prune.specs.Members.{next_in, dead_in}
use Rattle.page_prune.specs.Pruned.{outcome_in, outcome, slot_after, loses_version, becomes_dead}
use Rattle.page_prune.proofs.Ready.{few, lie, within, small}
use Rattle.page_prune.proofs.Counts.{count_slots, pruned_along_is, pruned_same, removed_same, dead_same, lawful_repointed}
use Rattle.page_prune.proofs.prune.prune_page.Goals as goal

pub invariant_of-linked : goal.invariant_of-linked
invariant_of-linked c =
    let p = c.args.page.now in let nx = next_in c.args.members.now in
    record { counted = c.pointer_count-count.ensures; few = few p nx c.requires; lie = lie p nx c.requires; links = within p nx c.requires; starts = small p nx c.requires }

pub prune_by-requires : goal.prune_by-requires
prune_by-requires c =
    let ms = c.args.members.now in
    lawful_repointed c.args.page.now (next_in ms) (dead_in ms) (outcome_in c.outcomes-outcomes.result) c.told-page c.requires c.outcomes-outcomes.ensures

pub returns : goal.returns
returns c =
    let p = c.args.page.now in
    let os = outcome_in c.outcomes-outcomes.result in
    let os' = outcome (next_in c.args.members.now) (dead_in c.args.members.now) (view_of p) in
    record {
      page = c.prune_by.ensures.page ∙ pruned_along_is p os ∙ pruned_same p os os' c.outcomes-outcomes.ensures;
      removed = c.prune_by.ensures.removed ∙ count_slots (λ n s. loses_version s (slot_after (os n) s)) p ∙ removed_same p os os' c.outcomes-outcomes.ensures;
      dead = c.prune_by.ensures.dead ∙ count_slots (λ n s. becomes_dead s (slot_after (os n) s)) p ∙ dead_same p os os' c.outcomes-outcomes.ensures;
    }
