use Rattle.std.proofs.Common.{◌≡◌, ◌-◌}
use Rattle.page_prune.specs.Pruned.{repoint_to, outcome_in}
use Rattle.page_prune.proofs.prune.repoint_all.Given as goal

abbrev pub invariant-loop-number : goal.invariant-loop-number
invariant-loop-number l = l.page ≡ repoint_to l.initial.page (outcome_in l.outcomes) (l.number - 1)
