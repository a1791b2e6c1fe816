use Rattle.std.proofs.Common.{◌≡◌, ℕ, ◌<◌, ◌≤◌, length}
use Rattle.page.specs.Slots.{view_of}
use Rattle.page_prune.specs.Members.{next_in, dead_in}
use Rattle.page_prune.specs.Pruned.{outcome_in, outcome}
use Rattle.page_prune.proofs.outcomes.LinkedPage.outcomes.Given as goal

-- the pointers passed are decided
abbrev pub invariant-loop-number : goal.invariant-loop-number
invariant-loop-number l =
    record {
      long : length l.outcomes ≡ 292;
      decided : (k : ℕ) → 1 ≤ k → k < l.number → outcome_in l.outcomes k ≡ outcome (next_in l.self.members.now) (dead_in l.self.members.now) (view_of l.self.page.now) k;
    }
