use Rattle.std.proofs.Common.{◌≡◌, cond}
use Rattle.page_prune.specs.Chains.{any_dead, left}
use Rattle.page_prune.specs.Members.{dead_in, ahead}
use Rattle.page_prune.proofs.Walks.{limit_left}
use Rattle.page_prune.proofs.chains.Chain.left.Given as goal

-- what is left so far stays, and its limit, unless a member to come is dead
abbrev pub invariant-loop-number : goal.invariant-loop-number
invariant-loop-number l =
    let gone = dead_in l.members in
    record {
      part : left gone (ahead l.initial.self) ≡ cond (any_dead gone (ahead l.self)) (left gone (ahead l.self)) (ahead l.left);
      limit : limit_left gone l.initial.self.limit (ahead l.initial.self) ≡ cond (any_dead gone (ahead l.self)) (limit_left gone l.self.limit (ahead l.self)) l.left.limit;
    }

abbrev pub decreases-loop-number : goal.decreases-loop-number
decreases-loop-number l = l.self.limit
