use Rattle.std.proofs.Common.{ℕ, ◌≤◌, Bool}
use Rattle.std.proofs.lemmas.List.Filters.{FiltersInPlace}
use Rattle.snapshot.specs.Lists.{Computes}
use Rattle.snapshot.proofs.lists.XidList.retain.Given as goal

-- the first `count` are what passes of the numbers seen
abbrev pub invariant-loop-i : goal.invariant-loop-i
invariant-loop-i g l = record {
  callable : goal.F-IsAlwaysCallable g l.keeps;
  few : l.count ≤ l.i;
  kept : (p : ℕ → Bool) → Computes (goal.F-post g l.keeps) p → FiltersInPlace p l.initial.self.items l.self.items l.count l.i;
}
