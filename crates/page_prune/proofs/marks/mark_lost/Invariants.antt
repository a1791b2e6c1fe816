use Rattle.std.proofs.Common.{◌≡◌, ℕ, ◌≤◌, ◌||◌, length}
use Rattle.page_prune.specs.Chains.{member}
use Rattle.page_prune.specs.Marking.{is_chained, is_lost}
use Rattle.page_prune.proofs.marks.mark_lost.Given as goal

-- the members passed are marked
abbrev pub invariant-loop-number : goal.invariant-loop-number
invariant-loop-number l = record {
  long : length l.marks ≡ 292;
  passed : (x : ℕ) → x ≤ 291 → is_lost l.marks x ≡ (member x l.yielded || is_lost l.initial.marks x);
  kept : (x : ℕ) → is_chained l.marks x ≡ is_chained l.initial.marks x;
}
