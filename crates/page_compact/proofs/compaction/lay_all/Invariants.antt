use Rattle.std.proofs.Common.{◌≡◌, ◌-◌, ◌≤◌}
use Rattle.page_compact.specs.Compaction.{laid_to, top_to}
use Rattle.page_compact.proofs.compaction.lay_all.Given as goal

-- the versions of the pointers passed are laid
abbrev pub invariant-loop-number : goal.invariant-loop-number
invariant-loop-number l = (l.page ≡ laid_to l.old (l.number - 1)) × (l.top ≡ top_to l.old (l.number - 1)) × (l.top ≤ 8192)
