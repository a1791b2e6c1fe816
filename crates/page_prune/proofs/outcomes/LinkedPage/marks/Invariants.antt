use Rattle.std.proofs.Common.{◌≡◌, ℕ, ◌+◌, ◌-◌, ◌≤◌}
use Rattle.page.specs.Slots.{view_of}
use Rattle.page_check.specs.All.{any_to}
use Rattle.page_prune.specs.Chains.{chain_of, member, lost}
use Rattle.page_prune.specs.Members.{next_in, dead_in}
use Rattle.page_prune.specs.Marking.{is_chained, is_lost}
use Rattle.page_prune.proofs.outcomes.LinkedPage.marks.Given as goal

-- the chains of the roots passed are marked
abbrev pub invariant-loop-number : goal.invariant-loop-number
invariant-loop-number l =
    let nx = next_in l.self.members.now in let gone = dead_in l.self.members.now in let ss = view_of l.self.page.now in
    record {
      chained : (x : ℕ) → x ≤ 291 → is_chained l.marks x ≡ any_to (λ r. member x (chain_of nx ss (r + 1))) (l.number - 1);
      lost : (x : ℕ) → x ≤ 291 → is_lost l.marks x ≡ any_to (λ r. member x (lost gone (chain_of nx ss (r + 1)))) (l.number - 1);
    }
