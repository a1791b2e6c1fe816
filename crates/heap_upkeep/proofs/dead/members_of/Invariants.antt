use Rattle.std.proofs.Common.{◌≡◌, ◌-◌, length}
use Rattle.page.specs.Slots.{slot_no}
use Rattle.page_prune.specs.Members.{no_member}
use Rattle.heap_upkeep.specs.Dead.{member_of}
use Rattle.heap_upkeep.proofs.Tables.{Filled, AlongTo}
use Rattle.heap_upkeep.proofs.dead.members_of.Given as goal

-- the members among the pointers passed
abbrev pub invariant-loop-number : goal.invariant-loop-number
invariant-loop-number g l =
    let m = g.S.StatusSource.meaning l.initial.source in
    record {
      long : length l.members ≡ 292;
      along : AlongTo l.block l.page (l.number - 1) l.members;
      kept : g.S.StatusSource.meaning l.source ≡ m;
      filled : Filled (λ n. member_of m.status l.horizon l.block (slot_no l.page) (slot_no l.page n)) no_member (l.number - 1) l.members;
    }
