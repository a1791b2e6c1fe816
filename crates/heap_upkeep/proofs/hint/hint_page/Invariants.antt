use Rattle.std.proofs.Common.{◌≡◌, ◌+◌, ◌-◌, ◌*◌, ◌≤◌}
use Rattle.page_write.specs.Changing.{change_to}
use Rattle.heap_upkeep.specs.Along.{count_along}
use Rattle.heap_upkeep.specs.Hints.{hinted, bits_set}
use Rattle.heap_upkeep.proofs.hint.hint_page.Given as goal

-- the versions passed are hinted, and their bits counted
abbrev pub invariant-loop-number : goal.invariant-loop-number
invariant-loop-number g l =
    let m = g.S.StatusSource.meaning l.initial.source in
    (l.bits + 2 ≤ 2 * l.number)
    × (g.S.StatusSource.meaning l.source ≡ m)
    × (l.page ≡ change_to (hinted m.status) l.initial.page (l.number - 1))
    × (l.bits ≡ count_along (bits_set m.status) (hinted m.status) l.initial.page (l.number - 1))
