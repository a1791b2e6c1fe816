use Rattle.std.proofs.Common.{◌≡◌, ◌-◌, ◌<◌}
use Rattle.page_write.specs.Changing.{change_to}
use Rattle.heap_upkeep.specs.Along.{one, count_along}
use Rattle.heap_upkeep.specs.Freezing.{to_freeze, to_clear, frozen_at}
use Rattle.heap_upkeep.proofs.freeze.mark_page.Given as goal

-- the versions passed are marked and counted
abbrev pub invariant-loop-number : goal.invariant-loop-number
invariant-loop-number g l =
    let m = g.S.StatusSource.meaning l.initial.source in
    (l.count.frozen < l.number)
    × (l.count.cleared < l.number)
    × (g.S.StatusSource.meaning l.source ≡ m)
    × (l.page ≡ change_to (frozen_at m.status l.cutoff) l.initial.page (l.number - 1))
    × (l.count.frozen ≡ count_along (λ v. one (to_freeze m.status l.cutoff v)) (frozen_at m.status l.cutoff) l.initial.page (l.number - 1))
    × (l.count.cleared ≡ count_along (λ v. one (to_clear m.status l.cutoff v)) (frozen_at m.status l.cutoff) l.initial.page (l.number - 1))
