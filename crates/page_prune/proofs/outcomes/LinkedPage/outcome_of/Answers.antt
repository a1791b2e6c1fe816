use Rattle.std.proofs.Common.{sym, ap, ◌∙◌, List, arith}
use Rattle.page_prune.specs.Members.{next_in, dead_in, ahead}
use Rattle.page_prune.specs.Marking.{is_chained, is_lost}
use Rattle.page_prune.specs.Pruned.{root_outcome, heap_only_outcome}
use Rattle.page_prune.specs.declared.chains.Member.{Member}
use Rattle.page_check.specs.Rules.{is_heap_only}
use Rattle.page_check.proofs.Slots.{slot_no_in}
use Rattle.page_prune.proofs.Ready.{heap_only_decided, root_decided}
use Rattle.page_prune.proofs.outcomes.LinkedPage.outcome_of.Goals as goal

pub returns-then-is_heap_only : goal.returns-then-is_heap_only
returns-then-is_heap_only c =
    let s = c.args.self.now in let n = c.args.number in let ms = c.args.marks.now in
    heap_only_decided s.page.now (next_in s.members.now) (dead_in s.members.now) n c.requires.first c.requires.last c.heap_only_outcome.result ms
    (omega (arith, s.few, c.requires.last)) c.requires.marked (sym c.if-is_heap_only.true ∙ c.is_heap_only.ensures.slot s.lie ∙ ap is_heap_only (slot_no_in s.page.now n c.requires.first c.requires.last))
    (c.heap_only_outcome.ensures ∙ ap (heap_only_outcome (is_lost ms n) (is_chained ms n)) c.is_dead.ensures)

pub returns-else-is_heap_only : goal.returns-else-is_heap_only
returns-else-is_heap_only c =
    let s = c.args.self.now in
    root_decided s.page.now (next_in s.members.now) (dead_in s.members.now) c.args.number c.requires.first c.requires.last c.root_outcome.result
    (sym c.if-is_heap_only.false ∙ c.is_heap_only.ensures.slot s.lie ∙ ap is_heap_only (slot_no_in s.page.now c.args.number c.requires.first c.requires.last))
    (c.root_outcome.ensures ∙ ap (λ (t : List Member). root_outcome (dead_in t) (ahead c.chain_of.result)) c.chain_of.ensures.members ∙ ap (root_outcome (dead_in s.members.now)) c.chain_of.ensures.ahead)
