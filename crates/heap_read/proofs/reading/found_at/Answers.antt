use Rattle.std.proofs.Common.{ℕ, List, [], sym, ap, ◌∙◌, subst}
use Rattle.page.specs.Slots.{slot_no}
use Rattle.page_check.specs.Marking.{AllLie}
use Rattle.page_check.proofs.Slots.{slot_no_in, lies_no}
use Rattle.heap_read.specs.Reading.{found_in}
use Rattle.heap_read.proofs.Shown.{number_in, slot_out}
use Rattle.heap_read.proofs.reading.found_at.Goals as goal

pub found_on-requires : goal.found_on-requires
found_on-requires c =
    let page = c.in_ok-page.ensures.lookup.3 in
    let i = number_in c.in_ok-page.page.now c.args.address.pointer _ c.pointer_numbers.ensures c.if-not-contains.ensures.cases in
    lies_no c.in_ok-page.page.now c.args.address.pointer (subst AllLie (sym (page.1 [])) (c.requires c.args.address.block page.0)) i.0 i.1

pub returns-then-not-contains : goal.returns-then-not-contains
returns-then-not-contains c =
    let a = c.args.address in
    let page = c.in_ok-page.ensures.lookup.3 in
    sym (ap (found_in a) (slot_out c.in_ok-page.page.now a.pointer _ c.pointer_numbers.ensures c.if-not-contains.ensures.cases))
    ∙ ap (λ (p : List ℕ). found_in a (slot_no p a.pointer)) (page.1 [])

pub returns : goal.returns
returns c =
    let a = c.args.address in
    let page = c.in_ok-page.ensures.lookup.3 in
    let i = number_in c.in_ok-page.page.now a.pointer _ c.pointer_numbers.ensures c.if-not-contains.ensures.cases in
    c.found_on.ensures ∙ ap (found_in a) (sym (slot_no_in c.in_ok-page.page.now a.pointer i.0 i.1)) ∙ ap (λ (p : List ℕ). found_in a (slot_no p a.pointer)) (page.1 [])
