use Rattle.std.proofs.Common.{◌≡◌, ◌+◌, leb, Some, None, ◌∙◌, arith, rules}
use Rattle.std.proofs.lemmas.Bool.{cond-true, le-leb}
use Rattle.page.specs.Versions.{header_at}
use Rattle.page_check.specs.Marking.{Lies}
use Rattle.page_check.proofs.Slots.{lies_no}
use Rattle.heap_read.proofs.Shown.{number_in}
use Rattle.heap_read.proofs.links.is_root.Goals as goal

pub returns-in-Normal : goal.returns-in-Normal
returns-in-Normal c =
    let p = c.args.page.now in
    let o = c.in-Normal.offset in
    let i = number_in p c.args.number _ c.pointer_numbers.ensures c.if-not-contains.ensures.cases in
    let l : Lies o c.in-Normal.len = rw (← c.in-Normal.ensures) at (lies_no p c.args.number c.requires i.0 i.1) in
    let e : c.version_at.result ≡ Some (header_at p o) =
    c.version_at.ensures ∙ cond-true (leb (o + 24) 8192) (Some (header_at p o)) None (le-leb (o + 24) 8192 (omega (arith, l.ends, l.holds_kind))) in
    let d = rw e at c.is_some_and.ensures in
    search rules
