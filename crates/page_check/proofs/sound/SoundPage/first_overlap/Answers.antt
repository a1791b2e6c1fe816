use Rattle.std.proofs.Common.{◌≡◌, ◌+◌, ◌-◌, Some, false, sym, refl, ap, ◌∙◌, arith}
use Rattle.std.proofs.lemmas.List.{get_or-replicate, length-replicate}
use Rattle.page.specs.Headers.{count_of}
use Rattle.page.specs.LinePointers.{pointer_at}
use Rattle.page_check.specs.Marking.{cells_free, cells_taken}
use Rattle.page_check.specs.Lawful.{page_break}
use Rattle.page_check.specs.declared.rules.PageRule.TheVariants.{NoOverlap}
use Rattle.page_check.specs.declared.rules.Broken.TheVariants.{Among}
use Rattle.page_check.proofs.All.{first_to_end}
use Rattle.page_check.proofs.Slots.{lies_no}
use Rattle.page_check.proofs.Cells.{overlap_none, overlap_some}
use Rattle.page_check.proofs.sound.SoundPage.first_overlap.Goals as goal

pub loop-number-init : goal.loop-number-init
loop-number-init c = record {
  apart = refl;
  shown = λ x l. get_or-replicate 1024 x false false l;
  long = length-replicate 1024 false;
}

pub take_cells-requires : goal.take_cells-requires
take_cells-requires c = let s = c.args.self.now in rw c.pointer_at.ensures (lies_no s.page.now c.loop-number.number s.lie (omega arith) (omega arith))

pub returns-then-not-take_cells : goal.returns-then-not-take_cells
returns-then-not-take_cells c =
    let s = c.args.self.now in let h = c.loop-number.invariant in
    let e : c.loop-number.number - 1 + 1 ≡ c.loop-number.number = omega arith in
    ap (λ k. Some (Among k NoOverlap)) (sym e)
    ∙ overlap_some s.page.now s.lie (c.loop-number.number - 1) (omega arith) c.loop-number.cells h.shown h.apart
    (c.if-not-take_cells.ensures.answer ∙ ap (cells_free c.loop-number.cells) (c.pointer_at.ensures ∙ ap (pointer_at s.page.now) (sym e)))

pub loop-number-preserved : goal.loop-number-preserved
loop-number-preserved c =
    let s = c.args.self.now in let h = c.loop-number.invariant in
    let e : c.loop-number.number - 1 + 1 ≡ c.loop-number.number = omega arith in
    let d : c.loop-number.number + 1 - 1 ≡ c.loop-number.number - 1 + 1 = omega arith in
    let at = c.pointer_at.ensures ∙ ap (pointer_at s.page.now) (sym e) in
    let r = overlap_none s.page.now s.lie (c.loop-number.number - 1) (omega arith) c.loop-number.cells h.shown c.take_cells.new.cells h.long h.apart
    (c.if-not-take_cells.ensures.answer ∙ ap (cells_free c.loop-number.cells) at)
    (c.take_cells.ensures.cells ∙ ap (cells_taken c.loop-number.cells) at) in
    record { apart = rw d r.0; shown = rw d r.1; long = c.take_cells.array_long }

pub returns : goal.returns
returns c =
    let s = c.args.self.now in
    first_to_end (page_break s.block s.page.now NoOverlap) (c.loop-number.number - 1) (count_of s.page.now) c.loop-number.invariant.apart (omega arith)
