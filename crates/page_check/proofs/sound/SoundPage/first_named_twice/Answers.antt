use Rattle.std.proofs.Common.{◌≡◌, ◌+◌, ◌-◌, Some, false, sym, refl, ap, ◌∙◌, arith, rules}
use Rattle.std.proofs.lemmas.List.{get_or-replicate}
use Rattle.page.specs.Headers.{count_of}
use Rattle.page_check.specs.Marking.{name_free, name_taken}
use Rattle.page_check.specs.Lawful.{page_break}
use Rattle.page_check.specs.declared.rules.PageRule.TheVariants.{NamedOnce}
use Rattle.page_check.specs.declared.rules.Broken.TheVariants.{Among}
use Rattle.page_check.proofs.All.{first_to_end}
use Rattle.page_check.proofs.Names.{name_at, name_fits, names_none, names_some}
use Rattle.page_check.proofs.sound.SoundPage.first_named_twice.Goals as goal

pub loop-number-init : goal.loop-number-init
loop-number-init c = record { once = refl; shown = λ x l. get_or-replicate 292 x false false l }

pub take_name-requires : goal.take_name-requires
take_name-requires c =
    let s = c.args.self.now in name_fits s.block s.page.now c.loop-number.number c.name_of.result s.few (omega arith) (omega arith) c.name_of.ensures

pub returns-then-not-take_name : goal.returns-then-not-take_name
returns-then-not-take_name c =
    let s = c.args.self.now in let h = c.loop-number.invariant in
    let e : c.loop-number.number - 1 + 1 ≡ c.loop-number.number = omega arith in
    let n = name_at s.block s.page.now c.loop-number.number c.name_of.result (omega arith) (omega arith) c.name_of.ensures in
    ap (λ k. Some (Among k NamedOnce)) (sym e)
    ∙ names_some s.block s.page.now s.few (c.loop-number.number - 1) c.loop-number.named h.shown (omega arith) h.once
    (c.if-not-take_name.ensures.answer ∙ ap (name_free c.loop-number.named) n)

pub loop-number-preserved : goal.loop-number-preserved
loop-number-preserved c =
    let s = c.args.self.now in let h = c.loop-number.invariant in
    let d : c.loop-number.number + 1 - 1 ≡ c.loop-number.number - 1 + 1 = omega arith in
    let n = name_at s.block s.page.now c.loop-number.number c.name_of.result (omega arith) (omega arith) c.name_of.ensures in
    let r = names_none s.block s.page.now s.few (c.loop-number.number - 1) c.loop-number.named h.shown c.take_name.new.named (search rules) h.once
    (c.if-not-take_name.ensures.answer ∙ ap (name_free c.loop-number.named) n)
    (c.take_name.ensures.named ∙ ap (name_taken c.loop-number.named) n) in
    record { once = rw d r.0; shown = rw d r.1 }

pub returns : goal.returns
returns c =
    let s = c.args.self.now in
    first_to_end (page_break s.block s.page.now NamedOnce) (c.loop-number.number - 1) (count_of s.page.now) c.loop-number.invariant.once (omega arith)
