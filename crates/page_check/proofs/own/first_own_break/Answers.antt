use Rattle.std.proofs.Common.{◌≡◌, ℕ, ◌+◌, ◌-◌, refl, sym, ap, ◌∙◌, arith}
use Rattle.page.specs.LinePointers.{line_pointer_at}
use Rattle.page.specs.Headers.{count_of}
use Rattle.page_check.specs.Lawful.{own_break}
use Rattle.page_check.proofs.All.{first_to_more, first_to_hit, first_to_end}
use Rattle.page_check.proofs.own.first_own_break.Goals as goal

pub returns-in-Some : goal.returns-in-Some
returns-in-Some c =
    let p = c.args.page.now in
    let f = λ (n : ℕ). own_break c.args.kinds.now p n (line_pointer_at p n) in
    let e : c.loop-number.number ≡ c.loop-number.number - 1 + 1 = omega arith in
    first_to_hit f (c.loop-number.number - 1) (count_of p) _ c.loop-number.invariant (omega arith) (c.in-Some.ensures ∙ ap f e) refl

pub loop-number-preserved : goal.loop-number-preserved
loop-number-preserved c =
    let p = c.args.page.now in
    let f = λ (n : ℕ). own_break c.args.kinds.now p n (line_pointer_at p n) in
    let e : c.loop-number.number - 1 + 1 ≡ c.loop-number.number = omega arith in
    let d : c.loop-number.number + 1 - 1 ≡ c.loop-number.number - 1 + 1 = omega arith in
    rw d (first_to_more f (c.loop-number.number - 1) c.loop-number.invariant (ap f e ∙ sym c.in_default.ensures))

pub returns : goal.returns
returns c =
    let p = c.args.page.now in
    first_to_end (λ n. own_break c.args.kinds.now p n (line_pointer_at p n)) (c.loop-number.number - 1) (count_of p) c.loop-number.invariant (omega arith)
