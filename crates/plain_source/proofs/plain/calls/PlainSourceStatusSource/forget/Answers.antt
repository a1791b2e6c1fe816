use Rattle.std.proofs.Common.{◌≡◌, ℕ, ◌+◌, get_or, ap, sym, ◌∙◌, rules}
use Rattle.std.specs.Prelude.{nat_le}
use Rattle.xid.specs.declared.statuses.Status.TheVariants.{Unknown}
use Rattle.xid.specs.Numbers.{distance}
use Rattle.plain_source.proofs.Changes.{forgot_bounded, forgot_meaning}
use Rattle.plain_source.proofs.plain.calls.PlainSourceStatusSource.forget.Goals as goal

pub invariant_of-self : goal.invariant_of-self
invariant_of-self c =
    let p = c.args.self.now in
    let o = p.window.oldest in
    let down = c.shifted-self.result in
    let moved : (k : ℕ) → get_or down k Unknown ≡ get_or p.statuses (distance o c.args.c + k) Unknown
    = λ k. c.shifted-self.ensures k ∙ ap (λ d. get_or p.statuses (d + k) Unknown) c.distance.ensures in
    record { all = search rules; bounded = forgot_bounded p.statuses down o p.window.next c.args.c p.bounded c.ranges.c.fits (sym c.is_forgettable.ensures ∙ c.if-not-is_forgettable.false) moved }

pub returns-clause-meaning : goal.returns-clause-meaning
returns-clause-meaning c =
    let p = c.args.self.now in
    let o = p.window.oldest in
    let down = c.shifted-self.result in
    let moved : (k : ℕ) → get_or down k Unknown ≡ get_or p.statuses (distance o c.args.c + k) Unknown
    = λ k. c.shifted-self.ensures k ∙ ap (λ d. get_or p.statuses (d + k) Unknown) c.distance.ensures in
    forgot_meaning p.statuses down o p.window.next c.args.c p.bounded c.ranges.c.fits (sym c.is_forgettable.ensures ∙ c.if-not-is_forgettable.false) moved
    (nat_le 8 (distance c.args.c p.window.next))
