use Rattle.std.proofs.Common.{◌≡◌, ◌+◌, ◌*◌, ◌%◌, sym, ap, ◌∙◌, arith}
use Rattle.xid.specs.Statuses.{code_of}
use Rattle.clog.specs.Codes.{with_code}
use Rattle.clog.proofs.codes.with_code.Goals as goal

pub returns-in_default : goal.returns-in_default
returns-in_default c =
    let last : c.args.x % 4 ≡ 3 = omega arith in
    let code = c.from-code.ensures.value in
    let here : c.from-code.result * 64 + c.args.byte % 64 ≡ with_code c.args.byte 3 (code_of c.args.status) = omega arith in
    here ∙ ap (λ k. with_code c.args.byte k (code_of c.args.status)) (sym last)
