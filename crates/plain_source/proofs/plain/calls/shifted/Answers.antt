use Rattle.std.proofs.Common.{◌++◌, drop, get_or, length, replicate, ap, ◌∙◌}
use Rattle.xid.specs.declared.statuses.Status.TheVariants.{Unknown}
use Rattle.plain_source.proofs.Shifting.{left_from, moved_down}
use Rattle.plain_source.proofs.plain.calls.shifted.Goals as goal

pub returns-in-Some : goal.returns-in-Some
returns-in-Some c = λ k.
    let statuses = c.args.statuses.now in
    let left = c.in-Some.left.now in
    let came = c.in-Some.ensures.lookup.0.2 ∙ left_from statuses c.args.by in
    ap (λ xs. get_or (xs ++ drop (length left) (replicate 16 Unknown)) k Unknown) c.copy_from_slice.ensures.after ∙ moved_down statuses left c.args.by 16 k came
