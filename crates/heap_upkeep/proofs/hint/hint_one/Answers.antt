use Rattle.std.proofs.Common.{◌≡◌, ◌+◌, [], ap, ◌∙◌}
use Rattle.page.specs.Slots.{decoded}
use Rattle.page_write.specs.Fields.{encoded}
use Rattle.xid.specs.Meaning.{Meaning}
use Rattle.heap_upkeep.specs.Hints.{hinted, remover_news, bits_set}
use Rattle.heap_upkeep.proofs.Changes.{changed_one, counted_one}
use Rattle.heap_upkeep.proofs.hint.hint_one.Goals as goal

pub returns-clause-page : goal.returns-clause-page
returns-clause-page g c =
    let m = g.S.StatusSource.meaning c.args.source.now in
    let v = c.in-Some.version in
    let told : c.remover_news-remover.result ≡ remover_news m.status (decoded v []) =
    c.remover_news-remover.ensures.answer ∙ ap (λ (x : Meaning). remover_news x.status (decoded v [])) c.creator_news-creator.ensures.kept in
    let h : c.into.result ≡ encoded (hinted m.status (decoded v [])) = cc in
    changed_one c.args.page.now c.args.number c.in-Some.offset v c.in-Some.ensures (hinted m.status) c.into.result c.rewrite_header.new.page (λ row. h) c.rewrite_header.ensures

pub returns-clause-bits : goal.returns-clause-bits
returns-clause-bits g c =
    let m = g.S.StatusSource.meaning c.args.source.now in
    let v = c.in-Some.version in
    let told : c.remover_news-remover.result ≡ remover_news m.status (decoded v []) =
    c.remover_news-remover.ensures.answer ∙ ap (λ (x : Meaning). remover_news x.status (decoded v [])) c.creator_news-creator.ensures.kept in
    let n : c.bits_of.result + c.bits_of-2.result ≡ bits_set m.status (decoded v []) = cc in
    counted_one c.args.page.now c.args.number c.in-Some.offset v c.in-Some.ensures (bits_set m.status) (c.bits_of.result + c.bits_of-2.result) (λ row. n)
