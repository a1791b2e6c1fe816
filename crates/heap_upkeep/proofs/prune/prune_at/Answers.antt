use Rattle.std.proofs.Common.{◌≡◌, ℕ, true, List, sym, subst}
use Rattle.page_check.specs.Lawful.{is_lawful}
use Rattle.page_prune.specs.Members.{next_in, dead_in}
use Rattle.page_prune.proofs.Whole.{prunes as still-lawful}
use Rattle.page_laws.proofs.Facts.{lawful_tells}
use Rattle.page_laws.proofs.Own.{keeps_lie}
use Rattle.heap_upkeep.proofs.PruneLinks.{along_links, prunes}
use Rattle.heap_upkeep.proofs.prune.prune_at.Goals as goal

pub members_of-members-requires : goal.members_of-members-requires
members_of-members-requires g c =
    let k = lawful_tells c.requires.kinds c.args.block c.args.page.now c.requires.lawful in
    record { few = k.header.pointer_limit; lie = keeps_lie c.requires.kinds c.args.block c.args.page.now k }

pub prune_page-requires : goal.prune_page-requires
prune_page-requires g c =
    let h = c.requires in let p = c.args.page.now in let b = c.args.block in
    record {
      kinds = h.kinds;
      block = b;
      lawful = h.lawful;
      links = along_links h.kinds b p (lawful_tells h.kinds b p h.lawful) c.members_of-members.result c.members_of-members.ensures.along;
    }

pub returns : goal.returns
returns g c =
    let told = (g.S.StatusSource.meaning c.args.source.now).status in
    let p = c.args.page.now in let b = c.args.block in let kinds = c.requires.kinds in
    let t = c.members_of-members.result in
    let links = along_links kinds b p (lawful_tells kinds b p c.requires.lawful) t c.members_of-members.ensures.along in
    let after : is_lawful kinds b c.prune_page.new.page ≡ true =
    subst (λ (q : List ℕ). is_lawful kinds b q ≡ true) (sym c.prune_page.ensures.page)
    (still-lawful kinds b (next_in t) (dead_in t) p c.told-page c.requires.lawful links).lawful in
    record {
      lawful = record { kinds = kinds; lawful = after };
      few = (lawful_tells kinds b c.prune_page.new.page after).header.pointer_limit;
      told = prunes told c.args.horizon b p t c.members_of-members.ensures.told c.prune_page.new.page c.prune_page.result.removed c.prune_page.result.made_dead
          c.prune_page.ensures.page c.prune_page.ensures.removed c.prune_page.ensures.dead;
      kept = c.members_of-members.ensures.kept;
    }
