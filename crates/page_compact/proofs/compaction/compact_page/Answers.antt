use Rattle.page_laws.proofs.Facts.{lawful_tells}
use Rattle.page_compact.proofs.Sound.{sound_of}
use Rattle.page_compact.proofs.Tops.{sound_packs}
use Rattle.page_compact.proofs.compaction.compact_page.Goals as goal

pub lay_all-upper-requires-clause-packs : goal.lay_all-upper-requires-clause-packs
lay_all-upper-requires-clause-packs c =
    let h = c.requires in let p = c.args.page.now in
    sound_packs h.kinds p (sound_of h.kinds h.block p (lawful_tells h.kinds h.block p h.lawful))
