use Rattle.std.proofs.Common.{◌≡◌, ◌-◌, None}
use Rattle.page_check.specs.All.{first_to}
use Rattle.page_check.specs.Lawful.{page_break}
use Rattle.page_check.specs.declared.rules.PageRule.TheVariants.{NamedOnce}
use Rattle.page_check.proofs.Marks.{Shows}
use Rattle.page_check.proofs.Names.{says}
use Rattle.page_check.proofs.sound.SoundPage.first_named_twice.Given as goal

-- the pointers passed name no version twice, and the marks are their names
abbrev pub invariant-loop-number : goal.invariant-loop-number
invariant-loop-number l = record {
  once : first_to (page_break l.self.block l.self.page.now NamedOnce) (l.number - 1) ≡ None;
  shown : Shows (says l.self.block l.self.page.now) 292 (l.number - 1) l.named;
}
