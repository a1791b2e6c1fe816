use Rattle.std.proofs.Common.{◌≡◌, ◌-◌, length, None}
use Rattle.page_check.specs.All.{first_to}
use Rattle.page_check.specs.Lawful.{page_break}
use Rattle.page_check.specs.declared.rules.PageRule.TheVariants.{NoOverlap}
use Rattle.page_check.proofs.Marks.{Shows}
use Rattle.page_check.proofs.Cells.{cov}
use Rattle.page_check.proofs.sound.SoundPage.first_overlap.Given as goal

-- the versions passed do not overlap, and the cells are theirs
abbrev pub invariant-loop-number : goal.invariant-loop-number
invariant-loop-number l = record {
  apart : first_to (page_break l.self.block l.self.page.now NoOverlap) (l.number - 1) ≡ None;
  shown : Shows (cov l.self.page.now) 1024 (l.number - 1) l.cells;
  long : length l.cells ≡ 1024;
}
