use Rattle.heap_upkeep.specs.Hints.{hinted, bits_set}
use Rattle.heap_upkeep.proofs.Milder.{hinted_milder}
use Rattle.heap_upkeep.proofs.WholePage.{ready, becomes, counts}
use Rattle.heap_upkeep.proofs.laws.hint_law.Goals as goal

pub returns : goal.returns
returns c told kinds b p s = record {
  slots = becomes kinds b p (ready kinds b p s) (hinted told) (hinted_milder told);
  count = counts kinds b p (ready kinds b p s) (hinted told) (hinted_milder told) (bits_set told);
}
