use Rattle.heap_upkeep.specs.Along.{one}
use Rattle.heap_upkeep.specs.Freezing.{to_freeze, to_clear, frozen_at}
use Rattle.heap_upkeep.proofs.Milder.{frozen_milder}
use Rattle.heap_upkeep.proofs.WholePage.{ready, becomes, counts}
use Rattle.heap_upkeep.proofs.laws.marks_law.Goals as goal

pub returns : goal.returns
returns c told cut kinds b p s = record {
  slots = becomes kinds b p (ready kinds b p s) (frozen_at told cut) (frozen_milder told cut);
  frozen = counts kinds b p (ready kinds b p s) (frozen_at told cut) (frozen_milder told cut) (λ v. one (to_freeze told cut v));
  cleared = counts kinds b p (ready kinds b p s) (frozen_at told cut) (frozen_milder told cut) (λ v. one (to_clear told cut v));
}
