use Rattle.std.proofs.Common.{length, refl}
use Rattle.page_write.specs.Empty.{empty_page}
use Rattle.page_write_laws.specs.Edges.{put_all}
use Rattle.page_write_laws.proofs.Filling.{all_filled, filled_takes}
use Rattle.page_write_laws.proofs.edge_law.Goals as goal

pub returns : goal.returns
returns c = record {
  law = λ reserve n vs each few. filled_takes (put_all empty_page vs) n (length vs) (all_filled n vs each few) reserve;
  kinds = refl;
}
