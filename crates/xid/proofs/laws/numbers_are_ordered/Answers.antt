use Rattle.xid.proofs.Distances.{successor-distance, order_in_window, not_both_before}
use Rattle.xid.proofs.Line.{line_is_ordered}
use Rattle.xid.proofs.laws.numbers_are_ordered.Goals as goal

pub returns : goal.returns
returns c = record { successor = successor-distance; window = order_in_window; once = not_both_before; line = line_is_ordered }
