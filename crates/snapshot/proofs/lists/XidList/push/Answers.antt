use Rattle.std.proofs.Common.{sym, arith}
use Rattle.snapshot.proofs.Numbers.{has_room, pushed}
use Rattle.snapshot.proofs.lists.XidList.push.Goals as goal

pub returns : goal.returns
returns c = record {
  answer = sym (has_room c.args.self.now.items c.args.self.now.len c.args.x (omega arith) (omega arith));
  numbers = pushed c.args.self.now.items c.args.self.now.len c.args.x (omega arith) (omega arith);
}
