use Rattle.std.proofs.Common.{sym, ap, ◌∙◌}
use Rattle.xid.specs.Statuses.{status_of}
use Rattle.clog.proofs.CodesKept.{code_none}
use Rattle.clog.proofs.codes.read_slot.Goals as goal

pub returns-then-memory-eq0 : goal.returns-then-memory-eq0
returns-then-memory-eq0 c = c.from.ensures ∙ ap status_of (sym (code_none _ c.args.x c.if-memory-eq0.true))
