use Rattle.std.proofs.Common.{◌≡◌, ◌+◌, drop}
use Rattle.page.specs.Bytes.{put_bytes}
use Rattle.page.proofs.bytes.write.Given as goal

-- what is left to write gives the page
abbrev pub invariant-loop-k : goal.invariant-loop-k
invariant-loop-k g l = put_bytes l.page (l.at + l.k) (drop l.k l.byte-items) ≡ put_bytes l.fn.page l.at l.byte-items
