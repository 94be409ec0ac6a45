use Rattle.std.proofs.Common.{◌≡◌, ◌+◌, drop}
use Rattle.tlcp.specs.Dividing.{crlf_at}
use Rattle.tlcp.proofs.ends.find_end.Given as goal

abbrev pub invariant-loop-i : goal.invariant-loop-i
invariant-loop-i l = l.i + crlf_at (drop l.i l.s) ≡ crlf_at l.s
