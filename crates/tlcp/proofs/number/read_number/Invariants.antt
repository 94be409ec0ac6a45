use Rattle.std.proofs.Common.{◌≡◌, ◌≤◌, drop}
use Rattle.tlcp.specs.Numbers.{digits_from}
use Rattle.tlcp.proofs.number.read_number.Given as goal

abbrev pub invariant-loop-b : goal.invariant-loop-b
invariant-loop-b l =
    (l.value ≤ l.high) × (digits_from l.high l.value (drop l.b-index l.s) ≡ digits_from l.high 0 l.s)
