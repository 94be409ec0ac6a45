use Rattle.std.proofs.Common.{◌≡◌, ◌+◌, length, take}
use Rattle.tlcp.specs.Bytes.{in_class}
use Rattle.tlcp.specs.Escapes.{encoded_by}
use Rattle.tlcp.specs.Written.{placed}
use Rattle.tlcp.proofs.encode.place_escaped.Given as goal

-- what has been passed stands in its place
abbrev pub invariant-loop-b : goal.invariant-loop-b
invariant-loop-b l =
    let t = encoded_by (in_class l.class) (take l.b-index l.text) in (l.end ≡ l.at + length t) × (l.out ≡ placed l.at t l.initial.out)
