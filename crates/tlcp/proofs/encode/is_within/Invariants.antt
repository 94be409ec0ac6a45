use Rattle.std.proofs.Common.{◌≡◌, ◌+◌, length, take}
use Rattle.tlcp.specs.Bytes.{in_class}
use Rattle.tlcp.specs.Escapes.{encoded_by}
use Rattle.tlcp.proofs.encode.is_within.Given as goal

-- what has been passed takes the places that are left no more
abbrev pub invariant-loop-b : goal.invariant-loop-b
invariant-loop-b l =
    length (encoded_by (in_class l.class) (take l.b-index l.text)) + l.left ≡ l.room
