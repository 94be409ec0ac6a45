use Rattle.std.proofs.Common.{◌≡◌, ℕ, ◌+◌, ◌-◌, ◌≤◌, List, length}
use Rattle.tlcp.specs.Escapes.{decoded, decode_at, onto, overlaid}
use Rattle.tlcp.proofs.escape.decode.Given as goal

-- the bytes of t have been decoded
abbrev pub invariant-loop-left : goal.invariant-loop-left
invariant-loop-left l =
    (t : List ℕ)
    × (l.n ≡ length t)
    × (l.n + length l.left ≤ length l.s)
    × (l.out ≡ overlaid t l.initial.out)
    × (decoded l.s ≡ onto t (decode_at (length l.s - length l.left) l.left))

abbrev pub decreases-loop-left : goal.decreases-loop-left
decreases-loop-left l = length l.left
