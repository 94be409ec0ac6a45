use Rattle.std.proofs.Common.{◌≡◌}
use Rattle.compose.specs.Assignments.{assignments_in}
use Rattle.compose.specs.Writers.{draft_of}
use Rattle.compose.proofs.Wholes.{Comes}
use Rattle.compose.proofs.whole.compose.Given as goal

abbrev pub invariant-loop-pair : goal.invariant-loop-pair
invariant-loop-pair l =
    Comes l.fn.name l.fn.out (draft_of l.request) (assignments_in l.pairs) l.pair-index
    × (l.request.out.ghost_name ≡ l.initial.request.out.ghost_name)
