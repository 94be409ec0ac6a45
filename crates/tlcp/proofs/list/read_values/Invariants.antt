use Rattle.std.proofs.Common.{◌-◌, ◌≤◌, length}
use Rattle.tlcp.specs.Lists.{values}
use Rattle.tlcp.proofs.Filling.{Sofar}
use Rattle.tlcp.proofs.list.read_values.Given as goal

abbrev pub invariant-loop-covered : goal.invariant-loop-covered
invariant-loop-covered g l =
    (length l.left ≤ length l.list)
    × Sofar g.R.Value.kind l.fields l.list l.delta l.covered (length l.list - length l.left) (values l.left)

abbrev pub decreases-loop-covered : goal.decreases-loop-covered
decreases-loop-covered g l = length l.left
