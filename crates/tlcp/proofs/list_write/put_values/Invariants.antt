use Rattle.tlcp.specs.Bounds.{bounded_text}
use Rattle.tlcp.proofs.Deltas.{Before}
use Rattle.tlcp.proofs.list_write.put_values.Given as goal

abbrev pub invariant-loop-change : goal.invariant-loop-change
invariant-loop-change g l = Before g.R.Value.kind l.delta l.change-index l.run (bounded_text l.list)
