use Rattle.std.proofs.Common.{◌≡◌, ◌++◌, take, drop}
use Rattle.row.specs.Rows.{over}
use Rattle.row.proofs.change.step_all.Given as goal

abbrev pub invariant-loop-i : goal.invariant-loop-i
invariant-loop-i g l =
    take l.i l.places ++ over g.X.Step.after (drop l.i l.places) (drop l.i l.by) ≡ over g.X.Step.after l.initial.places l.by
