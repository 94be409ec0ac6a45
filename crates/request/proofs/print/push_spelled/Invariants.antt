use Rattle.std.proofs.Common.{◌≡◌, ◌++◌, drop, vec_items}
use Rattle.request.specs.Spelling.{spelled}
use Rattle.request.proofs.print.push_spelled.Given as goal

abbrev pub invariant-loop-b : goal.invariant-loop-b
invariant-loop-b l =
    vec_items l.out ++ spelled (drop l.b-index l.text) ≡ vec_items l.initial.out ++ spelled l.text
