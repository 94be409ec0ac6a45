-- The pairs of memory.
use Rattle.std.specs.Prelude.{List, map}
use Rattle.compose.specs.Written as written
use Rattle.compose.specs.Written.{assign}
use Rattle.compose.specs.declared.assignment.Assignment.{Assignment}

abbrev pub assignment_in : Assignment → written.Assignment
assignment_in p = assign p.parameter p.value.now

abbrev pub assignments_in : List Assignment → List written.Assignment
assignments_in = map assignment_in
