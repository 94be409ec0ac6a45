use Rattle.std.proofs.Common.{refl}
use Rattle.std.specs.Fmt.{digits}
use Rattle.notify.specs.Examples.{RefusedUpdates, WrittenLines}
use Rattle.notify.proofs.examples.worked_lines.Goals as goal

lines : WrittenLines
unfolding digits
lines = record {
  probe = refl;
  subok = refl;
  loop = refl;
  refusal = refl;
  update = refl;
  beyond = refl;
  beyond-code = refl;
  longest = refl;
  too-long = refl;
  no_room = refl;
  no_room-touched = refl;
  room-touched = refl;
}

updates : RefusedUpdates
unfolding digits
updates = record {
  memory = λ c. refl;
  id = λ c. refl;
  past-fields = λ c. refl;
  no_fields = λ c. refl;
}

pub returns : goal.returns
returns c = record { lines = lines; updates = updates }
