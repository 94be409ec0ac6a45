use Rattle.std.proofs.Common.{refl}
use Rattle.row.proofs.fault.faults_have_numbers.Goals as goal

pub returns : goal.returns
returns c = record { numbers = refl; each = λ _ _. refl; taps = refl; memory = refl }
