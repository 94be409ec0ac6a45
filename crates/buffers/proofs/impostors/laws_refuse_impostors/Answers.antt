use Rattle.buffers.specs.Impostors.{not-dropping, not-refusing}
use Rattle.buffers.proofs.impostors.laws_refuse_impostors.Goals as goal

pub returns : goal.returns
returns c = record { drops = not-dropping; refuses = not-refusing }
