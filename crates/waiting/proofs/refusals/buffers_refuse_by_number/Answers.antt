use Rattle.waiting.proofs.Refusing.{refusals}
use Rattle.waiting.proofs.refusals.buffers_refuse_by_number.Goals as goal

pub returns : goal.returns
returns c = refusals
