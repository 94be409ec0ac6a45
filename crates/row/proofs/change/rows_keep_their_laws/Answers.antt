use Rattle.row.proofs.Joining.{row-laws}
use Rattle.row.proofs.change.rows_keep_their_laws.Goals as goal

pub returns : goal.returns
returns c = row-laws
