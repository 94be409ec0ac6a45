use Rattle.viewer.proofs.Asking.{asks-one}
use Rattle.viewer.proofs.Keeping.{hearing-laws, rows-apart}
use Rattle.viewer.proofs.laws.hearing_keeps_its_laws.Goals as goal

pub returns-clause-asks : goal.returns-clause-asks
returns-clause-asks c = asks-one

pub returns-clause-hearing : goal.returns-clause-hearing
returns-clause-hearing c = hearing-laws

pub returns-clause-rows : goal.returns-clause-rows
returns-clause-rows c = rows-apart
