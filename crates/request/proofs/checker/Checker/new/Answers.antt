use Rattle.request.proofs.Sames.{shows_same}
use Rattle.request.proofs.Spellings.{reads-spelled}
use Rattle.request.proofs.Table.{spelling-table}
use Rattle.request.proofs.checker.Checker.new.Goals as goal

pub returns-clause-same : goal.returns-clause-same
returns-clause-same c = shows_same

pub returns-clause-back : goal.returns-clause-back
returns-clause-back c = reads-spelled

pub returns-clause-table : goal.returns-clause-table
returns-clause-table c = spelling-table
