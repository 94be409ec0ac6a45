use Rattle.requests.proofs.Refusing.{refusals}
use Rattle.requests.proofs.Wording.{words}
use Rattle.requests.proofs.tables.request_tables.Goals as goal

pub returns-clause-refusals : goal.returns-clause-refusals
returns-clause-refusals c = refusals

pub returns-clause-words : goal.returns-clause-words
returns-clause-words c = words
