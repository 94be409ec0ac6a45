use Rattle.requests.proofs.Asking.{reads-asked}
use Rattle.requests.proofs.request.read_request.Goals as goal

pub returns-then-text-gt-REQUEST_LIMIT-clause-grammar :
    goal.returns-then-text-gt-REQUEST_LIMIT-clause-grammar
returns-then-text-gt-REQUEST_LIMIT-clause-grammar c = reads-asked

pub returns-in_err-end-clause-grammar : goal.returns-in_err-end-clause-grammar
returns-in_err-end-clause-grammar c = reads-asked

pub returns-in_err-name-clause-grammar : goal.returns-in_err-name-clause-grammar
returns-in_err-name-clause-grammar c = reads-asked

pub returns-in_err-pairs-clause-grammar : goal.returns-in_err-pairs-clause-grammar
returns-in_err-pairs-clause-grammar c = reads-asked

pub returns-clause-grammar : goal.returns-clause-grammar
returns-clause-grammar c = reads-asked
