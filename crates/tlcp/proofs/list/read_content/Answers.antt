use Rattle.std.proofs.Common.{rules}
use Rattle.tlcp.proofs.Contents.{plain-read}
use Rattle.tlcp.proofs.list.read_content.Goals as goal

pub returns-else-contains-clause-answer : goal.returns-else-contains-clause-answer
returns-else-contains-clause-answer g c = search (rules, plain-read)

pub returns-else-contains-clause-change : goal.returns-else-contains-clause-change
returns-else-contains-clause-change g c = search (rules, plain-read)
