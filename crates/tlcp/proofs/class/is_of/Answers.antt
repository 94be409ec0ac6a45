use Rattle.std.proofs.Common.{rules}
use Rattle.tlcp.proofs.Table.{rule}
use Rattle.tlcp.proofs.class.is_of.Goals as goal

pub returns : goal.returns
returns c = search (rules, rule)
