use Rattle.std.proofs.Common.{arith}
use Rattle.row.specs.Every.{text-written}
use Rattle.row.proofs.text.Text.write.Goals as goal

pub returns-clause-bytes : goal.returns-clause-bytes
returns-clause-bytes c = (text-written c.args.self.now.held c.args.self.now.sound (omega arith)).1
