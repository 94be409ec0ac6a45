use Rattle.tlcp.proofs.Saying.{reads-said}
use Rattle.tlcp.proofs.Unescaped.{reads-escapes}
use Rattle.tlcp.proofs.line.read_line.Goals as goal

pub returns-then-line-gt-LINE_LIMIT-clause-said : goal.returns-then-line-gt-LINE_LIMIT-clause-said
returns-then-line-gt-LINE_LIMIT-clause-said c = reads-said reads-escapes

pub returns-in_err-tag-clause-said : goal.returns-in_err-tag-clause-said
returns-in_err-tag-clause-said c = reads-said reads-escapes

pub returns-in_err-says-clause-said : goal.returns-in_err-says-clause-said
returns-in_err-says-clause-said c = reads-said reads-escapes

pub returns-clause-said : goal.returns-clause-said
returns-clause-said c = reads-said reads-escapes
