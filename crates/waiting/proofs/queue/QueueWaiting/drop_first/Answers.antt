use Rattle.std.proofs.Common.{take, sym, arith}
use Rattle.std.proofs.lemmas.List.{length-take-le}
use Rattle.waiting.proofs.QueueRows.{drops-first}
use Rattle.waiting.proofs.queue.QueueWaiting.drop_first.Goals as goal

pub returns-clause-answer : goal.returns-clause-answer
returns-clause-answer g c =
    let q = c.args.self.now in
    sym (drops-first g.R.Value.kind (take q.len q.taps) q.changes.now
    (omega (arith, length-take-le q.len q.taps (omega arith))))
