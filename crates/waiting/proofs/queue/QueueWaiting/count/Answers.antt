use Rattle.std.proofs.Common.{sym, arith}
use Rattle.waiting.proofs.QueueRows.{length-taken}
use Rattle.waiting.proofs.queue.QueueWaiting.count.Goals as goal

pub returns : goal.returns
returns g c =
    let q = c.args.self.now in sym (length-taken g.R.Value.kind q.len q.taps q.changes.now
    (omega arith))
