use Rattle.std.proofs.Common.{sym, ap, arith, nat_lt}
use Rattle.waiting.specs.Limits.{pair_limit}
use Rattle.waiting.proofs.QueueRows.{length-taken}
use Rattle.waiting.proofs.queue.QueueWaiting.takes.Goals as goal

pub returns : goal.returns
returns g c =
    let q = c.args.self.now in
    ap (λ n. nat_lt n pair_limit) (sym
    (length-taken g.R.Value.kind q.len q.taps q.changes.now (omega arith)))
