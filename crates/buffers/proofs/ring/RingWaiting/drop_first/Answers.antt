use Rattle.std.proofs.Common.{◌*◌, take, sym, arith}
use Rattle.std.proofs.lemmas.List.{length-take-le}
use Rattle.row.specs.Limits.{field_limit}
use Rattle.waiting.proofs.QueueRows.{drops-first}
use Rattle.buffers.specs.Rings.{length-turned}
use Rattle.buffers.specs.Turning.{turned}
use Rattle.buffers.proofs.ring.RingWaiting.drop_first.Goals as goal

pub returns-clause-answer : goal.returns-clause-answer
returns-clause-answer g c =
    let r = c.args.self.now in
    let long = length-turned r.start r.taps in
    sym (drops-first g.R.Value.kind (take r.len (turned r.start r.taps))
    (turned (field_limit * r.start) r.changes.now)
    (omega (arith, long, length-take-le r.len (turned r.start r.taps) (omega (arith, long)))))
