use Rattle.std.proofs.Common.{◌*◌, sym, arith}
use Rattle.row.specs.Limits.{field_limit}
use Rattle.waiting.proofs.QueueRows.{length-taken}
use Rattle.buffers.specs.Rings.{length-turned}
use Rattle.buffers.specs.Turning.{turned}
use Rattle.buffers.proofs.ring.RingWaiting.count.Goals as goal

pub returns : goal.returns
returns g c =
    let r = c.args.self.now in
    sym (length-taken g.R.Value.kind r.len (turned r.start r.taps)
    (turned (field_limit * r.start) r.changes.now)
    (omega (arith, length-turned r.start r.taps)))
