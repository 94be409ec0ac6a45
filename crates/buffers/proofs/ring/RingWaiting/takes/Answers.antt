use Rattle.std.proofs.Common.{◌*◌, nat_lt, sym, ap, arith}
use Rattle.row.specs.Limits.{field_limit}
use Rattle.waiting.specs.Limits.{pair_limit}
use Rattle.waiting.proofs.QueueRows.{length-taken}
use Rattle.buffers.specs.Rings.{length-turned}
use Rattle.buffers.specs.Turning.{turned}
use Rattle.buffers.proofs.ring.RingWaiting.takes.Goals as goal

pub returns : goal.returns
returns g c =
    let r = c.args.self.now in
    ap (λ n. nat_lt n pair_limit) (sym
    (length-taken g.R.Value.kind r.len (turned r.start r.taps)
    (turned (field_limit * r.start) r.changes.now)
    (omega (arith, length-turned r.start r.taps))))
