use Rattle.buffers.specs.Rings.{ring-holds, ringed}
use Rattle.buffers.proofs.RingRows.{first-waits}
use Rattle.buffers.proofs.ring.Ring.turn.Goals as goal

pub push-requires-clause-known : goal.push-requires-clause-known
push-requires-clause-known g c =
    let r = c.args.self.now in
    let k = g.R.Value.kind in
    (first-waits (ringed k r) _ (ring-holds k r.start r.len r.taps r.changes.now r.few r.whole r.known r.busy) c.read_first-tap.ensures).0

pub push-requires-clause-changes : goal.push-requires-clause-changes
push-requires-clause-changes g c =
    let r = c.args.self.now in
    let k = g.R.Value.kind in
    (first-waits (ringed k r) _ (ring-holds k r.start r.len r.taps r.changes.now r.few r.whole r.known r.busy) c.read_first-tap.ensures).1
