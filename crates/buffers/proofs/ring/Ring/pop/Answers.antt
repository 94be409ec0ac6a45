use Rattle.std.proofs.Common.{refl, arith}
use Rattle.buffers.proofs.RingRows.{ring-popped, ring-popped-busy}
use Rattle.buffers.proofs.ring.Ring.pop.Goals as goal

pub invariant_of-self-clause-busy : goal.invariant_of-self-clause-busy
invariant_of-self-clause-busy g c =
    let r = c.args.self.now in
    ring-popped-busy g.R.Value.kind r.start r.len r.taps r.changes.now r.inside
    (omega arith) r.whole _ c.requires r.few refl r.busy

pub returns-clause-list : goal.returns-clause-list
returns-clause-list g c =
    let r = c.args.self.now in
    ring-popped g.R.Value.kind r.start r.len r.taps r.changes.now r.inside (omega arith) r.whole _
    c.requires r.few refl
