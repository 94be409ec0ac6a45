use Rattle.std.proofs.Common.{◌+◌, ◌*◌, ◌%◌, refl, ap, ◌∙◌, arith, take}
use Rattle.std.proofs.Common.{slice_set}
use Rattle.row.specs.Limits.{field_limit}
use Rattle.row.specs.Taps.{is_tap}
use Rattle.waiting.specs.Limits.{pair_limit}
use Rattle.waiting.specs.Queues.{pairs_in}
use Rattle.waiting.specs.Rows.{rows_wait}
use Rattle.waiting.proofs.QueueRows.{list_all-set}
use Rattle.buffers.specs.Turning.{turned}
use Rattle.buffers.proofs.RingRows.{ring-busy, ring-pushed, row-stored}
use Rattle.buffers.proofs.ring.Ring.push.Goals as goal

pub invariant_of-self-clause-known : goal.invariant_of-self-clause-known
invariant_of-self-clause-known g c =
    let r = c.args.self.now in
    list_all-set is_tap r.taps ((r.start + r.len) % pair_limit) c.args.number r.known
    c.requires.known

pub invariant_of-self-clause-busy : goal.invariant_of-self-clause-busy
invariant_of-self-clause-busy g c =
    let r = c.args.self.now in
    let k = g.R.Value.kind in
    let i = (r.start + r.len) % pair_limit in
    let stored = row-stored i r.changes.now c.args.row.now c.store_row.new.changes
    (omega (arith, r.whole, r.inside)) c.requires.whole c.store_row.ensures.changes in
    ap (λ cs. rows_wait k (r.len + 1) (turned (field_limit * r.start) cs)) stored
    ∙ ring-busy k r.start r.len r.taps r.changes.now r.inside (omega arith) r.whole i c.args.number
    c.args.row.now c.requires.room refl c.requires.whole r.busy c.requires.changes

pub returns-clause-list : goal.returns-clause-list
returns-clause-list g c =
    let r = c.args.self.now in
    let k = g.R.Value.kind in
    let i = (r.start + r.len) % pair_limit in
    let stored = row-stored i r.changes.now c.args.row.now c.store_row.new.changes
    (omega (arith, r.whole, r.inside)) c.requires.whole c.store_row.ensures.changes in
    ap (λ cs. pairs_in k (take (r.len + 1) (turned r.start (slice_set r.taps i c.args.number)))
    (turned (field_limit * r.start) cs)) stored
    ∙ ring-pushed k r.start r.len r.taps r.changes.now r.inside (omega arith) r.whole i
    c.args.number c.args.row.now c.requires.room refl c.requires.whole
