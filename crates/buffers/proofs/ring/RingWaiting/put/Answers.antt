use Rattle.std.proofs.Common.{◌≡◌, ◌*◌, ◌++◌, ◌∷◌, [], ◌&&◌, false, nat_le, nat_lt, map, length}
use Rattle.std.proofs.Common.{sym, ap, ◌∙◌, arith}
use Rattle.std.proofs.lemmas.Bool.{and_from, cond-true, cond-false}
use Rattle.std.proofs.lemmas.List.{length-map}
use Rattle.row.specs.Limits.{field_limit}
use Rattle.row.specs.Records.{change_of}
use Rattle.row.specs.Rows.{all_same}
use Rattle.waiting.specs.Limits.{pair_limit}
use Rattle.waiting.specs.Lists.{pair}
use Rattle.waiting.specs.Queues.{queue}
use Rattle.waiting.proofs.Canonical.{put-joined, widened, widened-means, widened-parts}
use Rattle.waiting.proofs.QueueRows.{room}
use Rattle.waiting.proofs.Putting.{put_same}
use Rattle.buffers.specs.Rings.{length-turned, ringed}
use Rattle.buffers.specs.Turning.{turned}
use Rattle.buffers.proofs.ring.RingWaiting.put.Goals as goal

pub push-requires-clause-room : goal.push-requires-clause-room
push-requires-clause-room g c =
    let r = c.args.self.now in
    room g.R.Value.kind r.len pair_limit (turned r.start r.taps)
    (turned (field_limit * r.start) r.changes.now) (omega (arith, length-turned r.start r.taps))
    (sym c.if-not-takes.ensures)

pub returns-then-all_same-clause-meaning : goal.returns-then-all_same-clause-meaning
returns-then-all_same-clause-meaning g c =
    let k = g.R.Value.kind in
    put_same k c.args.delta.now c.in_ok-whole.whole c.filled.result pair_limit
    (ringed k c.args.self.now) c.args.tap.number c.filled.ensures c.in_ok-whole.was
    c.if-all_same.ensures

pub returns-clause-answer : goal.returns-clause-answer
returns-clause-answer g c =
    let k = g.R.Value.kind in
    let ds = c.args.delta.now in
    let w = widened-parts k ds c.in_ok-whole.whole c.filled.result c.filled.ensures
    c.in_ok-whole.was in
    let few = ap (λ n. nat_le n field_limit) (length-map ds (change_of k)) ∙ w.0 in
    sym (cond-true _ _ _ few ∙ cond-true _ _ _ (sym c.if-not-takes.ensures))

pub returns-clause-meaning : goal.returns-clause-meaning
returns-clause-meaning g c =
    let k = g.R.Value.kind in
    let ds = c.args.delta.now in
    let t = c.args.tap.number in
    let d = widened (map (change_of k) ds) in
    let l = ringed k c.args.self.now in
    let w = widened-parts k ds c.in_ok-whole.whole c.filled.result c.filled.ensures
    c.in_ok-whole.was in
    let few = ap (λ n. nat_le n field_limit) (length-map ds (change_of k)) ∙ w.0 in
    let means = ap (map (change_of k)) w.1 ∙ widened-means k g.met.R.Value.lawful ds in
    let some : all_same d ≡ false = ap all_same (sym means) ∙ sym c.if-all_same.ensures in
    c.push.ensures.list
    ∙ (λ i. l ++ pair (c.number.ensures i) (means i) ∷ [])
    ∙ ap (λ m. l ++ m) (sym (cond-false (all_same d) [] (pair t d ∷ []) some))
    ∙ sym (cond-true (nat_le (length (map (change_of k) ds)) field_limit && nat_lt
    (length l) pair_limit) (queue.after l t d) l
    (and_from _ _ few (sym c.if-not-takes.ensures)))
    ∙ sym (put-joined queue l t (map (change_of k) ds))
