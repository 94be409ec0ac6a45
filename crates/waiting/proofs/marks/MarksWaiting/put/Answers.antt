use Rattle.std.proofs.Common.{nat_le, map, length, sym, refl, ap, ◌∙◌}
use Rattle.std.proofs.lemmas.Bool.{and_from, cond-true}
use Rattle.std.proofs.lemmas.List.{length-map}
use Rattle.row.specs.Limits.{field_limit}
use Rattle.row.specs.Records.{change_of}
use Rattle.waiting.specs.Marks.{marked, marks, marks_of}
use Rattle.waiting.proofs.Canonical.{length-widened, put-joined, widened-means, widened-parts}
use Rattle.waiting.proofs.MarksIn.{joined-exact, joined-list, tap_place}
use Rattle.waiting.proofs.marks.MarksWaiting.put.Goals as goal

pub returns-clause-meaning : goal.returns-clause-meaning
returns-clause-meaning g c =
    let k = g.R.Value.kind in
    let cs = c.args.self.now.changes.now in
    let ds = c.args.delta.now in
    let t = c.args.tap.number in
    let place = tap_place t c.index.result c.args.tap.known c.index.ensures in
    let w = widened-parts k ds c.in_ok-whole.whole c.filled.result c.filled.ensures
    c.in_ok-whole.was in
    joined-list k cs c.join_row.new.changes c.index.result c.args.self.now.whole place.0
    g.met.R.Value.lawful c.in_ok-whole.whole (ap length w.1 ∙ length-widened k ds)
    c.join_row.ensures t place.1
    ∙ ap (marked (marks_of k cs) t)
    (ap (map (change_of k)) w.1 ∙ widened-means k g.met.R.Value.lawful ds)
    ∙ sym (cond-true _ _ _ (and_from _ _
    (ap (λ n. nat_le n field_limit) (length-map ds (change_of k)) ∙ w.0) refl))
    ∙ sym (put-joined marks (marks_of k cs) t (map (change_of k) ds))

pub returns-clause-exact : goal.returns-clause-exact
returns-clause-exact g c =
    let k = g.R.Value.kind in
    let ds = c.args.delta.now in
    let place = tap_place c.args.tap.number c.index.result c.args.tap.known c.index.ensures in
    let w = widened-parts k ds c.in_ok-whole.whole c.filled.result c.filled.ensures
    c.in_ok-whole.was in
    joined-exact k c.args.self.now.changes.now c.join_row.new.changes c.index.result
    c.args.self.now.whole place.0 g.met.R.Value.lawful c.in_ok-whole.whole
    (ap length w.1 ∙ length-widened k ds) c.join_row.ensures
