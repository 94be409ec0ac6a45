use Rattle.std.proofs.Common.{cond, map, ap, ◌∙◌}
use Rattle.row.specs.Canonical.{later-means}
use Rattle.row.specs.Records.{change_of, change_record, later, rows_fit}
use Rattle.row.specs.Rows.{join_change}
use Rattle.row.proofs.Over.{either-read, map-either, map-over}
use Rattle.row.proofs.change.join_delta.Goals as goal

pub returns-clause-changes : goal.returns-clause-changes
returns-clause-changes g c =
    let k = g.R.Value.kind in
    c.step_all.ensures.places
    ∙ either-read (change_record k) (change_of k) (change_of k) join_change c.args.earlier.now c.args.next.now

pub returns-clause-means : goal.returns-clause-means
returns-clause-means g c =
    let k = g.R.Value.kind in
    let first = c.args.earlier.now in
    let next = c.args.next.now in
    let means = map-over (change_of k) (change_of k) (later k) join_change (later-means k g.met.R.Value.lawful) first next in
    ap (map (change_of k)) c.step_all.ensures.places
    ∙ map-either (change_of k) (rows_fit first next) _ first
    ∙ ap (λ ds. cond (rows_fit first next) ds (map (change_of k) first)) means
