use Rattle.std.proofs.Common.{cond, map, ap, ◌∙◌}
use Rattle.row.specs.Canonical.{changed_cell-means}
use Rattle.row.specs.Records.{cell_of, cell_record, change_of, rows_fit, changed_cell}
use Rattle.row.specs.Rows.{change_cell}
use Rattle.row.proofs.Over.{either-read, map-either, map-over}
use Rattle.row.proofs.change.change_row.Goals as goal

pub returns-clause-cells : goal.returns-clause-cells
returns-clause-cells g c =
    let k = g.R.Value.kind in
    c.step_all.ensures.places
    ∙ either-read (cell_record k) (cell_of k) (change_of k) change_cell c.args.row.now c.args.delta.now

pub returns-clause-means : goal.returns-clause-means
returns-clause-means g c =
    let k = g.R.Value.kind in
    let row = c.args.row.now in
    let delta = c.args.delta.now in
    let means = map-over (cell_of k) (change_of k) (changed_cell k) change_cell (changed_cell-means k g.met.R.Value.lawful) row delta in
    ap (map (cell_of k)) c.step_all.ensures.places
    ∙ map-either (cell_of k) (rows_fit row delta) _ row
    ∙ ap (λ cs. cond (rows_fit row delta) cs (map (cell_of k) row)) means
