use Rattle.std.proofs.Common.{◌≡◌, cond, map, sym, ap, ◌∙◌}
use Rattle.std.proofs.lemmas.Bool.{cond-true}
use Rattle.std.proofs.lemmas.Simd.{map-map}
use Rattle.row.specs.Canonical.{wholly-means}
use Rattle.row.specs.Records.{cell_of, change_of, change_record, rows_fit, wholly}
use Rattle.row.specs.Rows.{becomes}
use Rattle.row.proofs.Over.{fit-swap, either-onto}
use Rattle.row.proofs.change.whole_row.Goals as goal
use Rattle.row.proofs.change.whole_row.Goals.{After-step_all}
use Rattle.row.proofs.change.whole_row.Given as given

made : (g : given.Over) (c : After-step_all g) → let k = g.R.Value.kind in c.step_all.new.places ≡ cond (rows_fit c.args.row.now c.args.delta.now) (map (change_record k) (map (λ x. becomes (cell_of k x)) c.args.row.now)) c.args.delta.now
made g c =
    let k = g.R.Value.kind in
    let row = c.args.row.now in
    let delta = c.args.delta.now in
    c.step_all.ensures.places
    ∙ either-onto (change_record k) (λ x. becomes (cell_of k x)) delta row
    ∙ ap (λ b. cond b (map (change_record k) (map (λ x. becomes (cell_of k x)) row)) delta) (fit-swap delta row)

pub returns-clause-changes : goal.returns-clause-changes
returns-clause-changes g c =
    let k = g.R.Value.kind in
    made g (goal.at.returns-clause-changes g c).After-step_all
    ∙ ap (λ ds. cond (rows_fit c.args.row.now c.args.delta.now) (map (change_record k) ds) c.args.delta.now) (sym (map-map becomes (cell_of k) c.args.row.now))

pub returns-clause-means : goal.returns-clause-means
returns-clause-means g c fits =
    let k = g.R.Value.kind in
    let row = c.args.row.now in
    ap (map (change_of k)) (made g (goal.at.returns-clause-means g c).After-step_all ∙ cond-true _ _ _ fits)
    ∙ ap (map (change_of k)) (map-map (change_record k) (λ x. becomes (cell_of k x)) row)
    ∙ map-map (change_of k) (wholly k) row
    ∙ (λ i. map (λ x. wholly-means k g.met.R.Value.lawful x i) row)
    ∙ sym (map-map becomes (cell_of k) row)
