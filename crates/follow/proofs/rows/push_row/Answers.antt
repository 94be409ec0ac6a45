use Rattle.std.proofs.Common.{◌++◌, take, replicate, vec_items, sym, refl, ap, ◌∙◌, append_assoc}
use Rattle.std.proofs.Common.{[], ◌∷◌}
use Rattle.std.proofs.lemmas.Bool.{cond-true}
use Rattle.std.proofs.lemmas.List.{append-nil}
use Rattle.row.specs.Limits.{field_limit}
use Rattle.row.specs.Records.{rows_fit, whole_changes}
use Rattle.row.proofs.Over.{rows_fit_lem}
use Rattle.streams.specs.Ends.{line_feed}
use Rattle.follow.proofs.RowLines.{row-written}
use Rattle.follow.proofs.rows.push_row.Goals as goal

pub returns-in_ok-extend_from_slice-2 : goal.returns-in_ok-extend_from_slice-2
returns-in_ok-extend_from_slice-2 g c =
    let k = g.V.Value.kind in
    let row = c.args.row.now in
    let same = replicate field_limit c.same-delta.result in
    let whole = c.whole_row.ensures.changes
    ∙ cond-true (rows_fit row same) (whole_changes k row) same
    (rows_fit_lem row same c.requires refl) in
    let prints =
    row-written k g.met.V.Value.lawful c.args.id row c.args.fields c.requires
    c.whole_row.new.delta whole _ (sym c.in-Ok.is ∙ c.write_update.ensures.answer)
    c.write_update.new.out c.write_update.ensures.bytes in
    c.in_ok-extend_from_slice-2.ensures.items
    ∙ ap (λ l. l ++ line_feed ∷ []) c.in_ok-extend_from_slice.ensures.items
    ∙ append_assoc (vec_items c.args.out.now) (take c.in-Ok.len c.write_update.new.out)
    (line_feed ∷ [])
    ∙ ap (λ l. vec_items c.args.out.now ++ l) prints

pub returns-in_default : goal.returns-in_default
returns-in_default g c =
    let k = g.V.Value.kind in
    let row = c.args.row.now in
    let same = replicate field_limit c.same-delta.result in
    let whole = c.whole_row.ensures.changes
    ∙ cond-true (rows_fit row same) (whole_changes k row) same
    (rows_fit_lem row same c.requires refl) in
    let none =
    row-written k g.met.V.Value.lawful c.args.id row c.args.fields c.requires
    c.whole_row.new.delta whole _ (sym c.in_default.is ∙ c.write_update.ensures.answer)
    c.write_update.new.out c.write_update.ensures.bytes in
    sym (ap (λ l. vec_items c.args.out.now ++ l) none ∙ append-nil (vec_items c.args.out.now))
