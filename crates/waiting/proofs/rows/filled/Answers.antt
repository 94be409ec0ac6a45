use Rattle.std.proofs.Common.{◌≤◌, ◌++◌, map, length, drop, replicate, Ok, sym, ap, ◌∙◌, arith}
use Rattle.std.proofs.lemmas.Bool.{cond-true, le-leb}
use Rattle.row.specs.Limits.{field_limit}
use Rattle.row.specs.Records.{canonical}
use Rattle.waiting.proofs.Canonical.{filled-records}
use Rattle.waiting.proofs.rows.filled.Goals as goal

pub returns : goal.returns
returns g c =
    let k = g.R.Value.kind in
    let ds = c.args.delta.now in
    let few : length ds ≤ field_limit = omega arith in
    ap Ok (c.canonicalize.ensures.changes
    ∙ (λ j. map (canonical k) (c.copy_from_slice.ensures.after j ++ drop (length ds)
    (replicate field_limit (c.same-whole.ensures j))))
    ∙ filled-records k ds few)
    ∙ sym (cond-true _ _ _ (le-leb (length ds) field_limit few))
