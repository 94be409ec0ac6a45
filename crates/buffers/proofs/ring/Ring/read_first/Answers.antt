use Rattle.std.proofs.Common.{◌≡◌, ap, ◌∙◌, sym, map, length, get_or, Ok, arith}
use Rattle.std.proofs.lemmas.Bool.{cond-true, eq-eqb}
use Rattle.row.specs.Limits.{field_limit}
use Rattle.row.specs.Records.{change_of}
use Rattle.row.specs.Rows.{row_at}
use Rattle.waiting.specs.Lists.{pair}
use Rattle.row.proofs.Places.{length-row}
use Rattle.buffers.proofs.RingRows.{ring-first}
use Rattle.buffers.proofs.ring.Ring.read_first.Goals as goal

pub returns : goal.returns
returns g c =
    let r = c.args.self.now in
    let k = g.R.Value.kind in
    let long : length c.row_at.result.now ≡ field_limit = ap length c.row_at.ensures
    ∙ length-row r.start r.changes.now (omega (arith, r.whole, r.inside)) in
    let copied : c.copy_changes.new.to ≡ row_at r.start r.changes.now =
    c.copy_changes.ensures.changes ∙ cond-true _ _ _
    (eq-eqb (length c.row_at.result.now) field_limit long) ∙ c.row_at.ensures in
    ring-first k r.start r.len r.taps r.changes.now r.inside (omega arith) r.whole c.requires
    ∙ ap (λ row. Ok (pair (get_or r.taps r.start 0) (map (change_of k) row))) (sym copied)
