use Rattle.std.proofs.Common.{◌≡◌, length, take, drop, ◌+◌, ◌*◌, ◌-◌, ◌++◌, replicate, ap, ◌∙◌}
use Rattle.std.proofs.Common.{arith}
use Rattle.row.specs.Limits.{field_limit}
use Rattle.row.specs.Records.{change_record}
use Rattle.row.specs.Rows.{same}
use borrow.Rule.Slice.PartMut.{put_mid}
use Rattle.waiting.proofs.Parts.{length-mid, length-moved, end-replaced}
use Rattle.waiting.proofs.rows.remove_row.Goals as goal

pub returns : goal.returns
returns g c =
    let cs = c.args.changes.now in
    let at = field_limit * c.args.i in
    let turned = c.rotate_left.new.self in
    let long = length-moved cs at field_limit turned c.blank.new.delta c.requires
    c.rotate_left.ensures.after in
    let all = put_mid at (length cs - at) cs turned in
    let last : length all - (length all - field_limit) ≡ field_limit = omega (arith, long) in
    end-replaced cs at field_limit turned c.blank.new.delta c.requires
    c.rotate_left.ensures.after _ _ (omega (arith, long)) (omega (arith, long))
    ∙ ap (λ ys. take at cs ++ (drop (at + field_limit) cs ++ ys))
    (c.blank.ensures ∙ ap (λ n. replicate n (change_record g.R.Value.kind same))
    (length-mid all (length all - field_limit) (length all - (length all - field_limit))
    (omega arith) ∙ last))
