use Rattle.std.proofs.Common.{refl, arith}
use Rattle.tlcp.specs.Bytes.{is_reserved}
use Rattle.tlcp.specs.Escapes.{encoded_by}
use Rattle.requests.specs.Names.{parameter_word}
use Rattle.compose.specs.Written.{joint_text}
use Rattle.compose.proofs.Placed.{puts, pair_puts, left}
use Rattle.compose.proofs.part.put_pair.Goals as goal

pub returns-clause-bytes : goal.returns-clause-bytes
returns-clause-bytes c =
    let xs = c.args.out.now in
    let at = c.args.at in
    let u = encoded_by is_reserved c.args.pair.value.now in
    let end = c.in_ok-end.end in
    let zs = c.put-3.new.out in
    let value = puts _ u xs end _ c.in_ok-end.ensures.answer c.in_ok-end.ensures.bytes in
    let joint = puts at _ _ _ _ c.in_ok-named.ensures.answer c.in_ok-named.ensures.bytes in
    let word = puts _ _ _ _ _ c.in_ok-divided.ensures.answer c.in_ok-divided.ensures.bytes in
    let equals = puts _ _ _ _ zs c.in_ok-put.ensures.answer c.in_ok-put.ensures.bytes in
    left at _ xs end zs (pair_puts at _ (joint_text c.args.first) (parameter_word c.args.pair.parameter) u xs c.joint-before.ensures c.word-word.ensures refl (omega arith) (omega arith) value joint word equals)
