use Rattle.std.proofs.Common.{◌+◌, sym, arith, rules}
use Rattle.std.proofs.lemmas.Bool.{lt-leb}
use Rattle.tlcp.specs.Bytes.{in_class}
use Rattle.tlcp.proofs.Encoding.{by_front, length_more}
use Rattle.tlcp.proofs.encode.is_within.Goals as goal

pub returns-then-more-left : goal.returns-then-more-left
returns-then-more-left c =
    let p = in_class c.args.class in
    let text = c.args.text.now in
    let i = c.loop-b.b-index in
    let more = length_more p text i c.loop-b-test.true in
    sym (lt-leb _ _ (omega (arith, more, by_front p text (i + 1), c.loop-b.invariant, c.size-more.ensures)))

pub loop-b-preserved : goal.loop-b-preserved
loop-b-preserved c = search (rules, length_more)
