use Rattle.std.proofs.Common.{◌+◌, length, get_or, take, sym, ap, ◌∙◌, arith}
use Rattle.tlcp.specs.Bytes.{in_class}
use Rattle.tlcp.specs.Escapes.{encoded_by, spelled}
use Rattle.tlcp.specs.Written.{placed}
use Rattle.tlcp.proofs.Encoding.{by-more, room-more}
use Rattle.tlcp.proofs.Placing.{fit, placed-next}
use Rattle.tlcp.proofs.encode.place_escaped.Goals as goal

pub place_byte-end-requires : goal.place_byte-end-requires
place_byte-end-requires c =
    let p = in_class c.args.class in
    let text = c.args.text.now in
    let i = c.loop-b.b-index in
    let xs = c.args.out.now in
    let room = room-more p text i c.args.at (length xs) c.loop-b-test.true (omega (arith, c.requires)) (omega (arith, c.requires)) in
    fit c.args.at (encoded_by p (take i text)) (spelled (p (get_or text i 0)) (get_or text i 0)) xs room c.loop-b.end c.loop-b.out c.loop-b.invariant.0 c.loop-b.invariant.1

pub loop-b-preserved : goal.loop-b-preserved
loop-b-preserved c =
    let p = in_class c.args.class in
    let text = c.args.text.now in
    let i = c.loop-b.b-index in
    let xs = c.args.out.now in
    let room = room-more p text i c.args.at (length xs) c.loop-b-test.true (omega (arith, c.requires)) (omega (arith, c.requires)) in
    let h = c.place_byte-end.ensures in
    let step = placed-next c.args.at (encoded_by p (take i text)) (spelled (p (get_or text i 0)) (get_or text i 0)) xs room c.loop-b.end c.loop-b.out c.loop-b.invariant.0 c.loop-b.invariant.1 _ _ h.end h.bytes in
    let more = sym (by-more p text i c.loop-b-test.true) in
    (step.0 ∙ ap (λ t. c.args.at + length t) more, step.1 ∙ ap (λ t. placed c.args.at t xs) more)
