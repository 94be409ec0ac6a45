use Rattle.std.specs.Option.{option_map}
use Rattle.std.proofs.Common.{◌≡◌, ◌+◌, ◌-◌, ◌<◌, ◌≤◌, [], ◌∷◌, ◌++◌, length, set, sym, ap, ◌∙◌}
use Rattle.std.proofs.Common.{append_assoc, arith}
use Rattle.std.proofs.lemmas.List.{length_push}
use Rattle.std.proofs.lemmas.Bool.{eqb-false}
use Rattle.tlcp.specs.Escapes.{decode_at, onto, overlaid}
use Rattle.tlcp.proofs.Steps.{go_on, unit-step, unit-shorter, overlaid-more, overlaid-full}
use Rattle.tlcp.proofs.escape.decode.Goals as goal
use Rattle.tlcp.proofs.escape.decode.Goals.{then-n-out, else-n-out}

pub loop-left-preserved : goal.loop-left-preserved
loop-left-preserved c =
    let s = c.args.s.now in
    let left = c.loop-left.left.now in
    let rest = c.in_ok-b.rest.now in
    let t = c.loop-left.invariant.0 in
    let b = c.in_ok-b.b in
    let read = ap (option_map (λ x. (x.0, x.1.now))) (sym c.in_ok-b.ensures.ok_part) ∙ c.unit.ensures in
    let some = eqb-false (length left) 0 (sym c.loop-left-test.ensures) in
    let shorter = unit-shorter left _ (sym read) in
    let within = c.loop-left.invariant.2 in
    let at : length s - length left + (length left - length rest) ≡ length s - length rest = omega arith in
    let step : decode_at (length s - length left) left ≡ onto (b ∷ []) (decode_at (length s - length rest) rest) = unit-step _ left (omega arith) ∙ ap (go_on _ (length left)) (sym read) ∙ ap (λ n. onto (b ∷ []) (decode_at n rest)) at in
    let long = length_push t b in
    let size = c.loop-left.invariant.1 in
    let out = c.args.out.now in
    let kept = c.loop-left.auto.out in
    let held : c.if-n-out.out ≡ overlaid (t ++ b ∷ []) out =
    elim c.if-n-out.branch [
      | then-n-out w ↦
          let room : length t < length out = omega (arith, w.if-n-out.true) in
          w.out-is ∙ (λ i. set (c.loop-left.invariant.3 i) (size i) b) ∙ overlaid-more t out b room
      | else-n-out w ↦
          let full : length out ≤ length t = omega (arith, w.if-n-out.false) in
          w.out-is ∙ c.loop-left.invariant.3 ∙ overlaid-full t out b full
    ] in (
      t ++ b ∷ [],
      omega arith,
      omega arith,
      held,
      c.loop-left.invariant.4 ∙ ap (onto t) step
          ∙ ap (λ x. record { bytes = x; fault = (decode_at (length s - length rest) rest).fault }) (sym (append_assoc t (b ∷ []) (decode_at (length s - length rest) rest).bytes)),
    )
