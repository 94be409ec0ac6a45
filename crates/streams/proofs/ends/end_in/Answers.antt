use Rattle.std.proofs.Common.{◌≡◌, ◌+◌, ◌*◌, ◌≤◌, drop, ap, ◌∙◌, arith}
use Rattle.tlcp.specs.Parts.{place_of}
use Rattle.streams.specs.Ends.{line_feed}
use Rattle.streams.proofs.Places.{step-here, step-further, step-done}
use Rattle.streams.proofs.ends.end_in.Goals as goal
use Rattle.streams.proofs.ends.end_in.Goals.{then-b-eq-LINE_FEED, else-b-eq-LINE_FEED}

pub loop-b-init : goal.loop-b-init
loop-b-init c = (omega arith, omega arith, omega arith)

pub overflow_add-end : goal.overflow_add-end
overflow_add-end c =
    let small : c.if-b-eq-LINE_FEED.step ≤ 1 = elim c.if-b-eq-LINE_FEED.branch [ then-b-eq-LINE_FEED w ↦ omega (arith, w.step-is) | else-b-eq-LINE_FEED w ↦ omega (arith, w.step-is, c.loop-b.invariant.2) ] in
    omega (arith, small, c.loop-b.invariant.1)

pub loop-b-preserved : goal.loop-b-preserved
loop-b-preserved c =
    let turn = c.loop-b in
    let s = c.args.part.now in
    let left = place_of line_feed (drop (turn.b-index + 1) s) in
    let is : turn.end + c.if-b-eq-LINE_FEED.step + c.if-b-eq-LINE_FEED.step * left ≡ place_of line_feed s = elim c.if-b-eq-LINE_FEED.branch [
      | then-b-eq-LINE_FEED w ↦ ap (λ n. turn.end + n + n * left) w.step-is
          ∙ step-here line_feed s turn.b-index turn.end turn.step turn.invariant.0 c.loop-b-test.true w.if-b-eq-LINE_FEED.true
      | else-b-eq-LINE_FEED w ↦ ap (λ n. turn.end + n + n * left) w.step-is
          ∙ step-further line_feed s turn.b-index turn.end turn.step turn.invariant.0 c.loop-b-test.true w.if-b-eq-LINE_FEED.false
    ] in
    let small : c.if-b-eq-LINE_FEED.step ≤ 1 = elim c.if-b-eq-LINE_FEED.branch [ then-b-eq-LINE_FEED w ↦ omega (arith, w.step-is) | else-b-eq-LINE_FEED w ↦ omega (arith, w.step-is, c.loop-b.invariant.2) ] in
    (is, omega (arith, small, turn.invariant.1), small)

pub returns : goal.returns
returns c =
    let turn = c.loop-b in
    record {
      value =
          step-done line_feed c.args.part.now turn.b-index turn.end turn.step turn.invariant.0 c.loop-b-test.false;
      within = omega (arith, turn.invariant.1);
    }
