use Rattle.std.proofs.Common.{◌≡◌, ◌∙◌, sym, map, get_or, Ok, arith}
use Rattle.row.specs.Records.{change_of}
use Rattle.waiting.specs.Lists.{pair}
use Rattle.waiting.proofs.MarksIn.{numbered}
use Rattle.buffers.proofs.RingRows.{ring-first}
use Rattle.buffers.proofs.ring.RingWaiting.look.Goals as goal

pub returns-clause-pair : goal.returns-clause-pair
returns-clause-pair g c =
    let r = c.args.self.now in
    let k = g.R.Value.kind in
    let n = get_or r.taps r.start 0 in
    let known : c.in_ok-tap.tap.number ≡ n = numbered c.in_ok-tap.tap.number n
    c.in_ok-tap.ensures in
    (λ j. Ok (pair (known j) (map (change_of k) (c.row_at-delta.ensures j))))
    ∙ sym (ring-first k r.start r.len r.taps r.changes.now r.inside (omega arith) r.whole
    (omega (arith, c.if-self-eq0.false)))
