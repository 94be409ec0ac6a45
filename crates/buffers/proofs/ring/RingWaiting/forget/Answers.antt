use Rattle.std.proofs.Common.{◌≡◌, ◌+◌, ◌-◌, ◌*◌, ◌≤◌, ◌++◌, length, take, drop, ap, ◌∙◌}
use Rattle.std.proofs.Common.{arith}
use Rattle.std.proofs.lemmas.List.{length-append, length-drop, length-take, drop_all, take_all}
use Rattle.row.specs.Limits.{field_limit}
use Rattle.waiting.specs.Lists.{without}
use Rattle.waiting.proofs.QueueRows.{length-pairs, length-taken}
use Rattle.buffers.specs.Rings.{length-turned, ringed}
use Rattle.buffers.specs.Turning.{turned}
use Rattle.buffers.proofs.RingRows.{without-next, without-turned}
use Rattle.buffers.proofs.ring.RingWaiting.forget.Goals as goal

pub turn-requires : goal.turn-requires
turn-requires g c =
    let k = g.R.Value.kind in
    let q = c.loop-left.self in
    let start = c.args.self.now in
    let t = c.args.tap.number in
    let all = ringed k start in
    let j = start.len - c.loop-left.left in
    let long = length-pairs k (take q.len (turned q.start q.taps))
    (turned (field_limit * q.start) q.changes.now) in
    let few = length-take q.len (turned q.start q.taps) in
    let many = length-taken k start.len (turned start.start start.taps)
    (turned (field_limit * start.start) start.changes.now)
    (omega (arith, length-turned start.start start.taps)) in
    omega (
      arith,
      long,
      few,
      many,
      ap length c.loop-left.invariant.list,
      length-append (drop j all)
          (without t (take j all)),
      length-drop j all,
      c.loop-left-test.true,
      c.loop-left.invariant.few,
    )

pub loop-left-preserved : goal.loop-left-preserved
loop-left-preserved g c =
    let k = g.R.Value.kind in
    let start = c.args.self.now in
    let t = c.args.tap.number in
    let all = ringed k start in
    let j = start.len - c.loop-left.left in
    let many = length-taken k start.len (turned start.start start.taps)
    (turned (field_limit * start.start) start.changes.now)
    (omega (arith, length-turned start.start start.taps)) in
    let before = c.loop-left.invariant in
    let further : j + 1 ≡ start.len - (c.loop-left.left - 1) = omega
    (arith, c.loop-left-test.true, before.few) in
    record {
      list = c.turn.ensures.list
          ∙ (λ i. drop 1 (before.list i) ++ without (c.number.ensures i) (take 1 (before.list i)))
          ∙ without-next t j all (omega (arith, many, c.loop-left-test.true, before.few))
          ∙ ap (λ m. without-turned t m all) further;
      few = omega (arith, before.few);
      lent = c.turn.ensures.lent ∙ before.lent;
    }

pub returns-clause-meaning : goal.returns-clause-meaning
returns-clause-meaning g c =
    let k = g.R.Value.kind in
    let start = c.args.self.now in
    let t = c.args.tap.number in
    let all = ringed k start in
    let j = start.len - c.loop-left.left in
    let many = length-taken k start.len (turned start.start start.taps)
    (turned (field_limit * start.start) start.changes.now)
    (omega (arith, length-turned start.start start.taps)) in
    let end : length all ≤ j = omega (arith, many, c.loop-left-test.false) in
    c.loop-left.invariant.list ∙ (λ i. drop_all j all end i ++ without t (take_all j all end i))
