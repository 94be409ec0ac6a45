use Rattle.std.proofs.Common.{[], sym, ◌∙◌, arith, subst}
use Rattle.waiting.specs.Lists.{pair}
use Rattle.waiting.specs.Queues.{queued}
use Rattle.waiting.proofs.Forgetting.{Forgotten, forgotten-removed, forgotten-passed, forgotten-all}
use Rattle.waiting.proofs.QueueRows.{length-taken, tap-taken}
use Rattle.waiting.proofs.queue.QueueWaiting.forget.Goals as goal

pub loop-i-preserved-then-self-i : goal.loop-i-preserved-then-self-i
loop-i-preserved-then-self-i g c =
    let q = c.loop-i.self in
    let k = g.R.Value.kind in
    let t = c.args.tap.number in
    let l = queued k q in
    let start = c.args.self.now in
    let all = queued k start in
    let before = c.loop-i.invariant in
    let long = length-taken k q.len q.taps q.changes.now (omega arith) in
    let here = tap-taken k q.len c.loop-i.i q.taps q.changes.now (pair 0 []) c.loop-i-test.true
    (omega arith) ∙ c.if-self-i.true ∙ c.number.ensures in
    let gone = forgotten-removed t c.loop-i.i l _ (pair 0 []) before.gone
    (omega (arith, long)) here in
    record {
      gone = subst (λ m. Forgotten t c.loop-i.i m all) (sym c.remove.ensures.list) gone;
      exact = λ old. c.remove.ensures.exact (before.exact old);
      lent = c.remove.ensures.lent ∙ before.lent;
    }

pub loop-i-preserved : goal.loop-i-preserved
loop-i-preserved g c =
    let q = c.loop-i.self in
    let k = g.R.Value.kind in
    let l = queued k q in
    let before = c.loop-i.invariant in
    let long = length-taken k q.len q.taps q.changes.now (omega arith) in
    let here = tap-taken k q.len c.loop-i.i q.taps q.changes.now (pair 0 []) c.loop-i-test.true
    (omega arith) in
    record {
      gone =
          forgotten-passed c.args.tap.number c.loop-i.i l _ (pair 0 []) before.gone
          (omega (arith, long)) (λ e. c.if-self-i.false (sym here ∙ e ∙ sym c.number.ensures));
      exact = before.exact;
      lent = before.lent;
    }

pub returns-clause-meaning : goal.returns-clause-meaning
returns-clause-meaning g c =
    let q = c.loop-i.self in
    let long = length-taken g.R.Value.kind q.len q.taps q.changes.now (omega arith) in
    forgotten-all c.args.tap.number c.loop-i.i _ _ c.loop-i.invariant.gone (omega (arith, long))
