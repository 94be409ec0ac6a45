use Rattle.std.proofs.Common.{sym}
use Rattle.waiting.proofs.Canonical.{widened-parts}
use Rattle.buffers.proofs.One.{busy-one, exact-one, put-one}
use Rattle.buffers.proofs.single.SingleWaiting.put.Goals as goal

pub invariant_of-self-clause-busy : goal.invariant_of-self-clause-busy
invariant_of-self-clause-busy g c =
    let k = g.R.Value.kind in
    let now = c.args.self.now in
    let ds = c.args.delta.now in
    let w = widened-parts k ds c.in_ok-whole.whole c.filled.result c.filled.ensures
    c.in_ok-whole.was in
    busy-one k g.met.R.Value.lawful ds c.in_ok-whole.whole now.changes.now
    c.copy_changes.new.to w.1 now.whole c.copy_changes.ensures.changes (sym c.if-all_same.ensures)

-- the facts of the tests by tactics, so that the answers fit other policies too
pub returns-clause-meaning : goal.returns-clause-meaning
returns-clause-meaning g c =
    let k = g.R.Value.kind in
    let now = c.args.self.now in
    let ds = c.args.delta.now in
    let w = widened-parts k ds c.in_ok-whole.whole c.filled.result c.filled.ensures
    c.in_ok-whole.was in
    let e = put-one k g.met.R.Value.lawful ds c.in_ok-whole.whole now.changes.now
    c.copy_changes.new.to w.1 now.whole c.copy_changes.ensures.changes now.tap c.args.tap.number w.0
    (cc) (sym c.if-all_same.ensures) in
    cc

pub returns-clause-exact : goal.returns-clause-exact
returns-clause-exact g c = λ _.
    let k = g.R.Value.kind in
    let now = c.args.self.now in
    let ds = c.args.delta.now in
    let w = widened-parts k ds c.in_ok-whole.whole c.filled.result c.filled.ensures
    c.in_ok-whole.was in
    exact-one k g.met.R.Value.lawful ds c.in_ok-whole.whole now.changes.now
    c.copy_changes.new.to w.1 now.whole c.copy_changes.ensures.changes c.number.result
