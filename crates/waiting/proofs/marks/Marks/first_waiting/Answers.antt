use Rattle.std.proofs.Common.{sym, ap, ◌∙◌}
use Rattle.waiting.specs.Policies.{first}
use Rattle.waiting.proofs.MarksIn.{marks_skip, marks_some, marks_all}
use Rattle.waiting.proofs.marks.Marks.first_waiting.Goals as goal

pub returns-then-not-all_same-clause-first : goal.returns-then-not-all_same-clause-first
returns-then-not-all_same-clause-first g c =
    ap first (sym c.loop-i.invariant ∙ marks_some g.R.Value.kind c.loop-i.i
    c.args.self.now.changes.now c.all_same.result c.loop-i-test.true c.args.self.now.whole
    c.row_at.result.now c.row_at.ensures c.all_same.ensures c.if-not-all_same.true)

pub loop-i-preserved : goal.loop-i-preserved
loop-i-preserved g c =
    sym (marks_skip g.R.Value.kind c.loop-i.i c.args.self.now.changes.now c.all_same.result
    c.loop-i-test.true c.args.self.now.whole c.row_at.result.now c.row_at.ensures
    c.all_same.ensures c.if-not-all_same.false) ∙ c.loop-i.invariant

pub returns-clause-first : goal.returns-clause-first
returns-clause-first g c =
    sym c.loop-i.invariant ∙ marks_all g.R.Value.kind c.loop-i.i c.args.self.now.changes.now
    c.loop-i-test.false
