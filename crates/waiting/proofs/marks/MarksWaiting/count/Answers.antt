use Rattle.std.proofs.Common.{length, ap, arith}
use Rattle.waiting.proofs.MarksIn.{marks_skip, marks_some}
use Rattle.waiting.proofs.marks.MarksWaiting.count.Goals.{then-not-all_same, else-not-all_same}
use Rattle.waiting.proofs.marks.MarksWaiting.count.Goals as goal

pub loop-i-preserved : goal.loop-i-preserved
loop-i-preserved g c =
    let skip = marks_skip g.R.Value.kind c.loop-i.i c.args.self.now.changes.now c.all_same.result
    c.loop-i-test.true c.args.self.now.whole c.row_at.result.now c.row_at.ensures
    c.all_same.ensures in
    let some = marks_some g.R.Value.kind c.loop-i.i c.args.self.now.changes.now c.all_same.result
    c.loop-i-test.true c.args.self.now.whole c.row_at.result.now c.row_at.ensures
    c.all_same.ensures in
    elim c.if-not-all_same.branch [
      | then-not-all_same w ↦ record {
        counted =
            omega (
              arith,
              w.count-is,
              ap length (some w.if-not-all_same.true),
              c.loop-i.invariant.counted,
            );
        few = omega arith;
      }
      | else-not-all_same w ↦ record {
        counted =
            omega (
              arith,
              w.count-is,
              ap length (skip w.if-not-all_same.false),
              c.loop-i.invariant.counted,
            );
        few = omega arith;
      }
    ]
