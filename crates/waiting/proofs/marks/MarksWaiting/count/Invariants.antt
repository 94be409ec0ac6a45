use Rattle.std.proofs.Common.{◌≡◌, ◌+◌, ◌-◌, ◌*◌, ◌≤◌, length, drop}
use Rattle.row.specs.Limits.{field_limit, tap_limit}
use Rattle.waiting.specs.Marks.{marks_in, marks_of}
use Rattle.waiting.proofs.marks.MarksWaiting.count.Given as goal

abbrev pub invariant-loop-i : goal.invariant-loop-i
invariant-loop-i g l =
    record {
      counted :
          l.count + length (marks_in g.R.Value.kind (tap_limit - l.i) (1 + l.i)
          (drop (field_limit * l.i) l.self.changes.now))
          ≡ length (marks_of g.R.Value.kind l.self.changes.now);
      few : l.count ≤ l.i;
    }
