use Rattle.std.proofs.Common.{◌≡◌, ◌*◌, ◌++◌, length, vec_items}
use Rattle.row.specs.Limits.{field_limit}
use Rattle.follow.specs.Answers.{rows_text}
use Rattle.follow.proofs.rows.push_rows.Given as goal

-- what is left of the entries and the cells, behind what has been appended, comes to all rows
abbrev pub invariant-loop-entry : goal.invariant-loop-entry
invariant-loop-entry g l = record {
  can_next : (goal.iterator-loop-entry g).can_next l.entry-iterator;
  is_finite : (goal.iterator-loop-entry g).is_finite l.entry-iterator;
  size : l.entry-iterator.b.size ≡ field_limit;
  long : length l.entry-iterator.b.rest.now ≡ field_limit * length l.entry-iterator.a.rest.now;
  text :
      vec_items l.out ++ rows_text g.V.Value.kind l.entry-iterator.a.rest.now l.entry-iterator.b.rest.now
      ≡ vec_items l.initial.out ++ rows_text g.V.Value.kind l.viewer.entries l.cells;
}
