-- What the plain records of memory mean, and what changing and joining make of them.
use Rattle.std.specs.Prelude.{Bool, true, false, cond, ◌&&◌, List, map, length, Ok, Err, Result}
use Rattle.std.specs.Prelude.{◌==◌}
use Rattle.row.specs.Limits.{field_limit}
use Rattle.row.specs.Faults.{refusal}
use Rattle.row.specs.Kinds.{Kind, rest_record}
use Rattle.row.specs.Rows as rows
use Rattle.row.specs.Rows.{null, value, same, becomes, change_cell, changed, join_change, join}
use Rattle.row.specs.declared.change.Mark.{Mark}
use Rattle.row.specs.declared.change.Mark.TheVariants.{Same, Null, Value}
use Rattle.row.specs.declared.change.Cell.{Cell}
use Rattle.row.specs.declared.change.Change.{Change}
use Rattle.row.specs.declared.fault.Fault.TheVariants.{Memory}
use Rattle.row.specs.declared.fault.Refusal.{Refusal}

module _ {R : Type 0} (k : Kind R) where
  abbrev pub cell_of : Cell R → rows.Cell
  cell_of c = cond c.null null (value (k.text c.raw))

  abbrev pub mark_of : Mark → R → rows.Change
  mark_of Same r = same
  mark_of Null r = becomes null
  mark_of Value r = becomes (value (k.text r))

  abbrev pub change_of : Change R → rows.Change
  change_of c = mark_of c.mark c.raw

  -- how memory holds a change
  abbrev pub change_record : rows.Change → Change R
  change_record same = record { mark = Same; raw = rest_record k }
  change_record (becomes null) = record { mark = Null; raw = rest_record k }
  change_record (becomes (value t)) = record { mark = Value; raw = k.raw t }

  -- how memory holds a cell
  abbrev pub cell_record : rows.Cell → Cell R
  cell_record null = record { null = true; raw = rest_record k }
  cell_record (value t) = record { null = false; raw = k.raw t }

  abbrev pub null_cell : Cell R
  null_cell = cell_record null

  -- a change, and a cell, by the record that memory holds for its meaning
  abbrev pub canonical : Change R → Change R
  canonical c = change_record (change_of c)

  abbrev pub canonical_cell : Cell R → Cell R
  canonical_cell c = cell_record (cell_of c)

  -- one cell after one change
  abbrev pub changed_cell : Cell R → Change R → Cell R
  changed_cell c d = cell_record (change_cell (cell_of c) (change_of d))

  -- the join of two changes
  abbrev pub later : Change R → Change R → Change R
  later c d = change_record (join_change (change_of c) (change_of d))

  -- the change that gives any cell this one's state
  abbrev pub wholly : Cell R → Change R
  wholly c = change_record (becomes (cell_of c))

  -- the records of a row that a delta changed
  abbrev pub changed_cells : List (Cell R) → List (Change R) → List (Cell R)
  changed_cells cs ds = map cell_record (changed (map cell_of cs) (map change_of ds))

  -- the records of the join of two deltas
  abbrev pub joined_changes : List (Change R) → List (Change R) → List (Change R)
  joined_changes cs ds = map change_record (join (map change_of cs) (map change_of ds))

  -- the records of a whole row as a delta
  abbrev pub whole_changes : List (Cell R) → List (Change R)
  whole_changes cs = map change_record (map becomes (map cell_of cs))

abbrev pub is_same : Mark → Bool
is_same Same = true
is_same Null = false
is_same Value = false

-- both lists have the places of a row
abbrev pub rows_fit : {X Y : Type 0} → List X → List Y → Bool
rows_fit xs ys = length xs == field_limit && length ys == field_limit

abbrev pub memory_refusal : Refusal
memory_refusal = refusal Memory 0

-- the answer of a call that only asks that its memory fits
abbrev pub answer_if : Bool → Result (Unit {0}) Refusal
answer_if b = cond b (Ok tt) (Err memory_refusal)
