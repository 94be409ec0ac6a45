-- What the input does to a follower, line by line, and what is printed of it.
use Rattle.std.specs.Prelude.{ℕ, ◌+◌, List, [], ◌∷◌, map, replicate}
use Rattle.row.specs.Limits.{field_limit, cell_limit}
use Rattle.row.specs.Kinds.{Kind}
use Rattle.row.specs.Records.{change_record, null_cell}
use Rattle.row.specs.Rows.{same}
use Rattle.tlcp.specs.Limits.{line_limit}
use Rattle.viewer.specs.Hearing.{Outcome, heard}
use Rattle.viewer.specs.Entries.{closed_with}
use Rattle.streams.specs.Answers.{Hearing}
use Rattle.follow.specs.Answers.{answer_text, rows_text}
use Rattle.follow.specs.declared.follower.Follower.{Follower}

-- so many bytes are held of a line: enough to tell one that is too long, whether CR LF ends it or
-- LF
abbrev pub held_limit : ℕ
held_limit = line_limit + 2

module _ {R : Type 0} (k : Kind R) where
  -- what comes of a line
  abbrev pub outcome : Follower R → List ℕ → Outcome R
  outcome f line = heard k f.viewer.entries f.cells f.delta line

  abbrev pub heard_by : Outcome R → Follower R
  heard_by o = record { viewer = record { entries = o.entries }; cells = o.cells; delta = o.delta }

  -- each line is answered, and at the end the open rows are printed
  abbrev pub hearing : Hearing (Follower R)
  hearing = record {
    next = λ f line. heard_by (outcome f line);
    answer = λ f line. answer_text (outcome f line).answer;
    closing = λ f. rows_text k f.viewer.entries f.cells;
  }

  -- a follower that has heard nothing
  abbrev pub opened : Follower R
  opened = record {
    viewer = record { entries = map closed_with (1 ∷ 2 ∷ 3 ∷ 4 ∷ 5 ∷ 6 ∷ 7 ∷ 8 ∷ []) };
    cells = replicate cell_limit (null_cell k);
    delta = replicate field_limit (change_record k same);
  }
