-- What is printed: an answer to each line, and at the end the open rows.
use Rattle.std.specs.Prelude.{ℕ, Some, None, Option, ◌+◌, ◌&&◌, cond, List, [], ◌∷◌, ◌++◌, Ok, Err}
use Rattle.std.specs.Prelude.{codes, Result}
use Rattle.row.specs.Faults.{printed}
use Rattle.row.specs.Kinds.{Kind}
use Rattle.row.specs.Records.{whole_changes}
use Rattle.row.specs.Rows.{row_at}
use Rattle.row.specs.declared.change.Cell.{Cell}
use Rattle.row.specs.declared.fault.Refusal.{Refusal}
use Rattle.tlcp.specs.Written.{covers}
use Rattle.notify.specs.Given.{Saying, line_text, within}
use Rattle.notify.specs.Written.{update_of}
use Rattle.streams.specs.Ends.{line_feed}
use Rattle.viewer.specs.declared.entry.Entry.{Entry}
use Rattle.viewer.specs.declared.hear.Heard.{Heard}
use Rattle.viewer.specs.declared.hear.Heard.TheVariants.{Taken, Passed}

abbrev pub answer_text : Result Heard Refusal → List ℕ
answer_text (Ok Taken) = codes " ok"
answer_text (Ok Passed) = codes " passed"
answer_text (Err r) = codes " no " ++ printed r

module _ {R : Type 0} (k : Kind R) where
  -- the update that gives a viewer's null row the cells of a row, so many fields of it
  abbrev pub row_update : ℕ → List (Cell R) → ℕ → Saying
  row_update id row fields = update_of k id (whole_changes k row) fields

  -- the line that the emulator writes for a row, if there is a subscription with this ID and a row
  -- of so many fields
  abbrev pub row_line : ℕ → List (Cell R) → ℕ → List ℕ
  row_line id row fields =
      let update = row_update id row fields in
      cond (within update && covers fields) (line_text update ++ line_feed ∷ []) []

  -- a row, if its entry is open
  abbrev pub open_row : ℕ → List (Cell R) → Option ℕ → List ℕ
  open_row id row None = []
  open_row id row (Some fields) = row_line id row fields

  abbrev pub row_text : Entry → List (Cell R) → List ℕ
  row_text e row = open_row e.id row e.fields

  -- the rows of the entries from the index i on
  abbrev pub rows_from : ℕ → List Entry → List (Cell R) → List ℕ
  rows_from i [] cells = []
  rows_from i (e ∷ es) cells = row_text e (row_at i cells) ++ rows_from (i + 1) es cells

  abbrev pub rows_text : List Entry → List (Cell R) → List ℕ
  rows_text = rows_from 0
