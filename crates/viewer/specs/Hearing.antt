-- What a viewer makes of a line: by the texts of its cells and changes, and so in memory.
use Rattle.std.specs.Prelude.{◌≡◌, ℕ, Bool, cond, ◌&&◌, List, map, length, fold, replicate, Some}
use Rattle.std.specs.Prelude.{None, Ok, Err, Option, Result, ◌==◌, slice_set}
use Rattle.row.specs.Faults.{moved}
use Rattle.row.specs.Kinds.{Kind}
use Rattle.row.specs.Limits.{field_limit, cell_limit}
use Rattle.row.specs.Records.{cell_of, cell_record, change_of, change_record, canonical_cell}
use Rattle.row.specs.Records.{memory_refusal}
use Rattle.row.specs.Rows.{Cell, Change, null, blank, changed, row_at, with_row}
use Rattle.row.specs.declared.change.Cell as cells
use Rattle.row.specs.declared.change.Change as changes
use Rattle.row.specs.declared.fault.Refusal.{Refusal}
use Rattle.row.specs.Rows.{filled}
use Rattle.tlcp.specs.Lines.{Message, read_line}
use Rattle.tlcp.specs.Lists.{read_list}
use Rattle.tlcp.specs.Parts.{Piece}
use Rattle.viewer.specs.Effects.{Effect, opens, closes, updates, nothing, effect_of}
use Rattle.viewer.specs.Entries.{find_entry, find_open, has_id, opened, closed}
use Rattle.viewer.specs.declared.entry.Entry.{Entry}
use Rattle.viewer.specs.declared.hear.Heard.{Heard}
use Rattle.viewer.specs.declared.hear.Heard.TheVariants.{Taken, Passed}

-- a viewer after a line that it accepted
pub record View : Type 0 where
  pub entries : List Entry
  pub cells : List Cell
  -- the delta that an update brought, with same behind its fields; blank after any other line
  pub brought : List Change
  -- the index of the row that was set or changed, if one was
  pub touched : Option ℕ
  pub answer : Heard

-- a row in which every cell is null
abbrev pub null_cells : List Cell
null_cells = replicate field_limit null

-- the cells with one row null
abbrev pub null_row : ℕ → List Cell → List Cell
null_row i cs = with_row i null_cells cs

module _ (es : List Entry) (cs : List Cell) where
  -- nothing is changed
  abbrev pub unmoved : Heard → View
  unmoved a = record { entries = es; cells = cs; brought = blank; touched = None; answer = a }

  -- one entry is set anew, and its row is null
  abbrev pub set_entry : Entry → Option ℕ → View
  set_entry e None = unmoved Passed
  set_entry e (Some i) = record {
    entries = slice_set es i e;
    cells = null_row i cs;
    brought = blank;
    touched = Some i;
    answer = Taken;
  }

  -- the row with index i is changed by a delta
  abbrev pub change_row : ℕ → List Change → View
  change_row i d = record {
    entries = es;
    cells = with_row i (changed (row_at i cs) d) cs;
    brought = d;
    touched = Some i;
    answer = Taken;
  }

  -- a row is changed by what a list was read as, which stands at a place of the line
  abbrev pub change_by : ℕ → ℕ → Result (List Change) Refusal → Result View Refusal
  change_by at i (Ok d) = Ok (change_row i (filled d))
  change_by at i (Err r) = Err (moved at r)

  module _ (allowed : List ℕ → Bool) where
    -- the row of an open entry with so many fields is changed by a list
    abbrev pub update : Piece → Option (ℕ × ℕ) → Result View Refusal
    update list None = Ok (unmoved Passed)
    update list (Some (i, n)) = change_by list.at i (read_list allowed n list.text)

    abbrev pub hear_effect : Effect → Result View Refusal
    hear_effect (opens id n) = Ok (set_entry (opened id n) (find_entry (has_id id) es))
    hear_effect (closes id) = Ok (set_entry closed (find_entry (has_id id) es))
    hear_effect (updates id list) = update list (find_open id es)
    hear_effect nothing = Ok (unmoved Taken)

    abbrev pub hear_message : Result Message Refusal → Result View Refusal
    hear_message (Ok m) = hear_effect (effect_of m.tag m.args)
    hear_message (Err r) = Err r

-- the viewer after a line, or the line's refusal
abbrev pub hear : (List ℕ → Bool) → List Entry → List Cell → List ℕ → Result View Refusal
hear allowed es cs line = hear_message es cs allowed (read_line line)

-- a refused line leaves entries and cells as they are, and brings nothing
abbrev pub entries_after : List Entry → Result View Refusal → List Entry
entries_after es (Ok v) = v.entries
entries_after es (Err r) = es

abbrev pub cells_after : List Cell → Result View Refusal → List Cell
cells_after cs (Ok v) = v.cells
cells_after cs (Err r) = cs

abbrev pub brought_by : Result View Refusal → List Change
brought_by (Ok v) = v.brought
brought_by (Err r) = blank

abbrev pub answered : Result View Refusal → Result Heard Refusal
answered (Ok v) = Ok v.answer
answered (Err r) = Err r

module _ (allowed : List ℕ → Bool) where
  -- the entries and cells after one line more
  abbrev pub after_line : List Entry × List Cell → List ℕ → List Entry × List Cell
  after_line v line =
      let made = hear allowed v.0 v.1 line in
      (entries_after v.0 made, cells_after v.1 made)

  -- the entries and cells after some lines, heard in order
  abbrev pub after_lines : List Entry × List Cell → List (List ℕ) → List Entry × List Cell
  after_lines = fold after_line

  -- the row with index i changed by some lines
  abbrev pub changed_by_lines : List Entry × List Cell → ℕ → List (List ℕ) → List Cell
  changed_by_lines v i lines = row_at i (after_lines v lines).1

-- what memory holds after a line: entries, cells, the lent changes and the answer
pub record Outcome (R : Type 0) : Type 0 where
  pub entries : List Entry
  pub cells : List (cells.Cell R)
  pub delta : List (changes.Change R)
  pub answer : Result Heard Refusal

module _ {R : Type 0} where
  abbrev pub outcome :
      List Entry → List (cells.Cell R) → List (changes.Change R) → Result Heard Refusal → Outcome R
  outcome es cs d a = record { entries = es; cells = cs; delta = d; answer = a }

module _ {R : Type 0} (k : Kind R) where
  -- the records of cells, in place of the row with index i
  abbrev pub put_row : ℕ → List Cell → List (cells.Cell R) → List (cells.Cell R)
  put_row i row cs = with_row i (map (cell_record k) row) cs

  -- the row that was set or changed holds the records of its texts, and all other records stay
  abbrev pub put_touched : Option ℕ → List Cell → List (cells.Cell R) → List (cells.Cell R)
  put_touched None ts cs = cs
  put_touched (Some i) ts cs = put_row i (row_at i ts) cs

  -- how memory holds what a line leaves
  abbrev pub in_memory : List Entry → List (cells.Cell R) → Result View Refusal → Outcome R
  in_memory es cs (Ok v) =
      outcome v.entries (put_touched v.touched v.cells cs) (map (change_record k) v.brought)
      (Ok v.answer)
  in_memory es cs (Err r) = outcome es cs (map (change_record k) blank) (Err r)

  -- the memory is a row of cells for each tap, and the changes of one row
  abbrev pub fitting : List (cells.Cell R) → List (changes.Change R) → Bool
  fitting cs delta = length cs == cell_limit && length delta == field_limit

  -- what a line makes of the texts that memory means
  abbrev pub told : List Entry → List (cells.Cell R) → List ℕ → Result View Refusal
  told es cs line = hear k.allowed es (map (cell_of k) cs) line

  -- what a line makes of memory, if that fits
  abbrev pub heard :
      List Entry → List (cells.Cell R) → List (changes.Change R) → List ℕ → Outcome R
  heard es cs delta line =
      cond (fitting cs delta) (in_memory es cs (told es cs line))
      (outcome es cs delta (Err memory_refusal))

  -- memory means what hearing makes of the texts that it meant
  pub record MeansHeard
      (es : List Entry) (cs : List (cells.Cell R)) (line : List ℕ) (o : Outcome R) : Type 0 where
    pub entries : o.entries ≡ entries_after es (told es cs line)
    pub cells : map (cell_of k) o.cells ≡ cells_after (map (cell_of k) cs) (told es cs line)
    pub delta : map (change_of k) o.delta ≡ brought_by (told es cs line)
    pub answer : o.answer ≡ answered (told es cs line)

  -- where each cell held the record of its meaning, it does so afterwards
  abbrev pub StaysCanonical : List (cells.Cell R) → List (cells.Cell R) → Type 0
  StaysCanonical old new = map (canonical_cell k) old ≡ old → map (canonical_cell k) new ≡ new
