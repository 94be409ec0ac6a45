-- What a printed row is to whoever hears it.
use Rattle.std.specs.Prelude.{◌≡◌, ℕ, ◌-◌, ◌≤◌, List, [], ◌∷◌, ◌++◌, map, length, replicate, take}
use Rattle.std.specs.Prelude.{Ok}
use Rattle.row.specs.Kinds.{Kind}
use Rattle.row.specs.Limits.{cell_limit, field_limit, tap_limit}
use Rattle.row.specs.Records.{cell_of, whole_changes}
use Rattle.row.specs.Rows.{Cell, becomes, null}
use Rattle.row.specs.declared.change.Cell as records
use Rattle.tlcp.specs.Limits.{id_limit}
use Rattle.tlcp.specs.Lines.{read_line}
use Rattle.tlcp.specs.Lists.{read_list, written_list}
use Rattle.tlcp.specs.Written.{changes_of}
use Rattle.notify.specs.Back.{Unbroken, laid}
use Rattle.notify.specs.Given.{line_text, number, saying, one_item}
use Rattle.tlcp.specs.declared.tag.Tag.TheVariants.{Subok}
use Rattle.streams.specs.Ends.{line_feed}
use Rattle.viewer.specs.Effects.{opens}
use Rattle.viewer.specs.Hearing.{changed_by_lines}
use Rattle.viewer.specs.Laws.{First}
use Rattle.viewer.specs.declared.entry.Entry.{Entry}
use Rattle.follow.specs.Answers.{row_line, row_update}

-- the line that opens an entry
abbrev pub subok_line : ℕ → ℕ → List ℕ
subok_line id n = line_text (saying Subok (number id ∷ one_item ∷ number n ∷ []))

module _ {R : Type 0} (k : Kind R) where
  -- the cells of a row's fields
  abbrev pub fields_of : ℕ → List (records.Cell R) → List Cell
  fields_of n row = take n (map (cell_of k) row)

  -- a row of n fields whose subscription has the ID `id`
  pub record Row (id n : ℕ) (row : List (records.Cell R)) : Type 0 where
    pub low : 1 ≤ id
    pub high : id ≤ id_limit
    pub some : 1 ≤ n
    pub few : n ≤ field_limit
    pub long : length row ≡ field_limit

  -- it is printed as one line, which the reader takes for the update with that ID, and whose list
  -- spells a change to each of the row's cells
  pub record PrintedWhole (id n : ℕ) (row : List (records.Cell R)) : Type 0 where
    pub line : row_line k id row n ≡ line_text (row_update k id row n) ++ line_feed ∷ []
    pub unbroken : Unbroken (line_text (row_update k id row n))
    pub update : read_line (line_text (row_update k id row n)) ≡ Ok (laid (row_update k id row n))
    pub cells : read_list k.allowed n (written_list (changes_of k (whole_changes k row) n)) ≡ Ok
        (map becomes (fields_of n row))

  abbrev pub PrintsWhole : Type 0
  PrintsWhole = (id n : ℕ) (row : List (records.Cell R)) → Row id n row → PrintedWhole id n row

  -- a row's cells: null behind its fields
  abbrev pub row_of : ℕ → List (records.Cell R) → List Cell
  row_of n row = fields_of n row ++ replicate (field_limit - n) null

  -- a viewer that hears SUBOK for an ID that one of its entries has, and then the printed line, has
  -- that row in the entry's place
  abbrev pub RowsHeard : Type 0
  RowsHeard =
      (id n : ℕ) (row : List (records.Cell R)) (es : List Entry) (cs : List Cell) (i : ℕ)
      → Row id n row → length es ≡ tap_limit → length cs ≡ cell_limit → First (opens id n) es i
      → changed_by_lines k.allowed (es, cs) i
      (subok_line id n ∷ line_text (row_update k id row n) ∷ []) ≡ row_of n row
