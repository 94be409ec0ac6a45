-- What changing a row and joining deltas do, in words, field by field. A row ends where its fields
-- end: beyond them a cell is null and a change is same.
use Rattle.std.specs.Prelude.{◌≡◌, ℕ, ◌<◌, List, map, length, get_or}
use Rattle.row.specs.Rows.{Cell, Change, null, value, same, becomes, changed, join, blank}

abbrev pub cell_at : List Cell → ℕ → Cell
cell_at row i = get_or row i null

abbrev pub change_at : List Change → ℕ → Change
change_at d i = get_or d i same

pub record RowLaws : Type 0 where
  -- a cell stays where the change is same, is null after null, and has the value after a value
  pub stays :
      (row : List Cell) (d : List Change) (i : ℕ)
      → change_at d i ≡ same → cell_at (changed row d) i ≡ cell_at row i
  pub nulled :
      (row : List Cell) (d : List Change) (i : ℕ)
      → i < length row → change_at d i ≡ becomes null → cell_at (changed row d) i ≡ null
  pub valued :
      (row : List Cell) (d : List Change) (i : ℕ) (t : List ℕ)
      → i < length row → change_at d i ≡ becomes (value t)
      → cell_at (changed row d) i ≡ value t
  -- no field comes or goes
  pub row-length : (row : List Cell) (d : List Change) → length (changed row d) ≡ length row
  -- the join keeps the later change, and the earlier one where the later is same
  pub later-kept :
      (d e : List Change) (i : ℕ) (c : Cell)
      → i < length d → change_at e i ≡ becomes c → change_at (join d e) i ≡ becomes c
  pub earlier-kept :
      (d e : List Change) (i : ℕ) → change_at e i ≡ same → change_at (join d e) i ≡ change_at d i
  pub join-length : (d e : List Change) → length (join d e) ≡ length d
  -- a row changed by a join is the row changed by the one delta and then by the other
  pub by-join :
      (row : List Cell) (d e : List Change)
      → length d ≡ length e → changed row (join d e) ≡ changed (changed row d) e
  -- joining is grouped as one likes
  pub joins-group :
      (c d e : List Change)
      → length c ≡ length d → length d ≡ length e → join (join c d) e ≡ join c (join d e)
  -- the delta of a whole row gives any row its state
  pub by-whole :
      (row whole : List Cell) → length row ≡ length whole → changed row (map becomes whole) ≡ whole
  -- the delta that is all same changes nothing
  pub by-blank : (row : List Cell) → changed row blank ≡ row
