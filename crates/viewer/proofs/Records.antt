-- What a line makes of texts is what it makes of the records that mean them.
use Rattle.std.proofs.Common.{◌≡◌, ℕ, ◌<◌, Bool, true, false, cond, List, [], ◌∷◌}
use Rattle.std.proofs.Common.{map, length, Some, None, Ok, Err, Option, Result, sym, ap}
use Rattle.std.proofs.Common.{subst, ◌∙◌, refl, arith}
use Rattle.std.specs.Prelude.{◌==◌, OnErr}
use Rattle.std.specs.List.{AllByRecursion}
use Rattle.std.proofs.lemmas.Bool.{cond-true, eq-eqb}
use Rattle.std.proofs.lemmas.List.{length-map}
use Rattle.row.specs.Kinds.{Kind, Lawful}
use Rattle.row.specs.Limits.{field_limit, tap_limit, cell_limit}
use Rattle.row.specs.Records.{cell_of, cell_record, canonical_cell, change_of, change_record}
use Rattle.row.specs.Records.{memory_refusal}
use Rattle.row.specs.Rows.{Cell, Change, null, value, same, becomes, change_cell, changed, row_at}
use Rattle.row.specs.Rows.{with_row}
use Rattle.row.specs.declared.change.Cell as cells
use Rattle.row.specs.declared.change.Change as changes
use Rattle.row.specs.declared.fault.Refusal.{Refusal}
use Rattle.row.proofs.Joining.{length-over}
use Rattle.row.specs.Rows.{filled}
use Rattle.tlcp.specs.Held.{answer_of, held_delta}
use Rattle.tlcp.specs.Lists.{Allowed, read_list}
use Rattle.tlcp.specs.Parts.{Piece}
use Rattle.tlcp.proofs.Reading.{refused}
use Rattle.viewer.specs.Hearing.{View, Outcome, hear, update, entries_after, cells_after}
use Rattle.viewer.specs.Hearing.{brought_by, answered, change_by, in_memory, outcome, put_row}
use Rattle.viewer.specs.Hearing.{put_touched, MeansHeard, StaysCanonical}
use Rattle.viewer.specs.Laws.{HoldAllowed}
use Rattle.viewer.specs.declared.entry.Entry.{Entry}
use Rattle.viewer.specs.declared.hear.Heard.TheVariants.{Taken}
use Rattle.viewer.proofs.Values.{read-allowed, filled-allowed, row-allowed}
use Rattle.viewer.proofs.Keeping.{hearing-laws, touched-cells, with_touched}
use Rattle.row.proofs.Places.{length-row, map-row, map-with, row-with}

module _ {R : Type 0} (k : Kind R) where
  module _ (law : Lawful k) where
    change-back : (c : Change) → Allowed k.allowed c → change_of k (change_record k c) ≡ c
    change-back same is = refl
    change-back (becomes null) is = refl
    change-back (becomes (value t)) is = ap (λ u. becomes (value u)) (law.text-raw t is)

    changes-back :
        (d : List Change) → AllByRecursion (Allowed k.allowed) d
        → map (change_of k) (map (change_record k) d) ≡ d
    changes-back [] is = refl
    changes-back (c ∷ d) is = λ i. change-back c is.0 i ∷ changes-back d is.1 i

    filled-back :
        (d : List Change) → AllByRecursion (Allowed k.allowed) d
        → map (change_of k) (map (change_record k) (filled d)) ≡ filled d
    filled-back d is = changes-back (filled d) (filled-allowed k.allowed d is)

    cell-back : (c : Cell) → Allowed k.allowed (becomes c) → cell_of k (cell_record k c) ≡ c
    cell-back null is = refl
    cell-back (value t) is = ap value (law.text-raw t is)

    cells-back :
        (cs : List Cell) → HoldAllowed k.allowed cs → map (cell_of k) (map (cell_record k) cs) ≡ cs
    cells-back [] is = refl
    cells-back (c ∷ cs) is = λ i. cell-back c is.0 i ∷ cells-back cs is.1 i

    cells-canonical :
        (cs : List Cell) → HoldAllowed k.allowed cs
        → map (canonical_cell k) (map (cell_record k) cs) ≡ map (cell_record k) cs
    cells-canonical [] is = refl
    cells-canonical (c ∷ cs) is =
        λ i. cell_record k (cell-back c is.0 i) ∷ cells-canonical cs is.1 i

    means-allowed : (cs : List (cells.Cell R)) → HoldAllowed k.allowed (map (cell_of k) cs)
    means-allowed [] = tt
    means-allowed (c ∷ cs) = (allowed c.null, means-allowed cs)
      where
        allowed : (n : Bool) → Allowed k.allowed (becomes (cond n null (value (k.text c.raw))))
        allowed true = tt
        allowed false = law.text-allowed c.raw

  -- a row in memory that was changed by a delta that was read
  module _ (law : Lawful k) (es : List Entry) (cs : List (cells.Cell R)) (at i n : ℕ) (s : List ℕ)
      (all : length cs ≡ cell_limit) (inside : i < tap_limit) where
    abbrev row-texts : List Cell
    row-texts = map (cell_of k) cs

    row-changed :
        (d : List Change) → read_list k.allowed n s ≡ Ok d
        → changed (map (cell_of k) (row_at i cs)) (map (change_of k) (held_delta k (Ok d)))
        ≡ row_at i (with_row i (changed (row_at i row-texts) (filled d)) row-texts)
    row-changed d read =
        let row = changed (row_at i row-texts) (filled d) in
        let long : length row-texts ≡ cell_limit = length-map cs (cell_of k) ∙ all in
        let own : length (row_at i row-texts) ≡ field_limit =
        length-row i row-texts (omega arith) in
        let wide : length row ≡ field_limit =
        length-over change_cell (row_at i row-texts) (filled d) ∙ own in
        let back = filled-back law d (read-allowed k.allowed n s d read) in
        (λ j. changed (map-row (cell_of k) i cs j) (back j))
        ∙ sym (row-with i row row-texts wide (omega arith))

    changed-in-memory :
        (new : List (cells.Cell R)) (delta : List (changes.Change R))
        (r : Result (List Change) Refusal) → read_list k.allowed n s ≡ r → answer_of r ≡ Ok tt
        → delta ≡ held_delta k r
        → new ≡ put_row k i (changed (map (cell_of k) (row_at i cs)) (map (change_of k) delta)) cs
        → outcome es new delta (Ok Taken) ≡ in_memory k es cs (change_by es row-texts at i r)
    changed-in-memory new delta (Err e) read ok held put = refused ok
    changed-in-memory new delta (Ok d) read ok held put =
        let row = map (cell_of k) (row_at i cs) in
        let cells =
        put
        ∙ ap (λ e. put_row k i (changed row (map (change_of k) e)) cs) held
        ∙ ap (λ r. put_row k i r cs) (row-changed d read) in
        λ j. outcome es (cells j) (held j) (Ok Taken)

  -- an open entry was found, the list was read for its fields, and its row was changed
  module _ (law : Lawful k) (es : List Entry) (cs : List (cells.Cell R)) (list : Piece)
      (i n : ℕ) where
    abbrev read : Result (List Change) Refusal
    read = read_list k.allowed n list.text

    abbrev updated-by : Option (ℕ × ℕ) → Outcome R
    updated-by o = in_memory k es cs (update es (map (cell_of k) cs) k.allowed list o)

    pub updated :
        (new : List (cells.Cell R)) (old delta : List (changes.Change R)) (o : Option (ℕ × ℕ))
        (r : Result (Unit {0}) Refusal) → length cs ≡ cell_limit → length old ≡ field_limit
        → i < tap_limit → o ≡ Some (i, n) → r ≡ Ok tt
        → r ≡ cond (length old == field_limit) (answer_of read) (Err memory_refusal)
        → delta ≡ cond (length old == field_limit) (held_delta k read) old
        → new ≡ put_row k i (changed (map (cell_of k) (row_at i cs)) (map (change_of k) delta)) cs
        → outcome es new delta (Ok Taken) ≡ updated-by o
    updated new old delta o r all twelve inside found ok answer held put =
        let fit = eq-eqb (length old) field_limit twelve in
        changed-in-memory law es cs list.at i n list.text all inside new delta read refl
        (sym (cond-true _ (answer_of read) (Err memory_refusal) fit) ∙ sym answer ∙ ok)
        (held ∙ cond-true _ (held_delta k read) old fit)
        put
        ∙ ap updated-by (sym found)

  module _ (law : Lawful k) (es : List Entry) (cs : List (cells.Cell R)) (line : List ℕ)
      (eight : length es ≡ tap_limit) (all : length cs ≡ cell_limit) where
    abbrev texts : List Cell
    texts = map (cell_of k) cs

    abbrev heard : Result View Refusal
    heard = hear k.allowed es texts line

    long : length texts ≡ cell_limit
    long = length-map cs (cell_of k) ∙ all

    values-held :
        (v : View) → heard ≡ Ok v → HoldAllowed k.allowed v.cells
        × AllByRecursion (Allowed k.allowed) v.brought
    values-held v is =
        (hearing-laws k.allowed es texts line eight long).values v is (means-allowed law cs)

    row-held :
        (i : ℕ) (new : List Cell) → HoldAllowed k.allowed new → HoldAllowed k.allowed (row_at i new)
    row-held = row-allowed k.allowed

    -- the row that was touched
    touched-means :
        (o : Option ℕ) (new : List Cell) → HoldAllowed k.allowed new
        → map (cell_of k) (put_touched k o new cs) ≡ with_touched o new texts
    touched-means None new is = refl
    touched-means (Some i) new is =
        map-with (cell_of k) i (map (cell_record k) (row_at i new)) cs
        ∙ ap (λ r. with_row i r texts) (cells-back law (row_at i new) (row-held i new is))

    touched-canonical :
        (o : Option ℕ) (new : List Cell) → HoldAllowed k.allowed new
        → StaysCanonical k cs (put_touched k o new cs)
    touched-canonical None new is was = was
    touched-canonical (Some i) new is was =
        map-with (canonical_cell k) i (map (cell_record k) (row_at i new)) cs
        ∙ (λ j. with_row i (cells-canonical law (row_at i new) (row-held i new is) j) (was j))

    in-memory-means : MeansHeard k es cs line (in_memory k es cs heard)
    in-memory-means = by heard refl
      where
        by : (t : Result View Refusal) → heard ≡ t → MeansHeard k es cs line (in_memory k es cs t)
        by (Ok v) is = record {
          entries = ap (entries_after es) (sym is);
          cells =
              touched-means v.touched v.cells (values-held v is).0
              ∙ sym (touched-cells es texts eight long k.allowed line v is)
              ∙ ap (cells_after texts) (sym is);
          delta = changes-back law v.brought (values-held v is).1 ∙ ap brought_by (sym is);
          answer = ap answered (sym is);
        }
        by (Err r) is = record {
          entries = ap (entries_after es) (sym is);
          cells = ap (cells_after texts) (sym is);
          delta = ap brought_by (sym is);
          answer = ap answered (sym is);
        }

    in-memory-canonical : StaysCanonical k cs (in_memory k es cs heard).cells
    in-memory-canonical = by heard refl
      where
        by : (t : Result View Refusal) → heard ≡ t → StaysCanonical k cs (in_memory k es cs t).cells
        by (Ok v) is = touched-canonical v.touched v.cells (values-held v is).0
        by (Err r) is = λ was. was

    -- the same of what memory holds after the line
    module _ (o : Outcome R) (is : o ≡ in_memory k es cs heard) where
      pub means-heard : MeansHeard k es cs line o
      means-heard = subst (MeansHeard k es cs line) (sym is) in-memory-means

      pub stays-canonical : StaysCanonical k cs o.cells
      stays-canonical =
          subst (λ (p : Outcome R). StaysCanonical k cs p.cells) (sym is) in-memory-canonical

  -- a refused line changes no entry and no cell
  module _ (es : List Entry) (cs : List (cells.Cell R)) where
    abbrev StaysRefused : Outcome R → Type 0
    StaysRefused o = OnErr o.answer ((o.entries ≡ es) × (o.cells ≡ cs))

    in-memory-refused : (t : Result View Refusal) → StaysRefused (in_memory k es cs t)
    in-memory-refused (Ok v) = tt
    in-memory-refused (Err r) = (refl, refl)

    pub refused-stays :
        (t : Result View Refusal) (o : Outcome R) → o ≡ in_memory k es cs t → StaysRefused o
    refused-stays t o is = subst StaysRefused (sym is) (in-memory-refused t)
