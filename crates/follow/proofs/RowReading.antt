-- A printed row, read again.
use Rattle.std.proofs.Common.{◌≡◌, true, ◌&&◌, ℕ, suc, ◌+◌, ◌≤◌, List, [], ◌∷◌, ◌++◌, map, length}
use Rattle.std.proofs.Common.{take, replicate, Ok, sym, refl, ap, ◌∙◌, arith}
use Rattle.std.proofs.lemmas.Bool.{and_from, cond-true, le-leb}
use Rattle.std.proofs.lemmas.List.{take-map}
use Rattle.std.proofs.lemmas.Simd.{map-map}
use Rattle.row.specs.Canonical.{wholly-means}
use Rattle.row.specs.Kinds.{Kind, Lawful}
use Rattle.row.specs.Limits.{field_limit}
use Rattle.row.specs.Records.{cell_of, change_of, change_record, whole_changes}
use Rattle.row.specs.Rows.{Cell, becomes, changed, null}
use Rattle.row.specs.declared.change.Cell as records
use Rattle.tlcp.specs.Limits.{id_limit}
use Rattle.tlcp.specs.Lines as lines
use Rattle.tlcp.specs.Written.{changes_of, covers}
use Rattle.notify.specs.Back.{Update}
use Rattle.notify.specs.Given.{is_within, number, within}
use Rattle.notify.proofs.Updating.{update-back, update-unbroken}
use Rattle.follow.specs.Answers.{row_update}
use Rattle.follow.specs.PrintedRows.{PrintedWhole, Row, fields_of}
use Rattle.follow.proofs.RowLines.{whole}

-- a number within its limits
pub number-within : (low high m : ℕ) → low ≤ m → m ≤ high
    → is_within (lines.number low high) (number m) ≡ true
number-within low high m l u = and_from _ _ (le-leb low m l) (le-leb m high u)

module _ {R : Type 0} (k : Kind R) (law : Lawful k) (id n : ℕ) (row : List (records.Cell R))
    (h : Row k id n row) where
  in_limits : within (row_update k id row n) ≡ true
  in_limits = and_from _ _ (number-within 1 id_limit id h.low h.high) refl

  covered : covers n ≡ true
  covered = and_from _ _ (le-leb 1 n h.some) (le-leb n field_limit h.few)

  update : Update k id (whole_changes k row) n
  update =
      record { whole = whole k law id row n h.long; id-within = in_limits; fields_within = covered }

  -- what the list says of the fields
  says : changes_of k (whole_changes k row) n ≡ map becomes (fields_of k n row)
  says =
      sym (take-map (change_of k) n (whole_changes k row))
      ∙ ap (take n)
      (map-map (change_of k) (change_record k) (map becomes (map (cell_of k) row))
      ∙ ap (map (λ x. change_of k (change_record k x))) (map-map becomes (cell_of k) row)
      ∙ map-map (λ x. change_of k (change_record k x)) (λ c. becomes (cell_of k c)) row
      ∙ (λ i. map (λ c. wholly-means k law c i) row)
      ∙ sym (map-map becomes (cell_of k) row))
      ∙ take-map becomes n (map (cell_of k) row)

  pub printed-whole : PrintedWhole k id n row
  printed-whole =
      let back = update-back k law id (whole_changes k row) n update in
      record {
        line = cond-true (within (row_update k id row n) && covers n) _ []
            (and_from _ _ in_limits covered);
        unbroken = update-unbroken k law id (whole_changes k row) n update;
        update = back.0.line;
        cells = back.1 ∙ ap Ok says;
      }

-- a row that no change comes to stays
changed-none : (row : List Cell) → changed row [] ≡ row
changed-none [] = refl
changed-none (c ∷ row) = refl

-- changes that come to every field of a null row leave its fields' cells
pub null-changed : (cells : List Cell) (m : ℕ)
    → changed (replicate (length cells + m) null) (map becomes cells) ≡ cells ++ replicate m null
null-changed [] m =
    let all : 0 + m ≡ m = omega arith in
    ap (λ n. changed (replicate n null) []) all ∙ changed-none (replicate m null)
null-changed (c ∷ cells) m =
    let one : suc (length cells) + m ≡ suc (length cells + m) = omega arith in
    ap (λ n. changed (replicate n null) (becomes c ∷ map becomes cells)) one
    ∙ ap (λ cs. c ∷ cs) (null-changed cells m)
