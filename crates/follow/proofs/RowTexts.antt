-- The rows one behind another.
use Rattle.std.proofs.Common.{◌≡◌, ℕ, ◌+◌, ◌*◌, List, [], ◌∷◌, ◌++◌, length, take, drop, sym, refl}
use Rattle.std.proofs.Common.{ap, ◌∙◌, arith}
use Rattle.std.proofs.Math.Seq.{drop-append-add, take-append_seam}
use Rattle.row.specs.Kinds.{Kind}
use Rattle.row.specs.Limits.{field_limit}
use Rattle.row.specs.Rows.{row_at}
use Rattle.row.specs.declared.change.Cell.{Cell}
use Rattle.viewer.specs.declared.entry.Entry.{Entry}
use Rattle.follow.specs.Answers.{row_text, rows_from, rows_text}

-- a row, and the cells behind it
module _ {R : Type 0} (k : Kind R) (row rest : List (Cell R)) (long : length row ≡ field_limit) where
  first-row : row_at 0 (row ++ rest) ≡ row
  first-row = ap (λ n. take n (row ++ rest)) (sym long) ∙ take-append_seam row rest

  later-row : (i : ℕ) → row_at (i + 1) (row ++ rest) ≡ row_at i rest
  later-row i =
      let next : field_limit * (i + 1) ≡ length row + field_limit * i = omega arith in
      ap (λ n. take field_limit (drop n (row ++ rest))) next
      ∙ ap (take field_limit) (drop-append-add row rest (field_limit * i))

  later-rows :
      (i : ℕ) (es : List Entry) → rows_from k (i + 1) es (row ++ rest) ≡ rows_from k i es rest
  later-rows i [] = refl
  later-rows i (e ∷ es) = λ j. row_text k e (later-row i j) ++ later-rows (i + 1) es j

  pub row-first :
      (e : Entry) (es : List Entry)
      → rows_text k (e ∷ es) (row ++ rest) ≡ row_text k e row ++ rows_text k es rest
  row-first e es = λ j. row_text k e (first-row j) ++ later-rows 0 es j
