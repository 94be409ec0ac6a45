-- A row's line, as the writer leaves it in lent memory.
use Rattle.std.proofs.Common.{◌≡◌, ◌==◌, Bool, true, false, ◌&&◌, cond, ℕ, ◌+◌, List, [], ◌∷◌, ◌++◌}
use Rattle.std.proofs.Common.{map, length, take, drop, replicate, Ok, Err, Result, sym, refl, ap}
use Rattle.std.proofs.Common.{◌∙◌, subst, arith}
use Rattle.std.proofs.lemmas.Bool.{cond-true, eq-eqb, le-leb}
use Rattle.std.proofs.lemmas.List.{length-map, length-replicate, take_at}
use Rattle.row.specs.Kinds.{Kind, Lawful}
use Rattle.row.specs.Limits.{field_limit}
use Rattle.row.specs.Records.{cell_of, change_record, memory_refusal, whole_changes}
use Rattle.row.specs.Rows.{becomes}
use Rattle.row.specs.declared.change.Cell.{Cell}
use Rattle.row.specs.declared.change.Change.{Change}
use Rattle.row.specs.declared.fault.Refusal.{Refusal}
use Rattle.tlcp.specs.Limits.{line_limit}
use Rattle.tlcp.specs.Lists.{uncovered}
use Rattle.tlcp.specs.Written.{covers, end_or, fits, no_room, placed, placed_or}
use Rattle.notify.specs.Back.{Update}
use Rattle.notify.specs.Given.{line_text, within}
use Rattle.notify.specs.Written.{beyond, update_answer, update_placed}
use Rattle.notify.proofs.Updating.{update-short}
use Rattle.streams.specs.Ends.{line_feed}
use Rattle.follow.specs.Answers.{row_line, row_update}

-- what is printed of what was written: the line and its end, or nothing
abbrev pub Prints : Result ℕ Refusal → List ℕ → List ℕ → Type 0
Prints (Ok n) line text = take n line ++ line_feed ∷ [] ≡ text
Prints (Err e) line text = text ≡ []

module _ {R : Type 0} (k : Kind R) (law : Lawful k) (id : ℕ) (row : List (Cell R)) (fields : ℕ)
    (long : length row ≡ field_limit) where
  abbrev delta : List (Change R)
  delta = whole_changes k row

  abbrev out : List ℕ
  out = replicate line_limit 0

  pub whole : length delta ≡ field_limit
  whole = length-map (map becomes (map (cell_of k) row)) (change_record k)
      ∙ length-map (map (cell_of k) row) becomes ∙ length-map row (cell_of k) ∙ long

  abbrev line : List ℕ
  line = line_text (row_update k id row fields)

  -- what is left in memory, and answered, of a line that was written
  written : within (row_update k id row fields) ≡ true → covers fields ≡ true
      → Prints (end_or 0 line out) (placed_or 0 line out) (line ++ line_feed ∷ [])
  written in_limits covered =
      let update : Update k id delta fields =
      record { whole = whole; id-within = in_limits; fields_within = covered } in
      let short = update-short k law id delta fields update in
      let room : fits 0 line out ≡ true = le-leb (0 + length line) (length out)
      (omega (arith, short, length-replicate {A = ℕ} line_limit 0)) in
      subst (λ r. Prints r (placed_or 0 line out) (line ++ line_feed ∷ []))
      (sym (cond-true (fits 0 line out) (Ok (0 + length line)) (Err no_room) room))
      (ap (λ l. take (0 + length line) l ++ line_feed ∷ [])
      (cond-true (fits 0 line out) (placed 0 line out) out room)
      ∙ ap (λ l. l ++ line_feed ∷ [])
      (take_at line (drop (0 + length line) out) (0 + length line) (omega arith)))

  -- what the writer answers, and leaves in memory, by the two tests
  abbrev answer : Bool → Bool → Result ℕ Refusal
  answer a b = cond a (cond b (end_or 0 line out) (Err uncovered)) (Err beyond)

  abbrev left : Bool → Bool → List ℕ
  left a b = cond a (cond b (placed_or 0 line out) out) out

  by-tests : (a b : Bool) → within (row_update k id row fields) ≡ a → covers fields ≡ b
      → Prints (answer a b) (left a b) (cond (a && b) (line ++ line_feed ∷ []) [])
  by-tests true true p q = written p q
  by-tests true false p q = refl
  by-tests false b p q = refl

  -- what the writer made of a row's update is what is printed of the row
  pub row-written : (d : List (Change R)) → d ≡ delta → (r : Result ℕ Refusal)
      → r ≡ update_answer k id d fields 0 out → (left : List ℕ)
      → left ≡ update_placed k id d fields 0 out → Prints r left (row_line k id row fields)
  row-written d same r answered l placed =
      let a = within (row_update k id row fields) in
      let b = covers fields in
      let whole-answer = answered ∙ ap (λ x. update_answer k id x fields 0 out) same
      ∙ cond-true (length delta == field_limit) (answer a b) (Err memory_refusal)
      (eq-eqb (length delta) field_limit whole) in
      let whole-left = placed ∙ ap (λ x. update_placed k id x fields 0 out) same
      ∙ cond-true (length delta == field_limit) (left a b) out
      (eq-eqb (length delta) field_limit whole) in
      subst (λ x. Prints x l (row_line k id row fields)) (sym whole-answer)
      (subst (λ x. Prints (answer a b) x (row_line k id row fields)) (sym whole-left)
      (by-tests a b refl refl))
