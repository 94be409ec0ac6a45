-- What writing a line leaves in lent memory, and what it answers.
use Rattle.std.specs.Prelude.{ℕ, Bool, cond, List, [], ◌∷◌, length, Err, Result, ◌==◌, nat_le}
use Rattle.row.specs.Faults.{refusal}
use Rattle.row.specs.Kinds.{Kind}
use Rattle.row.specs.Limits.{field_limit}
use Rattle.row.specs.Records.{memory_refusal}
use Rattle.row.specs.declared.change.Change.{Change}
use Rattle.row.specs.declared.fault.Fault.TheVariants.{Number}
use Rattle.row.specs.declared.fault.Refusal.{Refusal}
use Rattle.tlcp.specs.Written.{end_or, no_room, placed_or}
use Rattle.tlcp.specs.Lists.{uncovered}
use Rattle.tlcp.specs.Written.{changes_of, covers}
use Rattle.tlcp.specs.Limits.{line_limit}
use Rattle.tlcp.specs.declared.tag.Tag.TheVariants.{U}
use Rattle.notify.specs.Given.{Saying, saying, number, one_item, list, within, line_text}

-- a number is beyond its limits
abbrev pub beyond : Refusal
beyond = refusal Number 0

abbrev pub is_short : Saying → Bool
is_short s = nat_le (length (line_text s)) line_limit

abbrev pub line_answer : Saying → ℕ → List ℕ → Result ℕ Refusal
line_answer s at xs =
    let written = end_or at (line_text s) xs in
    cond (within s) (cond (is_short s) written (Err no_room)) (Err beyond)

abbrev pub line_placed : Saying → ℕ → List ℕ → List ℕ
line_placed s at xs =
    let written = placed_or at (line_text s) xs in
    cond (within s) (cond (is_short s) written xs) xs

module _ {R : Type 0} (k : Kind R) where
  -- an update of the first fields of a row
  abbrev pub update_of : ℕ → List (Change R) → ℕ → Saying
  update_of id delta fields =
      saying U (number id ∷ one_item ∷ list (changes_of k delta fields) ∷ [])

  abbrev pub update_answer : ℕ → List (Change R) → ℕ → ℕ → List ℕ → Result ℕ Refusal
  update_answer id delta fields at xs =
      let update = update_of id delta fields in
      let written = end_or at (line_text update) xs in
      cond (length delta == field_limit)
      (cond (within update) (cond (covers fields) written (Err uncovered)) (Err beyond))
      (Err memory_refusal)

  abbrev pub update_placed : ℕ → List (Change R) → ℕ → ℕ → List ℕ → List ℕ
  update_placed id delta fields at xs =
      let update = update_of id delta fields in
      let written = placed_or at (line_text update) xs in
      cond (length delta == field_limit)
      (cond (within update) (cond (covers fields) written xs) xs) xs
