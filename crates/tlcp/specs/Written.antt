-- What a writer leaves in lent memory, and what it answers.
use Rattle.std.specs.Prelude.{◌≡◌, ℕ, ◌+◌, ◌-◌, ◌*◌, ◌≤◌, Bool, cond, ◌&&◌, List, [], ◌∷◌, ◌++◌}
use Rattle.std.specs.Prelude.{map, length, take, drop, Ok, Err, Result, ◌==◌, nat_le}
use Rattle.row.specs.Kinds.{Kind}
use Rattle.row.specs.Limits.{field_limit, text_limit}
use Rattle.row.specs.Records as records
use Rattle.row.specs.Records.{memory_refusal}
use Rattle.row.specs.Rows as rows
use Rattle.row.specs.Rows.{same, becomes, null, value}
use Rattle.row.specs.declared.change.Change.{Change}
use Rattle.row.specs.declared.fault.Fault.TheVariants.{Length}
use Rattle.row.specs.declared.fault.Refusal.{Refusal}
use Rattle.tlcp.specs.Lists.{uncovered, read_list, text_value, written_list}

-- xs with t in it from the place `at` on
abbrev pub placed : ℕ → List ℕ → List ℕ → List ℕ
placed at t xs = take at xs ++ (t ++ drop (at + length t) xs)

abbrev pub fits : ℕ → List ℕ → List ℕ → Bool
fits at t xs = nat_le (at + length t) (length xs)

abbrev pub no_room : Refusal
no_room = record { fault = Length; place = 0 }

-- the place behind t, if t fits
abbrev pub end_or : ℕ → List ℕ → List ℕ → Result ℕ Refusal
end_or at t xs = cond (fits at t xs) (Ok (at + length t)) (Err no_room)

-- xs with t in it, if t fits
abbrev pub placed_or : ℕ → List ℕ → List ℕ → List ℕ
placed_or at t xs = cond (fits at t xs) (placed at t xs) xs

-- what a field takes at most: a pipe, and a text whose bytes are all escaped
abbrev pub field_room : ℕ
field_room = 3 * text_limit + 1

-- what the values of a row take at most, each behind a pipe
abbrev pub piped_limit : ℕ
piped_limit = field_room * field_limit

-- the longest list: no pipe stands before the first value
abbrev pub list_limit : ℕ
list_limit = piped_limit - 1

-- the value of a change, if it has one of its own
abbrev pub values_of : rows.Change → List (List ℕ)
values_of same = []
values_of (becomes null) = (35 ∷ []) ∷ []
values_of (becomes (value t)) = text_value t ∷ []

-- a row has so many fields
abbrev pub covers : ℕ → Bool
covers fields = nat_le 1 fields && nat_le fields field_limit

module _ {R : Type 0} (k : Kind R) where
  -- the changes of the first fields
  abbrev pub changes_of : List (Change R) → ℕ → List rows.Change
  changes_of delta fields = map (records.change_of k) (take fields delta)

  abbrev pub list_answer : List (Change R) → ℕ → ℕ → List ℕ → Result ℕ Refusal
  list_answer delta fields at xs =
      let written = end_or at (written_list (changes_of delta fields)) xs in
      cond (length delta == field_limit) (cond (covers fields) written (Err uncovered))
      (Err memory_refusal)

  abbrev pub list_placed : List (Change R) → ℕ → ℕ → List ℕ → List ℕ
  list_placed delta fields at xs =
      let written = placed_or at (written_list (changes_of delta fields)) xs in
      cond (length delta == field_limit) (cond (covers fields) written xs) xs

  -- the list is read as those changes
  abbrev pub ReadBack : List (Change R) → ℕ → Type 0
  ReadBack delta fields =
      length delta ≡ field_limit → 1 ≤ fields → fields ≤ field_limit
      → read_list k.allowed fields (written_list (changes_of delta fields))
      ≡ Ok (changes_of delta fields)
