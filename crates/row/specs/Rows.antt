-- Rows, deltas and joining, and a row among those of all taps. A value is known by its text, so a
-- cell holds a text here, a list of bytes.
use Rattle.std.specs.Prelude.{ℕ, ◌-◌, ◌+◌, ◌*◌, Bool, true, false, List, [], ◌∷◌, ◌++◌, length}
use Rattle.std.specs.Prelude.{take, drop, replicate}
use Rattle.std.specs.List.{list_all}
use Rattle.row.specs.Limits.{field_limit}

pub data Cell : Type 0 where
  null : Cell
  value : List ℕ → Cell

pub data Change : Type 0 where
  same : Change
  becomes : Cell → Change

-- f place by place: what the second list has no element for stays
abbrev pub over : {X Y : Type 0} → (X → Y → X) → List X → List Y → List X
over f [] ys = []
over f (x ∷ xs) [] = x ∷ xs
over f (x ∷ xs) (y ∷ ys) = f x y ∷ over f xs ys

-- a cell keeps what it holds where the change is same
abbrev pub change_cell : Cell → Change → Cell
change_cell c same = c
change_cell c (becomes d) = d

-- a row changed by a delta
abbrev pub changed : List Cell → List Change → List Cell
changed = over change_cell

-- the later of two changes, or the earlier one where the later is same
abbrev pub join_change : Change → Change → Change
join_change c same = c
join_change c (becomes d) = becomes d

abbrev pub join : List Change → List Change → List Change
join = over join_change

-- the join of no deltas
abbrev pub blank : List Change
blank = replicate field_limit same

-- a delta in all the places of a row: same behind its fields
abbrev pub filled : List Change → List Change
filled d = d ++ replicate (field_limit - length d) same

abbrev pub is_same : Change → Bool
is_same same = true
is_same (becomes c) = false

-- a delta that leaves each cell as it is
abbrev pub all_same : List Change → Bool
all_same = list_all is_same

-- the row with index i among the places of several
abbrev pub row_at : {X : Type 0} → ℕ → List X → List X
row_at i places = take field_limit (drop (field_limit * i) places)

-- the places with another row there
abbrev pub with_row : {X : Type 0} → ℕ → List X → List X → List X
with_row i row places =
    take (field_limit * i) places ++ (row ++ drop (field_limit * i + field_limit) places)
