-- What waits to be sent: pairs of a tap and a delta, in sending order.
use Rattle.std.specs.Prelude.{ℕ, Bool, true, not, ◌&&◌, List, [], ◌∷◌, map, length, cond, fold}
use Rattle.std.specs.Prelude.{filter, flat_map, ◌==◌}
use Rattle.row.specs.Limits.{field_limit}
use Rattle.row.specs.Rows.{Cell, Change, null, value, same, becomes, changed, join, blank, all_same}
use Rattle.row.specs.Taps.{is_tap}

pub record Pair : Type 0 where
  pub tap : ℕ
  pub delta : List Change

abbrev pub pair : ℕ → List Change → Pair
pair t d = record { tap = t; delta = d }

abbrev pub is_for : ℕ → Pair → Bool
is_for t p = p.tap == t

-- a pair that may wait: a change for each field of a tap, not all of them same
abbrev pub may_wait : Pair → Bool
may_wait p = is_tap p.tap && (length p.delta == field_limit && not (all_same p.delta))

-- a cell that is null, or whose value's text a kind allows
abbrev pub cell_allowed : (List ℕ → Bool) → Cell → Bool
cell_allowed allowed null = true
cell_allowed allowed (value t) = allowed t

-- a change that makes no cell hold a text beyond those allowed
abbrev pub change_allowed : (List ℕ → Bool) → Change → Bool
change_allowed allowed same = true
change_allowed allowed (becomes c) = cell_allowed allowed c

-- the deltas that wait for a tap, in order
abbrev pub waiting_for : ℕ → List Pair → List (List Change)
waiting_for t l = map (λ p. p.delta) (filter (is_for t) l)

-- the join of the deltas that wait for a tap
abbrev pub joined : ℕ → List Pair → List Change
joined t l = fold join blank (waiting_for t l)

-- a row of the tap changed by what waits for it
abbrev pub changed_by_waiting : List Cell → ℕ → List Pair → List Cell
changed_by_waiting row t l = changed row (joined t l)

-- the changes that wait, one delta behind the other
abbrev pub deltas : List Pair → List Change
deltas = flat_map (λ p. p.delta)

-- the other taps' pairs
abbrev pub without : ℕ → List Pair → List Pair
without t l = filter (λ p. not (is_for t p)) l

-- the pair that a delta makes: none where it leaves each cell as it is
abbrev pub pair_of_changes : ℕ → List Change → List Pair
pair_of_changes t d = cond (all_same d) [] (pair t d ∷ [])
