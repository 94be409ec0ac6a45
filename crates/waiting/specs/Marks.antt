-- Marks: one joined delta waits for a tap, and taps wait by rising number.
use Rattle.std.specs.Prelude.{ℕ, zero, suc, ◌+◌, Bool, true, cond, ◌&&◌, List, [], ◌∷◌, ◌++◌, map}
use Rattle.std.specs.Prelude.{take, drop, flat_map, nat_lt}
use Rattle.std.specs.List.{list_all, range_with_len}
use Rattle.row.specs.Kinds.{Kind}
use Rattle.row.specs.Limits.{field_limit, tap_limit}
use Rattle.row.specs.Records.{change_of}
use Rattle.row.specs.Rows.{Change, join}
use Rattle.row.specs.declared.change.Change as records
use Rattle.waiting.specs.Lists.{Pair, pair, is_for, may_wait, joined, pair_of_changes}
use Rattle.waiting.specs.Policies.{Policy, listed}

-- taps above n that rise
abbrev pub rising : ℕ → List Pair → Bool
rising n [] = true
rising n (p ∷ l) = nat_lt n p.tap && rising p.tap l

-- a delta joined to its tap's pair, or else put in before the higher taps
abbrev pub marked : List Pair → ℕ → List Change → List Pair
marked [] t d = pair_of_changes t d
marked (p ∷ l) t d =
    cond (is_for t p) (pair t (join p.delta d) ∷ l)
    (cond (nat_lt t p.tap) (pair_of_changes t d ++ p ∷ l) (p ∷ marked l t d))

abbrev pub marks : Policy
marks = record {
  takes = λ m t. true;
  after = λ m t d. marked (listed m) t d;
  holds = λ m. rising 0 (listed m) && list_all may_wait (listed m);
}

-- their memory: a row for each tap, the join of what waits for it
abbrev pub tap_rows : List Pair → List Change
tap_rows l = flat_map (λ t. joined t l) (range_with_len 1 tap_limit)

-- what waits for n taps from t on, by a row of memory for each
abbrev pub marks_in : {R : Type 0} → Kind R → ℕ → ℕ → List (records.Change R) → List Pair
marks_in k zero t cs = []
marks_in k (suc n) t cs =
    pair_of_changes t (map (change_of k) (take field_limit cs)) ++ marks_in k n (t + 1)
    (drop field_limit cs)

-- what waits in the memory of marks
abbrev pub marks_of : {R : Type 0} → Kind R → List (records.Change R) → List Pair
marks_of k cs = marks_in k tap_limit 1 cs
