-- What is promised of the joins of a waiting list, as its pairs are sent and forgotten.
use Rattle.std.specs.Prelude.{◌≡◌, ◌≢◌, ℕ, Bool, true, not, List, take, drop, Ok}
use Rattle.std.specs.List.{list_all}
use Rattle.row.specs.Rows.{Cell, Change, changed, join, blank, all_same}
use Rattle.waiting.specs.Lists.{Pair, is_for, may_wait, waiting_for, joined, changed_by_waiting}
use Rattle.waiting.specs.Lists.{deltas, change_allowed}
use Rattle.waiting.specs.Policies.{Policy, Put, Lawful, Meaning, listed, first, after_drop}
use Rattle.waiting.specs.Policies.{after_forget}

-- whether the n places from m on are same
abbrev pub same_in : ℕ → ℕ → List Change → Bool
same_in m n d = all_same (take n (drop m d))

-- the join of the first pair's tap is its delta, joined with the join of what waits behind it
abbrev pub FirstTakenOff : Type 0
FirstTakenOff =
    (m : Meaning) (p : Pair) → list_all may_wait (listed m) ≡ true → first (listed m) ≡ Ok p
    → joined p.tap (listed m) ≡ join p.delta (joined p.tap (listed (after_drop m)))

-- every other tap's join is the join of what waits behind it
abbrev pub OthersBehind : Type 0
OthersBehind =
    (m : Meaning) (p : Pair) (u : ℕ) → first (listed m) ≡ Ok p → u ≢ p.tap
    → joined u (listed m) ≡ joined u (listed (after_drop m))

-- without a tap's pairs its join is blank
abbrev pub BlankWithout : Type 0
BlankWithout = (t : ℕ) (m : Meaning) → joined t (listed (after_forget t m)) ≡ blank

-- and every other tap's join stays
abbrev pub OthersWithout : Type 0
OthersWithout =
    (t u : ℕ) (m : Meaning) → u ≢ t → joined u (listed (after_forget t m)) ≡ joined u (listed m)

-- where a join is blank and all pairs may wait, no pair is for the tap
abbrev pub NoneForBlank : Type 0
NoneForBlank =
    (t : ℕ) (l : List Pair) → list_all may_wait l ≡ true → joined t l ≡ blank → list_all
    (λ p. not (is_for t p)) l ≡ true

-- places that are same in the join are same in each delta, and conversely
abbrev pub SameInEach : Type 0
SameInEach =
    (m n t : ℕ) (l : List Pair) → list_all may_wait l ≡ true → same_in m n (joined t l) ≡ list_all
    (same_in m n) (waiting_for t l)

-- a row changed by what waits is the row changed by the first pair of its tap, and then by what
-- waits behind that
abbrev pub ChangedBySending : Type 0
ChangedBySending =
    (m : Meaning) (p : Pair) → list_all may_wait (listed m) ≡ true → first (listed m) ≡ Ok p
    → (row : List Cell)
    → changed_by_waiting row p.tap (listed m)
    ≡ changed_by_waiting (changed row p.delta) p.tap (listed (after_drop m))

-- once a delta was put, it is the row changed by what waited, and then by the delta
abbrev pub ChangedByPutting : Type 0
ChangedByPutting =
    (b : Policy) → Lawful b → (m : Meaning) (t : ℕ) (d : List Change) → Put b m t d
    → (row : List Cell)
    → changed_by_waiting row t (listed (b.after m t d))
    ≡ changed (changed_by_waiting row t (listed m)) d

-- where the texts of all that waits are allowed, so they are once a pair is dropped, and a tap
-- forgotten
abbrev pub DropAllows : Type 0
DropAllows =
    (allowed : List ℕ → Bool) (m : Meaning) → list_all (change_allowed allowed)
    (deltas (listed m)) ≡ true → list_all (change_allowed allowed)
    (deltas (listed (after_drop m))) ≡ true

abbrev pub ForgetAllows : Type 0
ForgetAllows =
    (allowed : List ℕ → Bool) (t : ℕ) (m : Meaning) → list_all (change_allowed allowed)
    (deltas (listed m)) ≡ true → list_all (change_allowed allowed)
    (deltas (listed (after_forget t m))) ≡ true
