-- The refusals of waiting buffers, by their numbers, what is accepted at the limits, and how much
-- memory the kinds have.
use Rattle.std.specs.Prelude.{◌≡◌, ℕ, ◌<◌, ◌≤◌, List, [], ◌∷◌, length}
use Rattle.row.specs.Faults.{accepted, by_numbers, refused}
use Rattle.row.specs.Limits.{cell_limit}
use Rattle.row.specs.Rows.{Change}
use Rattle.waiting.specs.Limits.{queue_limit}
use Rattle.waiting.specs.Lists.{Pair}
use Rattle.waiting.specs.Marks.{marks, tap_rows}
use Rattle.waiting.specs.Policies.{Policy, Meaning, listed, drop_answer, first, put_answer}
use Rattle.waiting.specs.Queues.{queue, queue_rows}

pub record Refusals : Type 0 where
  -- more than twelve changes: 1, whatever the kind, what waits and the tap
  pub long : (b : Policy) (m : Meaning) (t : ℕ) (d : List Change)
      → 12 < length d → by_numbers (put_answer b m t d) ≡ refused 1 0
  -- up to twelve: 13 where 16 pairs wait in a queue, and accepted where there are fewer
  pub full : (m : Meaning) (t : ℕ) (d : List Change)
      → length d ≤ 12 → length (listed m) ≡ 16 → by_numbers (put_answer queue m t d) ≡ refused 13 0
  pub room : (m : Meaning) (t : ℕ) (d : List Change)
      → length d ≤ 12 → length (listed m) < 16 → by_numbers (put_answer queue m t d) ≡ accepted tt
  -- marks refuse no delta of up to twelve changes
  pub marks_take : (m : Meaning) (t : ℕ) (d : List Change)
      → length d ≤ 12 → by_numbers (put_answer marks m t d) ≡ accepted tt
  -- 15 where nothing waits, and only there
  pub nothing_to_look_at : by_numbers (first []) ≡ refused 15 0
  pub nothing_to_drop : by_numbers (drop_answer []) ≡ refused 15 0
  pub one_to_look_at : (p : Pair) (l : List Pair) → by_numbers (first (p ∷ l)) ≡ accepted p
  pub one_to_drop : (p : Pair) (l : List Pair) → by_numbers (drop_answer (p ∷ l)) ≡ accepted tt
  -- memory for 192 changes in a queue, and for 96 in marks
  pub queue_places : queue_limit ≡ 192
  pub queue_memory : length (queue_rows []) ≡ 192
  pub marks_places : cell_limit ≡ 96
  pub marks_memory : length (tap_rows []) ≡ 96
