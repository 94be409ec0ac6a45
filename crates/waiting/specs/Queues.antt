-- The queue: deltas wait in the order in which they were put, up to a number of pairs.
use Rattle.std.specs.Prelude.{ℕ, ◌-◌, ◌*◌, ◌&&◌, List, [], ◌∷◌, ◌++◌, map, length, take, drop}
use Rattle.std.specs.Prelude.{replicate, nat_le, nat_lt}
use Rattle.std.specs.List.{list_all}
use Rattle.row.specs.Kinds.{Kind}
use Rattle.row.specs.Limits.{field_limit}
use Rattle.row.specs.Records.{change_of}
use Rattle.row.specs.Rows.{Change, same}
use Rattle.row.specs.declared.change.Change as records
use Rattle.waiting.specs.Limits.{pair_limit}
use Rattle.waiting.specs.Lists.{Pair, pair, may_wait, deltas, pair_of_changes}
use Rattle.waiting.specs.Policies.{Policy, listed}
use Rattle.waiting.specs.declared.queue.Queue.{Queue}

-- the policy of a queue for so many pairs
abbrev pub queue_of : ℕ → Policy
queue_of limit = record {
  takes = λ m t. nat_lt (length (listed m)) limit;
  after = λ m t d. listed m ++ pair_of_changes t d;
  holds = λ m. nat_le (length (listed m)) limit && list_all may_wait (listed m);
}

abbrev pub queue : Policy
queue = queue_of pair_limit

-- its memory: a row for each pair, in order, and same in the rows behind
abbrev pub rows_of : ℕ → List Pair → List Change
rows_of limit l = deltas l ++ replicate (field_limit * (limit - length l)) same

abbrev pub queue_rows : List Pair → List Change
queue_rows = rows_of pair_limit

-- what waits, by the taps and a row of memory for each
abbrev pub pairs_in : {R : Type 0} → Kind R → List ℕ → List (records.Change R) → List Pair
pairs_in k [] cs = []
pairs_in k (t ∷ ts) cs =
    pair t (map (change_of k) (take field_limit cs)) ∷ pairs_in k ts (drop field_limit cs)

-- what waits in a queue
abbrev pub queued : {R : Type 0} {g : _} → Kind R → Queue R g → List Pair
queued k q = pairs_in k (take q.len q.taps) q.changes.now
