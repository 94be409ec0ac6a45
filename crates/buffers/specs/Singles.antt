-- The single keeps the laws of a waiting buffer.
use Rattle.std.specs.Prelude.{◌≡◌, ◌≤◌, ℕ, Bool, true, List, length, Option, Some, None}
use Rattle.std.proofs.Common.{arith}
use Rattle.std.specs.List.{list_all}
use Rattle.std.specs.Option.{option_to_list}
use Rattle.row.specs.Kinds.{Kind}
use Rattle.row.specs.Limits.{field_limit}
use Rattle.row.specs.Taps.{is_tap}
use Rattle.row.specs.declared.change.Change.{Change}
use Rattle.waiting.specs.Policies.{Lawful, KeepsValues}
use Rattle.waiting.specs.Queues.{queue_of, pairs_in}
use Rattle.waiting.specs.QueueLaws.{queue_of-lawful, queue_of-values, pairs-hold}
use Rattle.waiting.specs.Rows.{rows_wait}

pub single-lawful : Lawful (queue_of 1)
single-lawful = queue_of-lawful 1 (omega arith)

pub single-values : (allowed : List ℕ → Bool) → KeepsValues allowed (queue_of 1)
single-values = queue_of-values 1

-- one tap at most
few : (tap : Option ℕ) → length (option_to_list tap) ≤ 1
few None = omega arith
few (Some t) = omega arith

pub single-holds :
    {R : Type 0} (k : Kind R) (tap : Option ℕ) (cs : List (Change R)) → length cs ≡ field_limit
    → list_all is_tap (option_to_list tap) ≡ true
    → rows_wait k (length (option_to_list tap)) cs ≡ true
    → (queue_of 1).holds (pairs_in k (option_to_list tap) cs) ≡ true
single-holds k tap cs whole known busy =
    let one = few tap in
    pairs-hold k 1 (option_to_list tap) cs one (omega arith) known busy
