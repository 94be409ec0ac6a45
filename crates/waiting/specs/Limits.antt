-- The limits of waiting buffers.
use Rattle.std.specs.Prelude.{ℕ, ◌*◌}
use Rattle.row.specs.Limits.{field_limit}

-- the pairs of a queue
abbrev pub pair_limit : ℕ
pair_limit = 16

-- the changes of a queue's memory
abbrev pub queue_limit : ℕ
queue_limit = field_limit * pair_limit
