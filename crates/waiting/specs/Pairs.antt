-- What a pair that is shown means.
use Rattle.std.specs.Prelude.{map}
use Rattle.row.specs.Kinds.{Kind}
use Rattle.row.specs.Records.{change_of}
use Rattle.waiting.specs.Lists as lists
use Rattle.waiting.specs.declared.buffer.Pair.{Pair}

abbrev pub pair_of : {R : Type 0} → Kind R → Pair R → lists.Pair
pair_of k p = record { tap = p.tap.number; delta = map (change_of k) p.delta.now }
