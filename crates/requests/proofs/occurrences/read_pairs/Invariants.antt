use Rattle.std.proofs.Common.{◌≡◌}
use Rattle.std.specs.Option.{option_map}
use Rattle.tlcp.specs.Dividing.{divided_by}
use Rattle.tlcp.specs.Said.{piece_in}
use Rattle.requests.specs.Read.{occurrences_in}
use Rattle.requests.specs.Requests.{no_occurrences, read_pairs}
use Rattle.requests.proofs.Taking.{remaining, taken}
use Rattle.requests.proofs.occurrences.read_pairs.Given as goal

-- the pairs that are left decide
abbrev pub invariant-loop-left : goal.invariant-loop-left
invariant-loop-left l = read_pairs l.name l.body.at (divided_by 38 l.body.bytes.now) no_occurrences
    ≡ taken l.name (option_map piece_in l.left) (occurrences_in l.pairs)

abbrev pub decreases-loop-left : goal.decreases-loop-left
decreases-loop-left l = remaining (option_map piece_in l.left)
