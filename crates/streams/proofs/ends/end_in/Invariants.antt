use Rattle.std.proofs.Common.{◌≡◌, ◌+◌, ◌*◌, ◌≤◌, drop}
use Rattle.tlcp.specs.Parts.{place_of}
use Rattle.streams.specs.Ends.{line_feed}
use Rattle.streams.proofs.ends.end_in.Given as goal

abbrev pub invariant-loop-b : goal.invariant-loop-b
invariant-loop-b l =
    (l.end + l.step * place_of line_feed (drop l.b-index l.part) ≡ place_of line_feed l.part)
    × (l.end ≤ l.b-index)
    × (l.step ≤ 1)
