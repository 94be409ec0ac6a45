use Rattle.std.proofs.Common.{◌≡◌, ◌++◌, map, take, drop}
use Rattle.row.specs.Records.{canonical}
use Rattle.row.proofs.change.canonicalize.Given as goal

abbrev pub invariant-loop-change : goal.invariant-loop-change
invariant-loop-change g l =
    let as_held = map (canonical g.R.Value.kind) in
    take l.change-index l.delta ++ as_held (drop l.change-index l.delta) ≡ as_held l.initial.delta
