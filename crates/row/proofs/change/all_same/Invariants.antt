use Rattle.std.proofs.Common.{◌≡◌, true, take}
use Rattle.std.specs.List.{list_all}
use Rattle.row.specs.Records.{is_same}
use Rattle.row.proofs.change.all_same.Given as goal

abbrev pub invariant-loop-change : goal.invariant-loop-change
invariant-loop-change g l = list_all (λ d. is_same d.mark) (take l.change-index l.delta) ≡ true
