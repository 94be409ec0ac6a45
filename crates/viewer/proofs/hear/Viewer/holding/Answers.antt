use Rattle.std.proofs.Common.{rules, arith}
use Rattle.viewer.specs.Entries.{closed_with}
use Rattle.row.specs.Limits.{tap_limit}
use Rattle.viewer.proofs.Mapped.{mapped}
use Rattle.viewer.proofs.hear.Viewer.holding.Goals as goal

pub returns : goal.returns
returns c =
    mapped _ _ closed_with c.args.ids c.map.result tap_limit 0 c.map.ensures.items (omega arith)
    (λ x r p q k. search rules)
