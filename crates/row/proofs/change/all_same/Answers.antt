use Rattle.std.proofs.Common.{sym, ap, ◌∙◌}
use Rattle.std.specs.List.{list_all}
use Rattle.std.proofs.lemmas.List.{take_all}
use Rattle.std.proofs.lemmas.List.Folds.{list_all_at}
use Rattle.row.specs.Records.{is_same}
use Rattle.row.proofs.Over.{all_same-means}
use Rattle.row.proofs.change.all_same.Goals as goal

pub returns-then-not-is_same : goal.returns-then-not-is_same
returns-then-not-is_same g c =
    let ds = c.args.delta.now in
    let other = ap (λ d. is_same d.mark) (sym c.change-item.is) ∙ sym c.if-not-is_same.ensures in
    sym (sym (all_same-means g.R.Value.kind ds) ∙ list_all_at (λ d. is_same d.mark) ds c.loop-change.change-index c.change-item.result c.loop-change-test.true other)

pub returns : goal.returns
returns g c =
    let ds = c.args.delta.now in
    sym c.loop-change.invariant
    ∙ ap (list_all (λ d. is_same d.mark)) (take_all c.loop-change.change-index ds c.loop-change-test.false)
    ∙ all_same-means g.R.Value.kind ds
