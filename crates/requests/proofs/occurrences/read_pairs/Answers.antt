use Rattle.std.proofs.Common.{sym, ◌∙◌}
use Rattle.std.proofs.lemmas.Result.{err_from_is_err_and}
use Rattle.requests.proofs.Taking.{taken-cut}
use Rattle.requests.proofs.occurrences.read_pairs.Goals as goal

pub returns-in_err-add : goal.returns-in_err-add
returns-in_err-add c =
    let e = err_from_is_err_and c.from_residual.result c.from_residual.ensures.1 in
    rw (e.1, e.2) (sym (c.loop-left.invariant
    ∙ taken-cut c.args.name c.loop-left.left c.in-Some.part c.cut.result.0 c.cut.result.1 _ _ c.in-Some.is c.cut.ensures.front c.cut.ensures.rest c.in_err-add.ensures))

pub loop-left-preserved : goal.loop-left-preserved
loop-left-preserved c = c.loop-left.invariant
    ∙ taken-cut c.args.name c.loop-left.left c.in-Some.part c.cut.result.0 c.cut.result.1 _ _ c.in-Some.is c.cut.ensures.front c.cut.ensures.rest c.in_ok-add.ensures
