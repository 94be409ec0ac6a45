use Rattle.std.proofs.Common.{rules, sym, arith}
use Rattle.std.proofs.lemmas.List.{length-append}
use Rattle.tlcp.proofs.Deltas.{before-is, before_same, before-other}
use Rattle.tlcp.proofs.WrittenLists.{short-run}
use Rattle.tlcp.proofs.list_write.put_values.Goals as goal
use Rattle.tlcp.proofs.list_write.put_values.Goals.{then-is_same}
use Rattle.tlcp.proofs.list_write.put_values.Goals.{else-is_same+in_ok-put_run+in_ok-put_change}

pub put_change-requires : goal.put_change-requires
put_change-requires g c = search (rules, short-run, length-append)

pub loop-change-preserved : goal.loop-change-preserved
loop-change-preserved g c =
    let k = g.R.Value.kind in
    let delta = c.args.delta.now in
    let x = c.change-item.result in
    let h = c.loop-change.invariant in
    elim c.if-is_same.branch [
      | then-is_same w ↦ before-is k delta w.run-is w.list-is (before_same k delta h x c.loop-change-test.true c.change-item.is (sym w.if-is_same.ensures))
      | else-is_same+in_ok-put_run+in_ok-put_change w ↦
          before-is k delta w.run-is w.list-is
          (before-other k delta h g.met.R.Value.lawful x _ _ c.loop-change-test.true c.change-item.is (sym w.if-is_same.ensures) (omega (arith, h.short)) w.put_run.ensures.text w.put_change.ensures.text)
    ]
