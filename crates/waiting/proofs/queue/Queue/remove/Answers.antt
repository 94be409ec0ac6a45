use Rattle.std.proofs.Common.{◌<◌, ◌-◌, length, sym, ap, ◌∙◌, arith, subst}
use Rattle.std.specs.List.{list_all, remove}
use Rattle.std.proofs.lemmas.Slice.{put_mid-rotated}
use Rattle.row.specs.Taps.{is_tap}
use Rattle.waiting.specs.Limits.{pair_limit}
use Rattle.waiting.specs.Layouts.{Exact}
use Rattle.waiting.specs.QueueLaws.{queue-hold, rows-less}
use Rattle.waiting.specs.Queues.{queue_rows, queued}
use Rattle.waiting.specs.Rows.{rows_wait}
use Rattle.waiting.proofs.QueueRows.{length-taken, queue-removed, list_all-moved, exact-removed}
use Rattle.waiting.proofs.QueueRows.{rows-removed}
use Rattle.waiting.proofs.queue.Queue.remove.Goals as goal

pub invariant_of-self-clause-known : goal.invariant_of-self-clause-known
invariant_of-self-clause-known g c =
    let q = c.args.self.now in
    let turned = put_mid-rotated c.args.i (pair_limit - c.args.i) q.taps c.rotate_left.new.self 0
    (omega arith) (omega arith) c.rotate_left.ensures.after in
    ap (list_all is_tap) turned ∙ list_all-moved is_tap q.taps c.args.i 0 (omega arith) q.known

pub invariant_of-self-clause-busy : goal.invariant_of-self-clause-busy
invariant_of-self-clause-busy g c =
    let q = c.args.self.now in
    rows-less g.R.Value.kind (q.len - 1) q.len q.changes.now (omega arith) q.busy

pub invariant_of-self-2-clause-busy : goal.invariant_of-self-2-clause-busy
invariant_of-self-2-clause-busy g c =
    let q = c.args.self.now in
    let k = g.R.Value.kind in
    ap (rows_wait k (q.len - 1)) c.remove_row.ensures ∙ rows-removed k q.len
    c.args.i q.changes.now _ c.requires (omega arith) q.busy

pub returns-clause-list : goal.returns-clause-list
returns-clause-list g c =
    let q = c.args.self.now in
    let turned = put_mid-rotated c.args.i (pair_limit - c.args.i) q.taps c.rotate_left.new.self 0
    (omega arith) (omega arith) c.rotate_left.ensures.after in
    queue-removed g.R.Value.kind q.len c.args.i _ q.taps _ q.changes.now _ _ c.requires
    (omega arith) (omega arith) turned c.remove_row.ensures

pub returns-clause-exact : goal.returns-clause-exact
returns-clause-exact g c = λ old.
    let q = c.args.self.now in
    let k = g.R.Value.kind in
    let l = queued k q in
    let inside : c.args.i < length l = omega
    (arith, length-taken k q.len q.taps q.changes.now (omega arith)) in
    let listed = queue-hold k q.len q.taps q.changes.now q.few q.whole q.known q.busy in
    let moved = subst (λ cs. Exact k queue_rows cs (remove l c.args.i)) (sym c.remove_row.ensures)
    (exact-removed k q.changes.now l listed old c.args.i inside) in
    subst (Exact k queue_rows c.remove_row.new.changes) (sym (returns-clause-list g c)) moved
