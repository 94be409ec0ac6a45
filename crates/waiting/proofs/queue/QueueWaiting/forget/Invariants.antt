use Rattle.std.proofs.Common.{◌≡◌, ◌-◌}
use Rattle.waiting.specs.Layouts.{Exact}
use Rattle.waiting.specs.Queues.{queue_rows, queued}
use Rattle.waiting.proofs.Forgetting.{Forgotten}
use Rattle.waiting.proofs.queue.QueueWaiting.forget.Given as goal

abbrev pub invariant-loop-i : goal.invariant-loop-i
invariant-loop-i g l =
    let k = g.R.Value.kind in
    let list = queued k l.self in
    let all = queued k l.initial.self in
    record {
      gone : Forgotten l.tap.number l.i list all;
      exact :
          Exact k queue_rows l.initial.self.changes.now all
          → Exact k queue_rows l.self.changes.now list;
      lent : l.self.changes.ghost_name ≡ l.initial.self.changes.ghost_name;
    }

abbrev pub decreases-loop-i : goal.decreases-loop-i
decreases-loop-i g l = l.self.len - l.i
