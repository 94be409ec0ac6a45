use Rattle.std.proofs.Common.{◌≡◌, ◌-◌, ◌≤◌}
use Rattle.buffers.specs.Rings.{ringed}
use Rattle.buffers.proofs.RingRows.{without-turned}
use Rattle.buffers.proofs.ring.RingWaiting.forget.Given as goal

abbrev pub invariant-loop-left : goal.invariant-loop-left
invariant-loop-left g l =
    let k = g.R.Value.kind in
    let start = l.initial.self in
    record {
      list : ringed k l.self ≡ without-turned l.tap.number (start.len - l.left) (ringed k start);
      few : l.left ≤ start.len;
      lent : l.self.changes.ghost_name ≡ start.changes.ghost_name;
    }

abbrev pub decreases-loop-left : goal.decreases-loop-left
decreases-loop-left g l = l.left
