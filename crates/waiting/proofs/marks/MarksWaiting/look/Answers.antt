use Rattle.waiting.proofs.MarksIn.{shown}
use Rattle.waiting.proofs.marks.MarksWaiting.look.Goals as goal

pub returns-clause-pair : goal.returns-clause-pair
returns-clause-pair g c =
    let found = rw c.in_ok-i.ensures.ok_part at c.first_waiting.ensures.first in
    shown g.R.Value.kind c.args.self.now.changes.now c.in_ok-i.i c.in_ok-tap.tap.number _
    c.in_ok-tap.ensures found c.row_at-delta.result.now c.row_at-delta.ensures
