use Rattle.waiting.proofs.MarksIn.{cleared-first, cleared-exact}
use Rattle.waiting.proofs.marks.MarksWaiting.drop_first.Goals as goal

pub returns-clause-meaning : goal.returns-clause-meaning
returns-clause-meaning g c =
    let inside = rw c.in_ok-i.ensures.ok_part at c.first_waiting.ensures.inside in
    let found = rw c.in_ok-i.ensures.ok_part at c.first_waiting.ensures.first in
    cleared-first g.R.Value.kind c.args.self.now.changes.now c.clear_row.new.changes c.in_ok-i.i
    c.args.self.now.whole inside c.clear_row.ensures.changes found

pub returns-clause-exact : goal.returns-clause-exact
returns-clause-exact g c =
    let inside = rw c.in_ok-i.ensures.ok_part at c.first_waiting.ensures.inside in
    cleared-exact g.R.Value.kind c.args.self.now.changes.now c.clear_row.new.changes c.in_ok-i.i
    c.args.self.now.whole inside c.clear_row.ensures.changes
