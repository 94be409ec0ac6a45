use Rattle.waiting.proofs.MarksIn.{cleared, cleared-exact, tap_place}
use Rattle.waiting.proofs.marks.MarksWaiting.forget.Goals as goal

pub returns-clause-meaning : goal.returns-clause-meaning
returns-clause-meaning g c =
    let place = tap_place c.args.tap.number c.index.result c.args.tap.known c.index.ensures in
    cleared g.R.Value.kind c.args.self.now.changes.now c.clear_row.new.changes c.index.result
    c.args.self.now.whole place.0 c.clear_row.ensures.changes c.args.tap.number place.1

pub returns-clause-exact : goal.returns-clause-exact
returns-clause-exact g c =
    let place = tap_place c.args.tap.number c.index.result c.args.tap.known c.index.ensures in
    cleared-exact g.R.Value.kind c.args.self.now.changes.now c.clear_row.new.changes c.index.result
    c.args.self.now.whole place.0 c.clear_row.ensures.changes
