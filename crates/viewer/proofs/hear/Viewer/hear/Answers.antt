use Rattle.std.proofs.Common.{◌≡◌, length, arith, rules}
use Rattle.row.specs.Limits.{tap_limit, cell_limit}
use Rattle.viewer.specs.Hearing.{told, outcome}
use Rattle.viewer.proofs.Records.{means-heard, stays-canonical, refused-stays}
use Rattle.viewer.proofs.hear.Viewer.hear.Goals as goal

pub returns-clause-means : goal.returns-clause-means
returns-clause-means g c = λ fit.
    let es = c.args.self.now.entries in
    let cs = c.args.cells.now in
    let eight : length es ≡ tap_limit = search rules in
    let all : length cs ≡ cell_limit = omega arith in
    let h = c.hear_line in
    let o = outcome h.new.self.entries h.new.cells h.new.delta h.result in
    means-heard g.R.Value.kind g.met.R.Value.lawful es cs c.args.line.now eight all o h.ensures

pub returns-clause-canonical : goal.returns-clause-canonical
returns-clause-canonical g c =
    let es = c.args.self.now.entries in
    let cs = c.args.cells.now in
    let eight : length es ≡ tap_limit = search rules in
    let all : length cs ≡ cell_limit = omega arith in
    let h = c.hear_line in
    let o = outcome h.new.self.entries h.new.cells h.new.delta h.result in
    stays-canonical g.R.Value.kind g.met.R.Value.lawful es cs c.args.line.now eight all o h.ensures

pub returns-clause-refused : goal.returns-clause-refused
returns-clause-refused g c =
    let k = g.R.Value.kind in
    let es = c.args.self.now.entries in
    let cs = c.args.cells.now in
    let h = c.hear_line in
    let o = outcome h.new.self.entries h.new.cells h.new.delta h.result in
    refused-stays k es cs (told k es cs c.args.line.now) o h.ensures
