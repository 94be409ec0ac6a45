use Rattle.std.proofs.Common.{◌≡◌, ◌<◌, Ok, Some, rules}
use Rattle.row.specs.Limits.{tap_limit}
use Rattle.tlcp.specs.Said.{piece_in}
use Rattle.viewer.specs.Entries.{find_open}
use Rattle.viewer.proofs.Records.{updated}
use Rattle.viewer.proofs.hear.Viewer.update.Goals as goal

pub returns : goal.returns
returns g c =
    let i = c.in-Some.i in
    let n = c.in-Some.fields in
    let inside : i < tap_limit = search rules in
    let ok : c.read_list.result ≡ Ok tt = search rules in
    let found : find_open c.args.id c.args.self.now.entries ≡ Some (i, n) = search rules in
    let list = piece_in c.args.values in
    updated g.R.Value.kind g.met.R.Value.lawful _ _ list i n _ c.args.delta.now _ _
    c.read_list.result c.requires.0 c.requires.1 inside found ok
    c.read_list.ensures.answer c.read_list.ensures.changes c.update_row.ensures
