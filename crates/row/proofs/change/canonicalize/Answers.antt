use Rattle.std.proofs.Common.{◌≡◌, map, ap, ◌∙◌, arith}
use Rattle.std.proofs.lemmas.Grind.{common_steps}
use Rattle.row.specs.Canonical.{means-canonical}
use Rattle.row.specs.Records.{canonical, change_of}
use Rattle.row.proofs.change.canonicalize.Goals as goal

pub returns-clause-means : goal.returns-clause-means
returns-clause-means g c =
    let k = g.R.Value.kind in
    let all : c.loop-change.delta ≡ map (canonical k) c.args.delta.now = grind (arith, common_steps) in
    ap (map (change_of k)) all ∙ means-canonical k g.met.R.Value.lawful c.args.delta.now
