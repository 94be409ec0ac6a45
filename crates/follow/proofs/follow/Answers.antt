use Rattle.follow.proofs.RowHearing.{rows-heard}
use Rattle.follow.proofs.RowReading.{printed-whole}
use Rattle.follow.proofs.follow.Goals as goal

pub returns-clause-rows : goal.returns-clause-rows
returns-clause-rows g c = printed-whole g.V.Value.kind g.met.V.Value.lawful

pub returns-clause-heard : goal.returns-clause-heard
returns-clause-heard g c = rows-heard g.V.Value.kind g.met.V.Value.lawful
