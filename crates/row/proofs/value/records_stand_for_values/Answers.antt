use Rattle.std.proofs.Common.{refl}
use Rattle.row.specs.Every.{text-represents}
use Rattle.row.specs.LogicsLemmas.{logic-represents}
use Rattle.row.proofs.value.records_stand_for_values.Goals as goal

pub returns : goal.returns
returns c = record { text = text-represents; rest = (refl, refl); logic = logic-represents }
