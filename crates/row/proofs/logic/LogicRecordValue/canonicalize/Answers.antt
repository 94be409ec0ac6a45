use Rattle.std.proofs.Common.{sym, ap, ◌∙◌}
use Rattle.row.specs.Logics.{logic_kind}
use Rattle.row.specs.LogicsLemmas.{logic-represents, raw-text}
use Rattle.row.proofs.logic.LogicRecordValue.canonicalize.Goals as goal

pub returns-then-not-is_sound : goal.returns-then-not-is_sound
returns-then-not-is_sound c =
    c.into.ensures ∙ c.rest.ensures
    ∙ sym (ap logic_kind.raw (logic-represents.unsound c.args.self.now (sym c.is_sound.ensures ∙ c.if-not-is_sound.true)))

pub returns-else-not-is_sound : goal.returns-else-not-is_sound
returns-else-not-is_sound c =
    let sound = sym c.is_sound.ensures ∙ c.if-not-is_sound.false in
    sym (raw-text c.args.self.now sound)
