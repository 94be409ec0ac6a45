use Rattle.std.proofs.Common.{sym, ap, ◌∙◌, arith}
use Rattle.std.proofs.lemmas.Bool.{and_from, eq-eqb}
use Rattle.row.specs.Limits.{text_limit}
use Rattle.row.specs.Texts.{text_kind}
use Rattle.row.specs.Every.{raw-text, text-represents}
use Rattle.row.proofs.value.TextRecordValue.canonicalize.Goals as goal

pub returns-then-not-is_sound : goal.returns-then-not-is_sound
returns-then-not-is_sound c =
    c.into.ensures ∙ c.rest.ensures
    ∙ sym (ap text_kind.raw (text-represents.unsound c.args.self.now (sym c.is_sound.ensures ∙ c.if-not-is_sound.true)))

pub returns-else-not-is_sound : goal.returns-else-not-is_sound
returns-else-not-is_sound c =
    let sound = sym c.is_sound.ensures ∙ c.if-not-is_sound.false in
    sym (raw-text c.args.self.now (and_from _ _ (eq-eqb _ text_limit (omega arith)) sound))
