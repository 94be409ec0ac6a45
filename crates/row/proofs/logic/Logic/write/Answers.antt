use Rattle.std.proofs.Common.{◌∙◌}
use Rattle.row.specs.Logics.{char_of}
use Rattle.row.specs.LogicsLemmas.{chars-more, chars-all}
use Rattle.row.proofs.logic.Logic.write.Goals as goal

pub loop-i-preserved : goal.loop-i-preserved
loop-i-preserved c =
    chars-more c.args.self.now.held c.loop-i.out c.loop-i.i c.char_of.result c.args.self.now.sound c.loop-i-test.true c.loop-i.invariant
    (c.char_of.ensures ∙ (λ i. char_of (c.bit_at.ensures i) (c.bit_at-in-loop-i.ensures i)))

pub returns : goal.returns
returns c =
    let h = chars-all c.args.self.now.held c.loop-i.out c.loop-i.i c.args.self.now.sound c.loop-i-test.false c.loop-i.invariant in
    record { length = h.0; bytes = h.1 }
