use Rattle.std.proofs.Common.{◌≡◌, take}
use Rattle.row.specs.Limits.{text_limit}
use Rattle.row.specs.Texts.{padded}
use Rattle.row.specs.Logics.{chars_of}
use Rattle.row.proofs.logic.Logic.write.Given as goal

abbrev pub invariant-loop-i : goal.invariant-loop-i
invariant-loop-i l = l.out ≡ padded text_limit (take l.i (chars_of l.width l.a l.b))
