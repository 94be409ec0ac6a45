use Rattle.std.proofs.Common.{sym, ap, ◌∙◌}
use Rattle.waiting.specs.JoinsLaws.{first-waits, joined-dropped, other-dropped}
use Rattle.waiting.specs.JoinsLaws.{joined-without, joined-without-other, none-for-blank}
use Rattle.waiting.specs.JoinsLaws.{same_in-joined, all-drop, all-without}
use Rattle.waiting.specs.Lists.{change_allowed, joined}
use Rattle.waiting.specs.ListsLaws.{length-joined, waits}
use Rattle.waiting.specs.Policies.{listed, after_drop}
use Rattle.row.specs.Rows.{changed}
use Rattle.row.proofs.Joining.{row-laws}
use Rattle.waiting.proofs.joins.joins_keep_their_laws.Goals as goal

pub returns : goal.returns
returns c = record {
  first = joined-dropped;
  behind = other-dropped;
  without = joined-without;
  others = joined-without-other;
  blank = none-for-blank;
  same = same_in-joined;
  sending = λ m p e f row.
      ap (changed row) (joined-dropped m p e f)
      ∙ row-laws.by-join row p.delta (joined p.tap (after_drop m))
      ((waits p (after_drop m) (first-waits m p e f)).long
      ∙ sym (length-joined p.tap (after_drop m)));
  putting = λ b law m t d put row.
      ap (changed row) (law.own-join m t d put)
      ∙ row-laws.by-join row (joined t (listed m)) d (length-joined t (listed m) ∙ sym put.whole);
  drop = λ allowed. all-drop (change_allowed allowed);
  forget = λ allowed. all-without (change_allowed allowed);
}
