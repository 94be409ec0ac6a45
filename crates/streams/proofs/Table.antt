-- The table of inputs and their lines holds: each row by computing.
use Rattle.std.proofs.Common.{refl}
use Rattle.streams.specs.LineTable.{LineTable}

pub line-table : LineTable
line-table = record {
  lines = refl;
  ended = refl;
  no_lines = refl;
  none_ended = refl;
  last_ended = refl;
  only_end = refl;
  cr_inside = refl;
  cr_alone = refl;
  bare_one = refl;
  bare_two = refl;
  bare_none = refl;
  bare_empty = refl;
}
