-- The table of spelled lines holds: each row by computing, but for the lines that are too long.
use Rattle.std.proofs.Common.{leb, length, refl, ap}
use Rattle.std.proofs.lemmas.Bool.{cond-false, lt-leb}
use Rattle.row.specs.Faults.{by_numbers}
use Rattle.request.specs.Limits.{spelled_limit}
use Rattle.request.specs.SpellingTable.{SpellingTable}

pub spelling-table : SpellingTable
spelling-table = record {
  bytes = refl;
  empty = refl;
  itself = refl;
  other = refl;
  capital = refl;
  one_digit = refl;
  no_digit = refl;
  alone = refl;
  written = refl;
  no_request = refl;
  no_request_behind = refl;
  too_long = λ session line h. ap by_numbers
      (cond-false (leb (length line) spelled_limit) _ _ (lt-leb _ _ h));
}
