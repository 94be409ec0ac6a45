use Rattle.std.proofs.Common.{[], ◌∷◌, ◌++◌, refl, ap, lit<}
use Rattle.std.proofs.lemmas.Fmt.{decimal_digit}
use Rattle.tlcp.proofs.examples.worked_examples.Goals as goal

pub returns : goal.returns
returns c = record {
  three-written = refl;
  three-read = refl;
  four-written = ap (λ ds. 112 ∷ 124 ∷ 94 ∷ (ds ++ 124 ∷ 113 ∷ [])) (decimal_digit 4 (lit< tt));
  four-read = refl;
  caret-good = refl;
  caret-past = refl;
  caret-zero = refl;
  hash-escaped = refl;
  hash-inside = refl;
  long-read = refl;
  too_long = refl;
  logic-fits = refl;
  logic-read = refl;
  logic-words = refl;
  logic-empty = refl;
  marks-written = refl;
  marks-read = refl;
  marks-inside = refl;
  divided-first = refl;
  marks-escaped = refl;
  caret-12 = refl;
  joining = λ v w. refl;
}
