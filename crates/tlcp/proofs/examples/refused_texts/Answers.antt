use Rattle.std.proofs.Common.{refl}
use Rattle.tlcp.specs.Refused.{RefusedLines, RefusedLists}
use Rattle.tlcp.proofs.examples.refused_texts.Goals as goal

lists : RefusedLists
lists = record {
  escape-short = refl;
  escape-other = refl;
  caret-alone = refl;
  caret-zeros = refl;
  caret-13 = refl;
  caret-text = refl;
  too_few = refl;
  too_many = refl;
  one-more = refl;
  caret-past = refl;
  no_fields = refl;
  past-12 = refl;
  not-logic = refl;
  no_logic = refl;
  escape-then-long = refl;
  first-of-two = refl;
  bad-then-more = refl;
  bad-then-less = refl;
  past-bad = refl;
  past-run = refl;
}

lines : RefusedLines
lines = record {
  longest = refl;
  too_long = refl;
  long-unknown = refl;
  unknown = refl;
  small-letters = refl;
  no_tag = refl;
  missing = refl;
  all-missing = refl;
  missing-first = refl;
  not-wanted = refl;
  not-wanted-empty = refl;
  id-highest = refl;
  id-beyond = refl;
  id-zero = refl;
  item-other = refl;
  fields-highest = refl;
  fields-beyond = refl;
  fields-zero = refl;
  count-zero = refl;
  count-highest = refl;
  count-beyond = refl;
  code-lowest = refl;
  code-beyond = refl;
  code-above = refl;
  minus-zero = refl;
  minus = refl;
  leading-zero = refl;
  empty-number = refl;
  last-whole = refl;
  escape = refl;
  escape-after-comma = refl;
  first-number = refl;
  second-number = refl;
  text-then-number = refl;
  number-then-text = refl;
  code-then-text = refl;
  list-unread = refl;
}

pub returns : goal.returns
returns c = record { lists = lists; lines = lines }
