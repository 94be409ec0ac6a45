use Rattle.std.proofs.Common.{refl}
use Rattle.tlcp.specs.Tables.{ByteSets, TagWords, WrittenBytes}
use Rattle.tlcp.proofs.examples.byte_sets_and_words.Goals as goal

bytes : ByteSets
bytes = record {
  digits = refl;
  hex = refl;
  alphanumeric = refl;
  unreserved = refl;
  plain = refl;
  reserved = refl;
  escaped = refl;
  escaped-first = refl;
}

written : WrittenBytes
written = record {
  first = refl;
  behind = refl;
  capital = refl;
  escapes = refl;
  values = refl;
  room = refl;
  room-written = refl;
  no_room = refl;
  no_room-touched = refl;
  limit = refl;
  limit-held = refl;
  past-limit = refl;
  past-limit-held = refl;
  decoded = refl;
  too-many = refl;
  too-many-bad = refl;
  line-end = refl;
  longest = refl;
}

words : TagWords
words = record {
  words = refl;
  no_argument = refl;
  one-argument = refl;
  two-arguments = refl;
  three-arguments = refl;
  four-arguments = refl;
  one-count = refl;
  one-text = refl;
  unsub = refl;
  code-text = refl;
  eos = refl;
  subok = refl;
  ov = refl;
  conf = refl;
  u = refl;
  reqerr = refl;
  conok = refl;
}

pub returns : goal.returns
returns c = record { bytes = bytes; written = written; words = words }
