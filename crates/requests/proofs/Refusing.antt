-- The table of refusals, computed.
use Rattle.std.proofs.Common.{leb, length, refl, ap}
use Rattle.std.proofs.lemmas.Bool.{cond-false, lt-leb}
use Rattle.std.specs.Fmt.{digits}
use Rattle.row.specs.Faults.{by_numbers}
use Rattle.requests.specs.Limits.{request_limit}
use Rattle.requests.specs.Refused.{Refusals}

pub refusals : Refusals
unfolding digits
refusals = record {
  too_long = λ session s h. ap by_numbers
      (cond-false (leb (length s) request_limit) _ _ (lt-leb _ _ h));
  no_end = refl;
  end_turned = refl;
  no_text = refl;
  end_before_name = refl;
  name = refl;
  name_before_pairs = refl;
  no_equals = refl;
  no_pair = refl;
  empty_pair = refl;
  unknown = refl;
  repeated = refl;
  escape = refl;
  escape_cut = refl;
  byte = refl;
  second_equals = refl;
  long = refl;
  equals_before_unknown = refl;
  unknown_before_escape = refl;
  repeated_before_escape = refl;
  escape_before_byte = refl;
  byte_before_long = refl;
  escape_before_long = refl;
  left_first = refl;
  no_cid = refl;
  no_operation = refl;
  no_request_id = refl;
  pairs_before_missing = refl;
  operation = refl;
  operation_before_values = refl;
  lacks = refl;
  lacks_before_values = refl;
  lacks_before_has = refl;
  has = refl;
  has_leftmost = refl;
  has_before_values = refl;
  request_id_empty = refl;
  request_id_long = refl;
  request_id = refl;
  id_zero = refl;
  id_leading = refl;
  id_high = refl;
  id = refl;
  group_zero = refl;
  group_bare = refl;
  group = refl;
  schema = refl;
  mode = refl;
  snapshot = refl;
  session = refl;
  session_leading = refl;
  highest = refl;
  longest = refl;
  by_escapes = refl;
  this_session = refl;
}
