-- The refusals of the request writer, computed.
use Rattle.std.proofs.Common.{refl}
use Rattle.compose.specs.Refused.{Refusals}

pub refusals : Refusals
refusals = record {
  no_name = λ x. refl;
  no_name_finished = refl;
  no_bytes = λ x. refl;
  unknown = refl;
  repeated = refl;
  long = refl;
  no_room = refl;
  unknown_before_long = refl;
  repeated_before_long = refl;
  unknown_before_room = refl;
  no_pair = refl;
  no_pair_taken = refl;
  longest = refl;
  fits = refl;
  another = refl;
  whole = refl;
}
