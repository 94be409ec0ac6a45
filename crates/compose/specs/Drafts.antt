-- A request that is being written: what its writer holds, and what each call makes of that.
use Rattle.std.specs.Prelude.{ℕ, ◌+◌, Bool, true, false, cond, not, ◌&&◌, List, length, replicate}
use Rattle.std.specs.Prelude.{Ok, Err, Result, is_ok, ◌==◌, nat_le, slice_index_or, slice_set}
use Rattle.row.specs.Faults.{refusal}
use Rattle.std.specs.Result.{result_map_both}
use Rattle.row.specs.Texts.{padded}
use Rattle.row.specs.declared.fault.Fault.TheVariants.{Parts}
use Rattle.row.specs.declared.fault.Refusal.{Refusal}
use Rattle.tlcp.specs.Written.{placed, fits, no_room}
use Rattle.requests.specs.Limits.{value_limit}
use Rattle.requests.specs.Names.{index_of, is_in, parameter_count, parameters_of}
use Rattle.requests.specs.declared.name.Name.{Name}
use Rattle.requests.specs.declared.name.Parameter.{Parameter}
use Rattle.compose.specs.Written.{Assignment, head_text, pair_text}

-- the lent bytes, the name, whether it fitted, how many bytes are written, the parameters that
-- were added, and whether the bytes outlive the writer
pub record Draft : Type 0 where
  pub bytes : List ℕ
  pub name : Name
  pub begun : Bool
  pub len : ℕ
  pub given : List Bool
  pub kept : Bool

-- bytes that are too few for the name, to which nothing is ever written
abbrev pub unbegun : Name → List ℕ → Draft
unbegun name xs =
    record {
      bytes = xs;
      name = name;
      begun = false;
      len = 0;
      given = replicate parameter_count false;
      kept = false;
    }

-- a request without pairs in n bytes
abbrev pub fresh : Name → ℕ → Draft
fresh name n =
    record {
      bytes = padded n (head_text name);
      name = name;
      begun = true;
      len = length (head_text name);
      given = replicate parameter_count false;
      kept = false;
    }

-- what a new writer makes of the bytes that it is lent
abbrev pub begin : Name → List ℕ → Draft
begin name xs = cond (fits 0 (head_text name) xs) (fresh name (length xs)) (unbegun name xs)

-- only the name is written
abbrev pub is_fresh : Draft → Bool
is_fresh d = d.len == length (head_text d.name)

-- a parameter of the name that was not added yet
abbrev pub is_open : Draft → Parameter → Bool
is_open d p =
    is_in p (parameters_of d.name) && not (slice_index_or d.given (index_of p) false)

-- what a pair adds to the bytes
abbrev pub addition : Draft → Assignment → List ℕ
addition d x = pair_text (is_fresh d) x

-- the value is within its limit, and the pair within the bytes
abbrev pub has_room : Draft → Assignment → Bool
has_room d x = nat_le (length x.value) value_limit && fits d.len (addition d x) d.bytes

abbrev pub with_pair : Draft → Assignment → Draft
with_pair d x =
    record {
      bytes = placed d.len (addition d x) d.bytes;
      name = d.name;
      begun = d.begun;
      len = d.len + length (addition d x);
      given = slice_set d.given (index_of x.parameter) true;
      kept = d.kept;
    }

-- a part of the request that is unknown, repeated or missing
abbrev pub bad_part : Refusal
bad_part = refusal Parts 0

-- 6 for a parameter that is not open, and then 16 for want of room
abbrev pub open_answer : Draft → Assignment → Result (Unit {0}) Refusal
open_answer d x =
    cond (is_open d x.parameter) (cond (has_room d x) (Ok tt) (Err no_room)) (Err bad_part)

-- 16 first of all where the name did not fit
abbrev pub add_answer : Draft → Assignment → Result (Unit {0}) Refusal
add_answer d x = cond d.begun (open_answer d x) (Err no_room)

-- a refused pair changes nothing
abbrev pub add_to : Draft → Assignment → Draft
add_to d x = cond (d.begun && (is_open d x.parameter && has_room d x)) (with_pair d x) d

-- a request has one or more pairs: 16 where the name did not fit, and 6 where only it is written
abbrev pub request_len : Name → Bool → ℕ → Result ℕ Refusal
request_len name begun len =
    cond begun (cond (len == length (head_text name)) (Err bad_part) (Ok len)) (Err no_room)

abbrev pub ending : Draft → Result Draft Refusal
ending d = result_map_both (λ _. d) (λ e. e) (request_len d.name d.begun d.len)

-- what is left in the bytes when the writer goes: zeros, where something was written that is not
-- to be kept
abbrev pub left_by : Draft → List ℕ
left_by d = cond (d.begun && not d.kept) (replicate (length d.bytes) 0) d.bytes

-- the flag is set where the request is finished
abbrev pub closed : Draft → Draft
closed d = record d { kept = is_ok (ending d) }

abbrev pub length_or : Result Draft Refusal → Result ℕ Refusal
length_or = result_map_both (λ d. d.len) (λ e. e)

-- what is left in the bytes, where they would be `other` without a request
abbrev pub bytes_or : List ℕ → Result Draft Refusal → List ℕ
bytes_or other (Ok d) = d.bytes
bytes_or other (Err e) = other
