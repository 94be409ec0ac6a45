-- The refusals of requests, by their numbers and places, and which of two faults is told: requests
-- as they are read in the session with the number 1.
use Rattle.std.specs.Prelude.{◌≡◌, ℕ, ◌<◌, List, [], ◌∷◌, ◌++◌, length, replicate, None, codes}
use Rattle.row.specs.Faults.{Answer, accepted, refused, by_numbers}
use Rattle.requests.specs.Requests.{Request, add, bind, rebind, read_request}
use Rattle.requests.specs.Requests as requests

abbrev read : List ℕ → Answer Request
read s = by_numbers (read_request 1 s)

abbrev request : List ℕ → List ℕ → List ℕ
request name pairs = name ++ 13 ∷ 10 ∷ pairs

abbrev create : List ℕ → List ℕ
create = request (codes "create_session")

abbrev control : List ℕ → List ℕ
control = request (codes "control")

abbrev bind_by : List ℕ → List ℕ
bind_by session = request (codes "bind_session") (codes "LS_session=" ++ session)

-- values that are right, and one that is none
abbrev seven : List ℕ
seven = codes "7"

abbrev one : List ℕ
one = codes "1"

abbrev t1 : List ℕ
t1 = codes "t1"

abbrev all : List ℕ
all = codes "all"

abbrev merge : List ℕ
merge = codes "MERGE"

abbrev yes : List ℕ
yes = codes "true"

abbrev x : List ℕ
x = codes "x"

-- a control request that adds, with these values
abbrev add_by : List ℕ → List ℕ → List ℕ → List ℕ → List ℕ → List ℕ → List ℕ
add_by id subscription group schema mode snapshot =
    control (codes "LS_reqId=" ++ id ++ codes "&LS_op=add&LS_subId=" ++ subscription
    ++ codes "&LS_group=" ++ group ++ codes "&LS_schema=" ++ schema
    ++ codes "&LS_mode=" ++ mode ++ codes "&LS_snapshot=" ++ snapshot)

pub record Refusals : Type 0 where
  -- more than 2,048 bytes: 16 at 0, before all else
  pub too_long : (session : ℕ) (s : List ℕ) → 2048 < length s
      → by_numbers (read_request session s) ≡ refused 16 0
  -- no CR LF: 2 at the text's end
  pub no_end : read (codes "control") ≡ refused 2 7
  pub end_turned : read (codes "control" ++ 10 ∷ 13 ∷ codes "LS_reqId=7") ≡ refused 2 19
  pub no_text : read [] ≡ refused 2 0
  pub end_before_name : read (codes "heartbeat") ≡ refused 2 9
  -- none of the three names: 5 at 0, before all pairs
  pub name : read (request (codes "heartbeat") []) ≡ refused 5 0
  pub name_before_pairs : read (request (codes "Control") (codes "LS_reqId")) ≡ refused 5 0
  -- a pair without `=`: 2 at its first byte; an empty text is one such pair
  pub no_equals : read (control (codes "LS_reqId")) ≡ refused 2 9
  pub no_pair : read (control []) ≡ refused 2 9
  pub empty_pair : read (control (codes "LS_reqId=7&")) ≡ refused 2 20
  -- an unknown or repeated parameter: 6 at the pair's first byte
  pub unknown : read (control (codes "LS_reqId=7&LS_cid=7")) ≡ refused 6 20
  pub repeated : read (control (codes "LS_reqId=7&LS_reqId=7")) ≡ refused 6 20
  -- `%` without two hexadecimal digits: 3 at the `%`
  pub escape : read (control (codes "LS_reqId=7%zz")) ≡ refused 3 19
  pub escape_cut : read (control (codes "LS_reqId=7%4")) ≡ refused 3 19
  -- a byte that is neither unreserved nor in an escape, as a raw `+`: 8 at the value's first byte
  pub byte : read (control (codes "LS_reqId=a+b")) ≡ refused 8 18
  pub second_equals : read (control (codes "LS_reqId=a=b")) ≡ refused 8 18
  -- a value of more than 64 bytes: 16 at 0
  pub long : read (create (codes "LS_cid=" ++ replicate 65 97)) ≡ refused 16 0
  -- in a pair 2, 6, 3, 8, 16, and the pairs from left to right
  pub equals_before_unknown : read (control (codes "LS_cid")) ≡ refused 2 9
  pub unknown_before_escape : read (control (codes "LS_cid=%")) ≡ refused 6 9
  pub repeated_before_escape : read (control (codes "LS_op=x&LS_op=%")) ≡ refused 6 17
  pub escape_before_byte : read (control (codes "LS_reqId=+%")) ≡ refused 3 19
  pub byte_before_long : read (create (codes "LS_cid=" ++ replicate 65 43)) ≡ refused 8 23
  pub escape_before_long : read (create (codes "LS_cid=" ++ replicate 65 97 ++ codes "%"))
      ≡ refused 3 88
  pub left_first : read (control (codes "LS_reqId=+&LS_cid")) ≡ refused 8 18
  -- a parameter missing that the name needs: 6 at the text's end, after the pairs
  pub no_cid : read (create (codes "LS_user=u")) ≡ refused 6 25
  pub no_operation : read (control (codes "LS_reqId=7")) ≡ refused 6 19
  pub no_request_id : read (control (codes "LS_op=nothing")) ≡ refused 6 22
  pub pairs_before_missing : read (create (codes "LS_user=+")) ≡ refused 8 24
  -- a value of LS_op that is no operation: 8 at the value, before the other values
  pub operation : read (control (codes "LS_reqId=7&LS_op=ADD")) ≡ refused 8 26
  pub operation_before_values : read (control (codes "LS_reqId=-&LS_op=ADD")) ≡ refused 8 26
  -- then what the operation lacks, 6 at the text's end, and what it does not have, 6 at the
  -- leftmost such pair
  pub lacks : read (control (codes "LS_reqId=7&LS_op=delete")) ≡ refused 6 32
  pub lacks_before_values : read (control (codes "LS_reqId=-&LS_op=delete")) ≡ refused 6 32
  pub lacks_before_has : read (control (codes "LS_schema=all&LS_reqId=7&LS_op=delete"))
      ≡ refused 6 46
  pub has : read (control (codes "LS_reqId=7&LS_op=force_rebind&LS_subId=1")) ≡ refused 6 39
  pub has_leftmost : read (control (codes "LS_mode=x&LS_schema=x&LS_reqId=7&LS_op=force_rebind"))
      ≡ refused 6 9
  pub has_before_values : read (control (codes "LS_reqId=-&LS_op=delete&LS_subId=0&LS_mode=x"))
      ≡ refused 6 44
  -- the other values, in their order, each at its first byte
  pub request_id_empty : read (add_by [] x t1 all merge yes) ≡ refused 8 18
  pub request_id_long : read (add_by (codes "123456789") one t1 all merge yes) ≡ refused 8 18
  pub request_id : read (add_by (codes "-") x x x x x) ≡ refused 8 18
  pub id_zero : read (add_by seven (codes "0") t1 all merge yes) ≡ refused 4 39
  pub id_leading : read (add_by seven (codes "01") t1 all merge yes) ≡ refused 4 39
  pub id_high : read (add_by seven (codes "10000") t1 all merge yes) ≡ refused 4 39
  pub id : read (add_by seven x x x x x) ≡ refused 4 39
  pub group_zero : read (add_by seven one (codes "t0") all merge yes) ≡ refused 8 50
  pub group_bare : read (add_by seven one (codes "t") all merge yes) ≡ refused 8 50
  pub group : read (add_by seven one x x x x) ≡ refused 8 50
  pub schema : read (add_by seven one t1 (codes "some") x x) ≡ refused 8 63
  pub mode : read (add_by seven one t1 all (codes "RAW") x) ≡ refused 8 75
  pub snapshot : read (add_by seven one t1 all merge (codes "false")) ≡ refused 8 93
  pub session : read (bind_by (codes "S2")) ≡ refused 8 25
  pub session_leading : read (bind_by (codes "S01")) ≡ refused 8 25
  -- and what stands at the limits is accepted
  pub highest : read (add_by (codes "abcDEF12") (codes "9999")
      (codes "t18446744073709551617") all merge yes)
      ≡ accepted (add (codes "abcDEF12") 9999 (codes "t18446744073709551617"))
  pub longest : read (create (codes "LS_cid=" ++ replicate 64 97))
      ≡ accepted (requests.create (replicate 64 97) None None)
  pub by_escapes : read (control (codes "LS_op=%66orce_rebind&LS_reqId=%37"))
      ≡ accepted (rebind (codes "7"))
  pub this_session : read (bind_by (codes "%531")) ≡ accepted bind
