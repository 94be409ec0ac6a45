-- What is answered to a line.
use Rattle.std.specs.Prelude.{ℕ, cond, List, ◌++◌, length, take, replicate, Some, None, Ok, Err}
use Rattle.std.specs.Prelude.{codes, Option, Result, nat_le}
use Rattle.tlcp.specs.Lines.{and_then}
use Rattle.row.specs.Faults.{printed}
use Rattle.std.specs.Result.{result_map_both}
use Rattle.row.specs.Faults.{refusal}
use Rattle.row.specs.declared.fault.Fault.TheVariants.{Length, Shape}
use Rattle.row.specs.declared.fault.Refusal.{Refusal}
use Rattle.requests.specs.Limits.{request_limit}
use Rattle.requests.specs.Requests.{Request, read_request}
use Rattle.request.specs.Anew.{anew}
use Rattle.request.specs.Limits.{spelled_limit}
use Rattle.request.specs.Spelling.{spelled, unspelled}

-- the request written anew
abbrev pub anew_text : ℕ → Request → Result (List ℕ) Refusal
anew_text session q =
    result_map_both (λ d. take d.len d.bytes) (λ e. e) (anew session q (replicate request_limit 0))

-- what came of the bytes that a line stands for
abbrev pub read_spelled : ℕ → Option (List ℕ) → Result (List ℕ) Refusal
read_spelled session None = Err (refusal Shape 0)
read_spelled session (Some t) = and_then (read_request session t) (anew_text session)

-- what came of a line
abbrev pub checked : ℕ → List ℕ → Result (List ℕ) Refusal
checked session line =
    cond (nat_le (length line) spelled_limit) (read_spelled session (unspelled line))
    (Err (refusal Length 0))

abbrev pub answer_text : Result (List ℕ) Refusal → List ℕ
answer_text (Ok t) = codes " ok " ++ spelled t
answer_text (Err r) = codes " no " ++ printed r
