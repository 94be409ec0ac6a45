-- The values of parameters: which bytes may stand for one, and which values each parameter takes.
use Rattle.std.specs.Prelude.{ℕ, ◌+◌, Bool, true, cond, not, ◌&&◌, List, ◌∷◌, length, drop, is_some}
use Rattle.std.specs.Prelude.{Some, None, Ok, Err, codes, decimal, Option, Result, ◌==◌, nat_le}
use Rattle.std.specs.Prelude.{slice_index}
use Rattle.row.specs.Faults.{refusal}
use Rattle.row.specs.Texts.{every}
use Rattle.row.specs.declared.fault.Fault.{Fault}
use Rattle.row.specs.declared.fault.Fault.TheVariants.{Escape, Number, Value, Length}
use Rattle.row.specs.declared.fault.Refusal.{Refusal}
use Rattle.tlcp.specs.Bytes.{is_alphanumeric, is_digit, is_plain}
use Rattle.tlcp.specs.Escapes.{decoded}
use Rattle.tlcp.specs.Limits.{id_limit}
use Rattle.tlcp.specs.Numbers.{read_number}
use Rattle.tlcp.specs.Lines.{same_bytes}
use Rattle.requests.specs.Limits.{value_limit, request_id_limit}
use Rattle.requests.specs.declared.name.Parameter.{Parameter}
use Rattle.requests.specs.declared.name.Parameter.TheVariants.{Cid, User, Password, Session}
use Rattle.requests.specs.declared.name.Parameter.TheVariants.{RequestId, Operation, SubscriptionId}
use Rattle.requests.specs.declared.name.Parameter.TheVariants.{Group, Schema, Mode, Snapshot}

abbrev pub plain_or : ℕ → List ℕ → List ℕ → Option ℕ → Result (List ℕ) Refusal
plain_or at raw t (Some n) = Err (refusal Escape (at + n))
plain_or at raw t None =
    cond (every is_plain raw) (cond (nat_le (length t) value_limit) (Ok t) (Err (refusal Length 0)))
    (Err (refusal Value at))

-- the value that stands from the place `at` on
abbrev pub read_value : ℕ → List ℕ → Result (List ℕ) Refusal
read_value at raw = plain_or at raw (decoded raw).bytes (decoded raw).fault

-- a number from 1 up, of any size
abbrev pub is_numeral : List ℕ → Bool
is_numeral ds = nat_le 1 (length ds) && (not (slice_index ds 0 == 48) && every is_digit ds)

abbrev pub is_group : List ℕ → Bool
is_group t = nat_le 1 (length t) && (slice_index t 0 == 116 && is_numeral (drop 1 t))

abbrev pub is_request_id : List ℕ → Bool
is_request_id t =
    nat_le 1 (length t) && (nat_le (length t) request_id_limit && every is_alphanumeric t)

-- the name of the session with this number
abbrev pub session_name : ℕ → List ℕ
session_name n = 83 ∷ decimal n

-- the values that a parameter takes
abbrev pub fitting : ℕ → Parameter → List ℕ → Bool
fitting session Cid t = true
fitting session User t = true
fitting session Password t = true
fitting session Session t = same_bytes t (session_name session)
fitting session RequestId t = is_request_id t
fitting session Operation t = true
fitting session SubscriptionId t = is_some (read_number 1 id_limit t)
fitting session Group t = is_group t
fitting session Schema t = same_bytes t (codes "all")
fitting session Mode t = same_bytes t (codes "MERGE")
fitting session Snapshot t = same_bytes t (codes "true")

-- what is wrong with another value
abbrev pub fault_of : Parameter → Fault
fault_of Cid = Value
fault_of User = Value
fault_of Password = Value
fault_of Session = Value
fault_of RequestId = Value
fault_of Operation = Value
fault_of SubscriptionId = Number
fault_of Group = Value
fault_of Schema = Value
fault_of Mode = Value
fault_of Snapshot = Value
