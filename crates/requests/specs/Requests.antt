-- Requests: which bytes are taken for which request, or refused, and where.
use Rattle.std.specs.Prelude.{ℕ, ◌+◌, min, Bool, cond, not, List, [], ◌∷◌, length, take, drop}
use Rattle.std.specs.Prelude.{replicate, is_some, Some, None, Ok, Err, Option, Result, nat_le}
use Rattle.std.specs.Prelude.{nat_lt, slice_index_or, slice_set}
use Rattle.std.specs.List.{list_any}
use Rattle.std.specs.Option.{option_map, unwrap_or}
use Rattle.row.specs.Faults.{refusal}
use Rattle.tlcp.specs.Lines.{and_then}
use Rattle.std.specs.Result.{result_map_both}
use Rattle.row.specs.declared.fault.Fault.TheVariants.{Shape, Unknown, Parts, Value, Length}
use Rattle.row.specs.declared.fault.Refusal.{Refusal}
use Rattle.tlcp.specs.Limits.{id_limit}
use Rattle.tlcp.specs.Numbers.{read_number}
use Rattle.tlcp.specs.Parts.{before, behind, place_of}
use Rattle.tlcp.specs.Dividing.{divided_by, crlf_at}
use Rattle.requests.specs.Limits.{request_limit}
use Rattle.requests.specs.Names.{index_of, parameter_count, parameter_of, name_of, first_needs}
use Rattle.requests.specs.Names.{operation_of, needs, takes, is_in}
use Rattle.requests.specs.Values.{read_value, fitting, fault_of}
use Rattle.requests.specs.declared.name.Name.{Name}
use Rattle.requests.specs.declared.name.Name.TheVariants.{CreateSession, BindSession, Control}
use Rattle.requests.specs.declared.name.Form.{Form}
use Rattle.requests.specs.declared.name.Form.TheVariants.{Create, Bind, Add, Delete, ForceRebind}
use Rattle.requests.specs.declared.name.Parameter.{Parameter}
use Rattle.requests.specs.declared.name.Parameter.TheVariants.{Cid, User, Password, Session}
use Rattle.requests.specs.declared.name.Parameter.TheVariants.{RequestId, Operation, SubscriptionId}
use Rattle.requests.specs.declared.name.Parameter.TheVariants.{Group, Schema, Mode, Snapshot}

-- a request, with its values decoded
pub data Request : Type 0 where
  create : List ℕ → Option (List ℕ) → Option (List ℕ) → Request
  bind : Request
  add : List ℕ → ℕ → List ℕ → Request
  delete : List ℕ → ℕ → Request
  rebind : List ℕ → Request

-- a pair: where it stands, where its value stands, and the value
pub record Occurrence : Type 0 where
  pub at : ℕ
  pub value_at : ℕ
  pub text : List ℕ

-- the pairs so far, each at the place of its parameter
abbrev pub Occurrences : Type 0
Occurrences = List (Option Occurrence)

abbrev pub no_occurrences : Occurrences
no_occurrences = replicate parameter_count None

abbrev pub occurrence_of : Parameter → Occurrences → Option Occurrence
occurrence_of p ps = slice_index_or ps (index_of p) None

abbrev pub with_occurrence : Parameter → Occurrence → Occurrences → Occurrences
with_occurrence p x ps = slice_set ps (index_of p) (Some x)

abbrev pub is_given : Parameter → Occurrences → Bool
is_given p ps = is_some (occurrence_of p ps)

abbrev pub given_text : Parameter → Occurrences → Option (List ℕ)
given_text p ps = option_map (λ x. x.text) (occurrence_of p ps)

-- the value of a parameter, which is given
abbrev pub value_of : Parameter → Occurrences → List ℕ
value_of p ps = unwrap_or (given_text p ps) []

abbrev pub value_at_of : Parameter → Occurrences → ℕ
value_at_of p ps = unwrap_or (option_map (λ x. x.value_at) (occurrence_of p ps)) 0

abbrev pub add_occurrence : Parameter → ℕ → ℕ → Occurrences → List ℕ → Occurrences
add_occurrence p at value_at ps t = with_occurrence p
    (record { at = at; value_at = value_at; text = t }) ps

-- a pair with a known name, from the place `at` on
abbrev pub read_known : ℕ → ℕ → List ℕ → Occurrences → Option Parameter → Result Occurrences Refusal
read_known at value_at raw ps None = Err (refusal Parts at)
read_known at value_at raw ps (Some p) = let value = result_map_both
    (add_occurrence p at value_at ps) (λ e. e) (read_value value_at raw) in cond (is_given p ps)
    (Err (refusal Parts at)) value

abbrev pub read_divided : Name → ℕ → List ℕ → Occurrences → Option (List ℕ)
    → Result Occurrences Refusal
read_divided n at s ps None = Err (refusal Shape at)
read_divided n at s ps (Some raw) = read_known at (at + (place_of 61 s + 1)) raw ps
    (parameter_of n (before 61 s))

abbrev pub read_pair : Name → ℕ → List ℕ → Occurrences → Result Occurrences Refusal
read_pair n at s ps = read_divided n at s ps (behind 61 s)

-- pairs side by side, from the place `at` on
abbrev pub read_pairs : Name → ℕ → List (List ℕ) → Occurrences → Result Occurrences Refusal
read_pairs n at [] ps = Ok ps
read_pairs n at (s ∷ ss) ps = and_then (read_pair n at s ps) (read_pairs n (at + (length s + 1)) ss)

-- one of these is missing
abbrev pub lacks : List Parameter → Occurrences → Bool
lacks some ps = list_any (λ p. not (is_given p ps)) some

abbrev pub form_or : ℕ → Option Form → Result Form Refusal
form_or at None = Err (refusal Value at)
form_or at (Some f) = Ok f

abbrev pub form_of : Name → Occurrences → Result Form Refusal
form_of CreateSession ps = Ok Create
form_of BindSession ps = Ok Bind
form_of Control ps = form_or (value_at_of Operation ps) (operation_of (value_of Operation ps))

abbrev pub parameters : List Parameter
parameters =
    Cid ∷ User ∷ Password ∷ Session ∷ RequestId ∷ Operation ∷ SubscriptionId ∷ Group ∷ Schema ∷ Mode
    ∷ Snapshot ∷ []

abbrev pub leftmost : Option ℕ → Option ℕ → Option ℕ
leftmost None o = o
leftmost (Some a) None = Some a
leftmost (Some a) (Some b) = Some (min a b)

-- where a pair stands that is not one of these
abbrev pub unfit_of : List Parameter → Occurrences → Parameter → Option ℕ
unfit_of taken ps p = cond (is_in p taken) None (option_map (λ x. x.at) (occurrence_of p ps))

-- where the leftmost pair stands that is not one of these
abbrev pub unfit : List Parameter → Occurrences → List Parameter → Option ℕ
unfit taken ps [] = None
unfit taken ps (p ∷ more) = leftmost (unfit_of taken ps p) (unfit taken ps more)

-- the values of these parameters are ones that they take
abbrev pub check_values : ℕ → List Parameter → Occurrences → Result (Unit {0}) Refusal
check_values session [] ps = Ok tt
check_values session (p ∷ more) ps = cond (fitting session p (value_of p ps))
    (check_values session more ps) (Err (refusal (fault_of p) (value_at_of p ps)))

-- what the values of some parameters ask for in a form
module _ (look : Parameter → Option (List ℕ)) where
  abbrev pub word_of : Parameter → List ℕ
  word_of p = unwrap_or (look p) []

  abbrev pub id_of : ℕ
  id_of = unwrap_or (read_number 1 id_limit (word_of SubscriptionId)) 0

  abbrev pub request_of : Form → Request
  request_of Create = create (word_of Cid) (look User) (look Password)
  request_of Bind = bind
  request_of Add = add (word_of RequestId) id_of (word_of Group)
  request_of Delete = delete (word_of RequestId) id_of
  request_of ForceRebind = rebind (word_of RequestId)

abbrev pub fitting_or : ℕ → Form → Occurrences → Option ℕ → Result Request Refusal
fitting_or session f ps (Some at) = Err (refusal Parts at)
fitting_or session f ps None = and_then (check_values session (needs f) ps)
    (λ _. Ok (request_of (λ p. given_text p ps) f))

-- what pairs ask for in this form
abbrev pub read_form : ℕ → ℕ → Occurrences → Form → Result Request Refusal
read_form session end ps f = let fit = fitting_or session f ps
    (unfit (takes f) ps parameters) in cond (lacks (needs f) ps) (Err (refusal Parts end)) fit

-- what pairs ask for under this name
abbrev pub read_named : ℕ → ℕ → Name → Occurrences → Result Request Refusal
read_named session end n ps = cond (lacks (first_needs n) ps) (Err (refusal Parts end))
    (and_then (form_of n ps) (read_form session end ps))

-- what stands behind the name and its CR LF
abbrev pub read_body : ℕ → List ℕ → ℕ → Option Name → Result Request Refusal
read_body session s at None = Err (refusal Unknown 0)
read_body session s at (Some n) = and_then
    (read_pairs n at (divided_by 38 (drop at s)) no_occurrences) (read_named session (length s) n)

abbrev pub read_request : ℕ → List ℕ → Result Request Refusal
read_request session s =
    let body = read_body session s (crlf_at s + 2) (name_of (take (crlf_at s) s)) in
    cond (nat_le (length s) request_limit)
    (cond (nat_lt (crlf_at s) (length s)) body (Err (refusal Shape (length s))))
    (Err (refusal Length 0))
