-- A request written anew: its parameters in a fixed order, and its password kept back.
use Rattle.std.specs.Prelude.{◌≡◌, ℕ, List, [], ◌∷◌, Some, None, codes, decimal, Option, Result}
use Rattle.std.specs.Option.{option_map}
use Rattle.row.specs.declared.fault.Refusal.{Refusal}
use Rattle.requests.specs.Names.{form_word}
use Rattle.requests.specs.Requests.{Request, create, bind, add, delete, rebind}
use Rattle.requests.specs.Values.{session_name}
use Rattle.requests.specs.declared.name.Form.TheVariants.{Add, Delete, ForceRebind}
use Rattle.requests.specs.declared.name.Name.{Name}
use Rattle.requests.specs.declared.name.Name.TheVariants.{CreateSession, BindSession, Control}
use Rattle.requests.specs.declared.name.Parameter.{Parameter}
use Rattle.requests.specs.declared.name.Parameter.TheVariants.{Cid, User, Password, Session}
use Rattle.requests.specs.declared.name.Parameter.TheVariants.{RequestId, Operation, SubscriptionId}
use Rattle.requests.specs.declared.name.Parameter.TheVariants.{Group, Schema, Mode, Snapshot}
use Rattle.compose.specs.Composed.{composing, zeroed_or}
use Rattle.compose.specs.Drafts.{Draft, bytes_or, length_or}
use Rattle.compose.specs.Written.{Assignment, assign}

-- a pair that may be left out
abbrev pub optional : Parameter → Option (List ℕ) → List Assignment → List Assignment
optional p None xs = xs
optional p (Some v) xs = assign p v ∷ xs

-- a password is shown by this word
abbrev pub redacted : Option (List ℕ) → Option (List ℕ)
redacted = option_map (λ _. codes "redacted")

abbrev pub name_for : Request → Name
name_for (create c u w) = CreateSession
name_for bind = BindSession
name_for (add r id g) = Control
name_for (delete r id) = Control
name_for (rebind r) = Control

abbrev pub pairs_for : ℕ → Request → List Assignment
pairs_for session (create c u w) =
    assign Cid c ∷ optional User u (optional Password (redacted w) [])
pairs_for session bind = assign Session (session_name session) ∷ []
pairs_for session (add r id g) =
    assign RequestId r ∷ assign Operation (form_word Add) ∷ assign SubscriptionId
    (decimal id) ∷ assign Group g ∷ assign Schema (codes "all") ∷ assign Mode
    (codes "MERGE") ∷ assign Snapshot (codes "true") ∷ []
pairs_for session (delete r id) =
    assign RequestId r ∷ assign Operation (form_word Delete) ∷ assign SubscriptionId
    (decimal id) ∷ []
pairs_for session (rebind r) = assign RequestId r ∷ assign Operation (form_word ForceRebind) ∷ []

-- the request in some bytes
abbrev pub anew : ℕ → Request → List ℕ → Result Draft Refusal
anew session q out = composing (name_for q) (pairs_for session q) out

-- what is answered, and what is left in the bytes
pub record Anew (session : ℕ) (q : Request) (out : List ℕ) (r : Result ℕ Refusal)
    (bytes : List ℕ) : Type 0 where
  pub length : r ≡ length_or (anew session q out)
  pub text : bytes ≡ bytes_or (zeroed_or (name_for q) out) (anew session q out)
