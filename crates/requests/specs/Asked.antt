-- Which bytes are which request, in the words of the protocol: a name, CR LF, and pairs of
-- parameters and values.
use Rattle.std.specs.Prelude.{◌≡◌, ℕ, ◌≤◌, true, false, cond, List, [], ◌∷◌, ◌++◌, map, length}
use Rattle.std.specs.Prelude.{is_some, Some, None, Ok, codes, decimal, Option, ◌==◌, nat_eq}
use Rattle.std.specs.Option.{unwrap_or}
use Rattle.std.specs.List.{AllByRecursion}
use Rattle.tlcp.specs.Bytes.{is_alphanumeric, is_digit, is_plain}
use Rattle.tlcp.specs.Escapes.{Decodes}
use Rattle.tlcp.specs.Limits.{id_limit}
use Rattle.tlcp.specs.Dividing.{joined_by}
use Rattle.requests.specs.Limits.{request_limit, value_limit, request_id_limit}
use Rattle.requests.specs.Names.{name_word, parameter_word, index_of, is_in, needs, takes}
use Rattle.requests.specs.Requests.{Request, read_request, request_of}
use Rattle.requests.specs.Values.{session_name}
use Rattle.requests.specs.declared.name.Name.{Name}
use Rattle.requests.specs.declared.name.Name.TheVariants.{CreateSession, BindSession, Control}
use Rattle.requests.specs.declared.name.Form.{Form}
use Rattle.requests.specs.declared.name.Form.TheVariants.{Create, Bind, Add, Delete, ForceRebind}
use Rattle.requests.specs.declared.name.Parameter.{Parameter}
use Rattle.requests.specs.declared.name.Parameter.TheVariants.{Cid, User, Password, Session}
use Rattle.requests.specs.declared.name.Parameter.TheVariants.{RequestId, Operation, SubscriptionId}
use Rattle.requests.specs.declared.name.Parameter.TheVariants.{Group, Schema, Mode, Snapshot}

-- a pair: a parameter, the bytes of its value, and the value that they stand for
pub record Given : Type 0 where
  pub parameter : Parameter
  pub raw : List ℕ
  pub text : List ℕ

abbrev pub spelling : Given → List ℕ
spelling g = parameter_word g.parameter ++ (61 ∷ g.raw)

-- the bytes are unreserved ones and escapes, and not too many when decoded
pub record Readable (g : Given) : Type 0 where
  pub plain : AllByRecursion (λ b. is_plain b ≡ true) g.raw
  pub decodes : Decodes g.raw g.text
  pub short : length g.text ≤ value_limit

-- the value of a parameter, if it is given
abbrev pub found : List Given → Parameter → Option (List ℕ)
found [] p = None
found (g ∷ gs) p = cond (index_of p == index_of g.parameter) (Some g.text) (found gs p)

-- no parameter is given twice
abbrev pub Apart : List Given → Type 0
Apart [] = Unit {0}
Apart (g ∷ gs) = (found gs g.parameter ≡ None) × Apart gs

-- the form of a request, by its name and, for a control request, by its operation
pub data Formed : Name → Option (List ℕ) → Form → Type 0 where
  creates : {op : Option (List ℕ)} → Formed CreateSession op Create
  binds : {op : Option (List ℕ)} → Formed BindSession op Bind
  adds : Formed Control (Some (codes "add")) Add
  deletes : Formed Control (Some (codes "delete")) Delete
  rebinds : Formed Control (Some (codes "force_rebind")) ForceRebind

-- a number from 1 up, of any size
pub record Numeral (ds : List ℕ) : Type 0 where
  pub first : ℕ
  pub more : List ℕ
  pub is : ds ≡ first ∷ more
  pub no_zero : nat_eq first 48 ≡ false
  pub digits : AllByRecursion (λ b. is_digit b ≡ true) ds

-- the values that a parameter takes in a request for this session
abbrev pub Right : ℕ → Parameter → List ℕ → Type 0
Right session Cid t = Unit {0}
Right session User t = Unit {0}
Right session Password t = Unit {0}
Right session Session t = t ≡ session_name session
Right session RequestId t = (1 ≤ length t) × (length t ≤ request_id_limit)
    × AllByRecursion (λ b. is_alphanumeric b ≡ true) t
Right session Operation t = Unit {0}
Right session SubscriptionId t = (n : ℕ) × (t ≡ decimal n) × (1 ≤ n) × (n ≤ id_limit)
Right session Group t = (ds : List ℕ) × (t ≡ 116 ∷ ds) × Numeral ds
Right session Schema t = t ≡ codes "all"
Right session Mode t = t ≡ codes "MERGE"
Right session Snapshot t = t ≡ codes "true"

-- bytes ask for q: a name, CR LF, and pairs in any order, joined by `&`, with just the parameters
-- of the request's form
pub record Asks (session : ℕ) (s : List ℕ) (q : Request) : Type 0 where
  pub name : Name
  pub form : Form
  pub pairs : List Given
  pub short : length s ≤ request_limit
  pub whole : s ≡ name_word name ++ (13 ∷ 10 ∷ joined_by 38 (map spelling pairs))
  pub sound : AllByRecursion Readable pairs
  pub apart : Apart pairs
  pub formed : Formed name (found pairs Operation) form
  pub all : AllByRecursion (λ p. is_some (found pairs p) ≡ true) (needs form)
  pub only : AllByRecursion (λ g. is_in g.parameter (takes form) ≡ true) pairs
  pub right : AllByRecursion (λ p. Right session p (unwrap_or (found pairs p) [])) (needs form)
  pub is : q ≡ request_of (found pairs) form

-- the reader accepts exactly the bytes that ask for a request, and takes them for it
abbrev pub ReadsAsked : Type 0
ReadsAsked = (session : ℕ) (s : List ℕ) (q : Request)
    → (read_request session s ≡ Ok q → Asks session s q)
    × (Asks session s q → read_request session s ≡ Ok q)
