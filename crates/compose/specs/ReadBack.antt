-- What is written is read back.
use Rattle.std.specs.Prelude.{◌≡◌, ℕ, ◌<◌, ◌≤◌, true, List, [], map, length, is_some, Ok, Option}
use Rattle.std.specs.Option.{unwrap_or}
use Rattle.std.specs.List.{AllByRecursion}
use Rattle.requests.specs.Asked.{found, Apart, Formed, Right}
use Rattle.requests.specs.Limits.{value_limit}
use Rattle.requests.specs.Names.{is_in, needs, takes}
use Rattle.requests.specs.Requests.{read_request, request_of}
use Rattle.requests.specs.declared.name.Form.{Form}
use Rattle.requests.specs.declared.name.Name.{Name}
use Rattle.requests.specs.declared.name.Parameter.{Parameter}
use Rattle.requests.specs.declared.name.Parameter.TheVariants.{Operation}
use Rattle.compose.specs.Written.{Assignment, given_by, written}

-- the value of a parameter, if there is a pair of it
abbrev pub value_in : List Assignment → Parameter → Option (List ℕ)
value_in xs = found (map given_by xs)

-- values as the writer takes them, no parameter twice, and just what a form has in a request for
-- this session
pub record Keeps (session : ℕ) (name : Name) (form : Form) (xs : List Assignment) : Type 0 where
  pub bytes : AllByRecursion (λ x. AllByRecursion (λ b. b < 256) x.value) xs
  pub short : AllByRecursion (λ x. length x.value ≤ value_limit) xs
  pub apart : Apart (map given_by xs)
  pub formed : Formed name (value_in xs Operation) form
  pub all : AllByRecursion (λ p. is_some (value_in xs p) ≡ true) (needs form)
  pub only : AllByRecursion (λ x. is_in x.parameter (takes form) ≡ true) xs
  pub right : AllByRecursion (λ p. Right session p (unwrap_or (value_in xs p) [])) (needs form)

-- the reader takes a written request that keeps the rules for what its pairs ask for
abbrev pub ReadsBack : Type 0
ReadsBack = (session : ℕ) (name : Name) (form : Form) (xs : List Assignment)
    → Keeps session name form xs
    → read_request session (written name xs) ≡ Ok (request_of (value_in xs) form)
