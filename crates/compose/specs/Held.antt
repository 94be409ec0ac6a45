-- Which pairs the bytes of a request hold.
use Rattle.std.specs.Prelude.{◌≡◌, ℕ, ◌≤◌, Bool, true, false, List, [], ◌∷◌, ◌++◌, map, length}
use Rattle.std.specs.Prelude.{replicate, is_some, Ok, Err, Result, slice_index_or}
use Rattle.std.specs.List.{AllByRecursion}
use Rattle.row.specs.Texts.{padded}
use Rattle.row.specs.declared.fault.Refusal.{Refusal}
use Rattle.requests.specs.Asked.{found, Apart}
use Rattle.requests.specs.Limits.{request_limit, value_limit}
use Rattle.requests.specs.Names.{index_of, is_in, parameter_count, parameters_of}
use Rattle.requests.specs.declared.name.Name.{Name}
use Rattle.requests.specs.declared.name.Parameter.{Parameter}
use Rattle.compose.specs.Written.{Assignment, given_by, written}
use Rattle.compose.specs.Drafts.{Draft, bad_part}

-- pairs as a writer takes them: parameters of the name, none of them twice, and values within
-- their limit
pub record Writable (name : Name) (xs : List Assignment) : Type 0 where
  pub known : AllByRecursion (λ x. is_in x.parameter (parameters_of name) ≡ true) xs
  pub apart : Apart (map given_by xs)
  pub short : AllByRecursion (λ x. length x.value ≤ value_limit) xs

-- a length and marks that are those of these pairs: just their parameters were added
pub record Tally (name : Name) (len : ℕ) (given : List Bool) (xs : List Assignment) : Type 0 where
  pub size : len ≡ length (written name xs)
  pub places : length given ≡ parameter_count
  pub added : (p : Parameter)
      → slice_index_or given (index_of p) false ≡ is_some (found (map given_by xs) p)
  pub fit : Writable name xs

-- a draft with these pairs, and zeros behind them
pub record Holds (d : Draft) (xs : List Assignment) : Type 0 where
  pub begun : d.begun ≡ true
  pub unkept : d.kept ≡ false
  pub text : d.bytes ≡ padded (length d.bytes) (written d.name xs)
  pub tally : Tally d.name d.len d.given xs

-- the pairs behind a call that was answered so
abbrev pub pairs_after : Result (Unit {0}) Refusal → List Assignment → Assignment → List Assignment
pairs_after (Ok done) xs x = xs ++ x ∷ []
pairs_after (Err e) xs x = xs

-- a, where there is no pair, and otherwise b
abbrev pub none_or : {A : Type 0} → List Assignment → A → A → A
none_or [] a b = a
none_or (x ∷ xs) a b = b

-- a request with these pairs is finished with its length, and one with no pair is refused with 6
abbrev pub finish_answer : Name → List Assignment → Result ℕ Refusal
finish_answer name xs = none_or xs (Err bad_part) (Ok (length (written name xs)))

-- it then stands in the n bytes before zeros, and one with no pair leaves only zeros
abbrev pub finish_bytes : Name → List Assignment → ℕ → List ℕ
finish_bytes name xs n = none_or xs (replicate n 0) (padded n (written name xs))

-- what is written is never longer than a request may be
abbrev pub WithinLimit : Type 0
WithinLimit =
    (name : Name) (xs : List Assignment) → Writable name xs → length (written name xs)
    ≤ request_limit
