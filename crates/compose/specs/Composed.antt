-- A whole request, composed or refused.
use Rattle.std.specs.Prelude.{◌≡◌, ℕ, Bool, true, cond, ◌&&◌, List, [], ◌∷◌, map, length, replicate}
use Rattle.std.specs.Prelude.{Ok, Err, Result, nat_le}
use Rattle.std.specs.List.{AllByRecursion}
use Rattle.row.specs.declared.fault.Refusal.{Refusal}
use Rattle.tlcp.specs.Lines.{and_then}
use Rattle.tlcp.specs.Written.{fits, no_room}
use Rattle.requests.specs.Asked.{Apart}
use Rattle.requests.specs.Limits.{value_limit}
use Rattle.requests.specs.Names.{is_in, parameters_of}
use Rattle.requests.specs.declared.name.Name.{Name}
use Rattle.compose.specs.Drafts.{Draft, add_answer, add_to, begin, bytes_or, ending, length_or}
use Rattle.compose.specs.Held.{finish_answer, finish_bytes}
use Rattle.compose.specs.Written.{Assignment, given_by, head_text, written}

abbrev pub are_short : List Assignment → Bool
are_short [] = true
are_short (x ∷ xs) = nat_le (length x.value) value_limit && are_short xs

-- the values are within their limit, and the request within the bytes
abbrev pub composes : Name → List Assignment → List ℕ → Bool
composes name xs out = are_short xs && fits 0 (written name xs) out

-- 16 for want of room, and then 6 where there is no pair
abbrev pub compose_answer : Name → List Assignment → List ℕ → Result ℕ Refusal
compose_answer name xs out = cond (composes name xs out) (finish_answer name xs) (Err no_room)

-- a request that is left half-made leaves zeros, and bytes too few for its name stay as they were
abbrev pub zeroed_or : Name → List ℕ → List ℕ
zeroed_or name out = cond (fits 0 (head_text name) out) (replicate (length out) 0) out

-- what is left in the bytes
abbrev pub composed_or : Name → List Assignment → List ℕ → List ℕ
composed_or name xs out =
    cond (composes name xs out) (finish_bytes name xs (length out)) (zeroed_or name out)

-- the pairs added one after another
abbrev pub add_all : Draft → List Assignment → Result Draft Refusal
add_all d [] = Ok d
add_all d (x ∷ xs) = and_then (add_answer d x) (λ _. add_all (add_to d x) xs)

-- a request begun in some bytes, the pairs added, and the request finished
abbrev pub composing : Name → List Assignment → List ℕ → Result Draft Refusal
composing name xs out = and_then (add_all (begin name out) xs) ending

-- where the pairs are of the name and none of them stands twice, only whether there is one, the
-- values' lengths and the room decide
abbrev pub ComposesAll : Type 0
ComposesAll =
    (name : Name) (xs : List Assignment) (out : List ℕ)
    → AllByRecursion (λ x. is_in x.parameter (parameters_of name) ≡ true) xs
    → Apart (map given_by xs)
    → (length_or (composing name xs out) ≡ compose_answer name xs out)
    × (bytes_or (zeroed_or name out) (composing name xs out) ≡ composed_or name xs out)
