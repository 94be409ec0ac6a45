-- The parts of a request writer, and what holds of them whatever was called.
use Rattle.std.specs.Prelude.{◌≡◌, ℕ, Bool, true, false, List, replicate, is_some, None, Some}
use Rattle.std.specs.Prelude.{Option}
use Rattle.requests.specs.Names.{parameter_count}
use Rattle.requests.specs.declared.name.Name.{Name}
use Rattle.compose.specs.Held.{Tally}
use Rattle.compose.specs.Written.{Assignment}
use Rattle.compose.specs.declared.request.Begun.{Begun}

-- where the name did not fit nothing is written
abbrev pub len_of : Option Begun → ℕ
len_of None = 0
len_of (Some b) = b.len

abbrev pub given_of : Option Begun → List Bool
given_of None = replicate parameter_count false
given_of (Some b) = b.given

-- the length and the marks of a request that is begun are those of some pairs
abbrev pub Made : Name → Option Begun → Type 0
Made name begun =
    is_some begun ≡ true
    → ∥ ((xs : List Assignment) × Tally name (len_of begun) (given_of begun) xs) ∥₁
