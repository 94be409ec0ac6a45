-- Value lists: what a list of values says of a row, and how a delta is written as one.
use Rattle.std.specs.Prelude.{◌≡◌, ℕ, suc, ◌+◌, ◌-◌, ◌*◌, ◌<◌, ◌≤◌, Bool, true, false, cond, ◌&&◌}
use Rattle.std.specs.Prelude.{List, [], ◌∷◌, ◌++◌, length, replicate, Some, None, Ok, Err, decimal}
use Rattle.std.specs.Prelude.{Option, Result, ◌==◌, nat_le}
use Rattle.std.specs.List.{AllByRecursion}
use Rattle.row.specs.Limits.{field_limit, text_limit}
use Rattle.row.specs.Rows.{Change, same, becomes, null, value}
use Rattle.row.specs.Faults.{moved, refusal}
use Rattle.row.specs.declared.fault.Fault.TheVariants.{Escape, Number, Cover, Value}
use Rattle.row.specs.declared.fault.Refusal.{Refusal}
use Rattle.tlcp.specs.Escapes.{decoded, Decodes, encode}
use Rattle.tlcp.specs.Numbers.{read_number}
use Rattle.tlcp.specs.Parts.{divided_by, each_behind, has, is_nil, joined_by, NoneHas}

-- the values of a list: what stands between its pipes
abbrev pub values : List ℕ → List (List ℕ)
values = divided_by 124

-- what one value says: n fields same, or one change
pub data Meant : Type 0 where
  sames : ℕ → Meant
  one : Change → Meant

abbrev pub read_text : (List ℕ → Bool) → List ℕ → Result Meant Refusal
read_text allowed t = cond (allowed t) (Ok (one (becomes (value t)))) (Err (refusal Value 0))

abbrev pub text_or : (List ℕ → Bool) → List ℕ → Option ℕ → Result Meant Refusal
text_or allowed t None = read_text allowed t
text_or allowed t (Some at) = Err (refusal Escape at)

abbrev pub read_content : (List ℕ → Bool) → List ℕ → Result Meant Refusal
read_content allowed v = text_or allowed (decoded v).bytes (decoded v).fault

abbrev pub caret_or : Option ℕ → Result Meant Refusal
caret_or None = Err (refusal Number 0)
caret_or (Some n) = Ok (sames n)

-- one value, with places counted from its first byte
abbrev pub read_value : (List ℕ → Bool) → List ℕ → Result Meant Refusal
read_value allowed [] = Ok (sames 1)
read_value allowed (b ∷ v) =
    let caret = caret_or (read_number 1 field_limit v) in
    let content = read_content allowed (b ∷ v) in
    let dollar = cond (b == 36 && is_nil v) (read_text allowed []) content in
    let hash = cond (b == 35 && is_nil v) (Ok (one (becomes null))) dollar in
    cond (b == 94) caret hash

-- d and then the rest, unless the rest is refused
abbrev pub ahead : {X : Type 0} → List X → Result (List X) Refusal → Result (List X) Refusal
ahead d (Ok e) = Ok (d ++ e)
ahead d (Err r) = Err r

abbrev pub uncovered : Refusal
uncovered = refusal Cover 0

-- how a value goes on: `left` fields were to be covered, and `rest n` says what the values behind
-- it make of n fields
abbrev pub take_meant : ℕ → ℕ → (ℕ → Result (List Change) Refusal) → Result Meant Refusal
    → Result (List Change) Refusal
take_meant left at rest (Err r) = Err (moved at r)
take_meant left at rest (Ok (sames n)) =
    let more = ahead (replicate n same) (rest (left - n)) in
    cond (nat_le n left) more (Err uncovered)
take_meant left at rest (Ok (one c)) = ahead (c ∷ []) (rest (left - 1))

-- what the values say of the fields that are left; the first value begins at the offset `at`
abbrev pub read_values : (List ℕ → Bool) → ℕ → ℕ → List (List ℕ) → Result (List Change) Refusal
read_values allowed at left [] = cond (left == 0) (Ok []) (Err uncovered)
read_values allowed at left (v ∷ vs) =
    let rest = λ (n : ℕ). read_values allowed (at + length v + 1) n vs in
    let some = take_meant left at rest (read_value allowed v) in
    cond (left == 0) (Err uncovered) some

-- a list for a row of so many fields
abbrev pub read_list : (List ℕ → Bool) → ℕ → List ℕ → Result (List Change) Refusal
read_list allowed fields s =
    let all = read_values allowed 0 fields (values s) in
    cond (nat_le fields field_limit) all (Err uncovered)

-- which values mean which changes
pub data Means (allowed : List ℕ → Bool) : List ℕ → List Change → Type 0 where
  -- an empty value leaves one field as it was
  unchanged : Means allowed [] (same ∷ [])
  -- `^n` leaves n fields
  run : {n : ℕ} → 1 ≤ n → n ≤ field_limit → Means allowed (94 ∷ decimal n) (replicate n same)
  -- `#` alone
  nothing : Means allowed (35 ∷ []) (becomes null ∷ [])
  -- `$` alone
  empty : allowed [] ≡ true → Means allowed (36 ∷ []) (becomes (value []) ∷ [])
  -- any other value that does not begin with a caret
  content : {b : ℕ} {v t : List ℕ} → (b == 94) ≡ false → (b == 35 && is_nil v) ≡ false
      → (b == 36 && is_nil v) ≡ false → Decodes (b ∷ v) t → allowed t ≡ true
      → Means allowed (b ∷ v) (becomes (value t) ∷ [])

-- values side by side
pub data Row (allowed : List ℕ → Bool) : List (List ℕ) → List Change → Type 0 where
  done : Row allowed [] []
  next : {v : List ℕ} {vs : List (List ℕ)} {d e : List Change} → Means allowed v d
      → Row allowed vs e → Row allowed (v ∷ vs) (d ++ e)

-- values with a pipe before each
abbrev pub each_piped : List (List ℕ) → List ℕ
each_piped = each_behind 124

-- values with pipes between them
abbrev pub piped : List (List ℕ) → List ℕ
piped = joined_by 124

abbrev pub has_pipe : List ℕ → Bool
has_pipe = has 124

abbrev pub NoPipes : List (List ℕ) → Type 0
NoPipes = NoneHas 124

-- a list spells a delta: it is values without pipes, divided by pipes, at least one, that mean the
-- delta
pub record Spells (allowed : List ℕ → Bool) (s : List ℕ) (d : List Change) : Type 0 where
  pub parts : List (List ℕ)
  pub some : 1 ≤ length parts
  pub apart : NoPipes parts
  pub whole : s ≡ piped parts
  pub means : Row allowed parts d

-- the reader accepts exactly the lists that spell a delta of the row's fields, and takes each for
-- that delta
abbrev pub ReadsLists : Type 0
ReadsLists =
    (allowed : List ℕ → Bool) (fields : ℕ) (s : List ℕ) (d : List Change) → fields ≤ field_limit
    → (read_list allowed fields s ≡ Ok d → Spells allowed s d × (length d ≡ fields))
    × (Spells allowed s d → length d ≡ fields → read_list allowed fields s ≡ Ok d)

-- how a run of same is written: up to three empty values, or one caret
abbrev pub run_values : ℕ → List (List ℕ)
run_values n = cond (nat_le n 3) (replicate n []) ((94 ∷ decimal n) ∷ [])

-- how a text is written
abbrev pub text_value : List ℕ → List ℕ
text_value [] = 36 ∷ []
text_value (b ∷ t) = encode (b ∷ t)

-- the values of a delta, behind a run of n same
abbrev pub written_values : ℕ → List Change → List (List ℕ)
written_values n [] = run_values n
written_values n (same ∷ d) = written_values (suc n) d
written_values n (becomes null ∷ d) = run_values n ++ ((35 ∷ []) ∷ written_values 0 d)
written_values n (becomes (value t) ∷ d) = run_values n ++ (text_value t ∷ written_values 0 d)

abbrev pub written_list : List Change → List ℕ
written_list d = piped (written_values 0 d)

abbrev pub Allowed : (List ℕ → Bool) → Change → Type 0
Allowed allowed same = Unit {0}
Allowed allowed (becomes null) = Unit {0}
Allowed allowed (becomes (value t)) = allowed t ≡ true

-- reading what was written gives the same delta
abbrev pub ReadsWritten : Type 0
ReadsWritten =
    (allowed : List ℕ → Bool) → ((t : List ℕ) → allowed t ≡ true → AllByRecursion (λ b. b < 256) t)
    → (d : List Change) → 1 ≤ length d → length d ≤ field_limit → AllByRecursion (Allowed allowed) d
    → read_list allowed (length d) (written_list d) ≡ Ok d

-- a list is short: for each field at most a pipe and a text whose bytes are all escaped
abbrev pub WrittenShort : Type 0
WrittenShort =
    (allowed : List ℕ → Bool) → ((t : List ℕ) → allowed t ≡ true → length t ≤ text_limit)
    → (d : List Change) → 1 ≤ length d → length d ≤ field_limit → AllByRecursion (Allowed allowed) d
    → length (written_list d) + 1 ≤ (3 * text_limit + 1) * length d
