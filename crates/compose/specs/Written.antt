-- Requests as they are written: a name, CR LF, and pairs joined by `&`.
use Rattle.std.specs.Prelude.{ℕ, Bool, cond, List, [], ◌∷◌, ◌++◌, map, length}
use Rattle.row.specs.Texts.{padded}
use Rattle.tlcp.specs.Bytes.{is_reserved}
use Rattle.tlcp.specs.Escapes.{encoded_by}
use Rattle.tlcp.specs.Dividing.{joined_by}
use Rattle.tlcp.specs.Written.{fits}
use Rattle.requests.specs.Asked.{Given, spelling}
use Rattle.requests.specs.Names.{name_word}
use Rattle.requests.specs.declared.name.Name.{Name}
use Rattle.requests.specs.declared.name.Parameter.{Parameter}

-- a pair: a parameter and its value
pub record Assignment : Type 0 where
  pub parameter : Parameter
  pub value : List ℕ

abbrev pub assign : Parameter → List ℕ → Assignment
assign p v = record { parameter = p; value = v }

-- what a pair gives in a request: all bytes of the value but the unreserved ones are escaped
abbrev pub given_by : Assignment → Given
given_by x =
    record { parameter = x.parameter; raw = encoded_by is_reserved x.value; text = x.value }

abbrev pub head_text : Name → List ℕ
head_text n = name_word n ++ (13 ∷ 10 ∷ [])

-- what stands before a pair: `&`, but nothing before the first
abbrev pub joint_text : Bool → List ℕ
joint_text first = cond first [] (38 ∷ [])

abbrev pub pair_text : Bool → Assignment → List ℕ
pair_text first x = joint_text first ++ spelling (given_by x)

-- t with zeros behind it in the place of xs, if t fits
abbrev pub padded_or : List ℕ → List ℕ → List ℕ
padded_or t xs = cond (fits 0 t xs) (padded (length xs) t) xs

abbrev pub written : Name → List Assignment → List ℕ
written n xs = head_text n ++ joined_by 38 (map spelling (map given_by xs))
