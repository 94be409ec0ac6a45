-- What is given for the arguments of a line, and the line that says it.
use Rattle.std.specs.Prelude.{ℕ, Bool, true, false, ◌&&◌, List, [], ◌∷◌, ◌++◌, ℤ, decimal, nat_le}
use Rattle.std.specs.Prelude.{unsigned_abs}
use Rattle.std.specs.List.{flat_map}
use Rattle.std.specs.Fmt.{signed_decimal}
use Rattle.row.specs.Rows.{Change}
use Rattle.tlcp.specs.Bytes.{is_escaped}
use Rattle.tlcp.specs.Escapes.{encoded_by}
use Rattle.tlcp.specs.Limits.{code_limit}
use Rattle.tlcp.specs.Lists.{written_list}
use Rattle.tlcp.specs.Lines as lines
use Rattle.tlcp.specs.Lines.{Sort, sorts, word}
use Rattle.tlcp.specs.declared.tag.Tag.{Tag}
use Rattle.tlcp.specs.declared.tag.Tag.TheVariants as t
use Rattle.notify.specs.declared.message.Message.{Message}
use Rattle.notify.specs.declared.message.Message.TheVariants as m

-- a text is given by the bytes that it means, a value list by the changes
pub data Given : Type 0 where
  number : ℕ → Given
  code : ℤ → Given
  text : List ℕ → Given
  list : List Change → Given

-- a tag, and what is given for its arguments
pub record Saying : Type 0 where
  pub tag : Tag
  pub given : List Given

abbrev pub saying : Tag → List Given → Saying
saying t gs = record { tag = t; given = gs }

-- the item, or how many items there are
abbrev pub one_item : Given
one_item = number 1

abbrev pub saying_of : Message → Saying
saying_of m.Probe = saying t.Probe []
saying_of (m.Sync n) = saying t.Sync (number n ∷ [])
saying_of (m.Loop n) = saying t.Loop (number n ∷ [])
saying_of (m.Cons s) = saying t.Cons (text s.now ∷ [])
saying_of (m.Servname s) = saying t.Servname (text s.now ∷ [])
saying_of (m.Clientip s) = saying t.Clientip (text s.now ∷ [])
saying_of (m.Reqok s) = saying t.Reqok (text s.now ∷ [])
saying_of (m.Unsub id) = saying t.Unsub (number id ∷ [])
saying_of (m.Conerr c s) = saying t.Conerr (code c ∷ text s.now ∷ [])
saying_of (m.End c s) = saying t.End (code c ∷ text s.now ∷ [])
saying_of (m.Error c s) = saying t.Error (code c ∷ text s.now ∷ [])
saying_of (m.Eos id) = saying t.Eos (number id ∷ one_item ∷ [])
saying_of (m.Subok id fields) = saying t.Subok (number id ∷ one_item ∷ number fields ∷ [])
saying_of (m.Ov id lost) = saying t.Ov (number id ∷ one_item ∷ number lost ∷ [])
saying_of (m.Conf id frequency filter) =
    saying t.Conf (number id ∷ text frequency.now ∷ text filter.now ∷ [])
saying_of (m.Reqerr request c s) = saying t.Reqerr (text request.now ∷ code c ∷ text s.now ∷ [])
saying_of (m.Conok session limit keepalive link) =
    saying t.Conok (text session.now ∷ number limit ∷ number keepalive ∷ text link.now ∷ [])

-- what is given is of a sort, and a number or code is within its limits
abbrev pub is_within : Sort → Given → Bool
is_within (lines.number low high) (number n) = nat_le low n && nat_le n high
is_within (lines.number low high) (code z) = false
is_within (lines.number low high) (text s) = false
is_within (lines.number low high) (list d) = false
is_within lines.code (number n) = false
is_within lines.code (code z) = nat_le (unsigned_abs z) code_limit
is_within lines.code (text s) = false
is_within lines.code (list d) = false
is_within lines.text (number n) = false
is_within lines.text (code z) = false
is_within lines.text (text s) = true
is_within lines.text (list d) = false
is_within lines.list (number n) = false
is_within lines.list (code z) = false
is_within lines.list (text s) = false
is_within lines.list (list d) = true

abbrev pub all_within : List Sort → List Given → Bool
all_within [] [] = true
all_within [] (g ∷ gs) = false
all_within (k ∷ ks) [] = false
all_within (k ∷ ks) (g ∷ gs) = is_within k g && all_within ks gs

abbrev pub within : Saying → Bool
within s = all_within (sorts s.tag) s.given

-- how it is written
abbrev pub spell : Given → List ℕ
spell (number n) = decimal n
spell (code z) = signed_decimal z
spell (text s) = encoded_by is_escaped s
spell (list d) = written_list d

-- each argument behind a comma
abbrev pub argued : List Given → List ℕ
argued gs = flat_map (λ g. 44 ∷ spell g) gs

abbrev pub line_text : Saying → List ℕ
line_text s = word s.tag ++ argued s.given
