-- What is known of every written line: how it is read back, that it is short, and that it holds no
-- line's end.
use Rattle.std.specs.Prelude.{◌≡◌, ℕ, ◌+◌, ◌<◌, ◌≤◌, true, false, List, [], ◌∷◌, length, Ok}
use Rattle.std.specs.List.{AllByRecursion}
use Rattle.row.specs.Kinds.{Kind}
use Rattle.row.specs.Limits.{field_limit}
use Rattle.row.specs.Rows as rows
use Rattle.row.specs.Rows.{same, becomes, null, value}
use Rattle.row.specs.declared.change.Change.{Change}
use Rattle.tlcp.specs.Escapes.{Decodes}
use Rattle.tlcp.specs.Dividing.{has}
use Rattle.tlcp.specs.Lists.{read_list, written_list}
use Rattle.tlcp.specs.Written.{changes_of, covers}
use Rattle.tlcp.specs.Limits.{line_limit}
use Rattle.tlcp.specs.Lines.{Argument, numbered, coded, worded, listed, Message, piece, read_line}
use Rattle.tlcp.specs.Lines.{word}
use Rattle.notify.specs.Given.{Given, number, code, text, list, Saying, spell, within, line_text}
use Rattle.notify.specs.Written.{update_of}

-- what the reader takes from the offset `at` on
abbrev pub argument : Given → ℕ → Argument
argument (number n) at = numbered (piece (spell (number n)) at) n
argument (code z) at = coded (piece (spell (code z)) at) z
argument (text t) at = worded (piece (spell (text t)) at)
argument (list d) at = listed (piece (spell (list d)) at)

-- each behind a comma, the first comma at the offset `at`
abbrev pub arguments : ℕ → List Given → List Argument
arguments at [] = []
arguments at (g ∷ gs) = argument g (at + 1) ∷ arguments (at + (length (spell g) + 1)) gs

-- the message that the reader takes the line for
abbrev pub laid : Saying → Message
laid s = record {
  tag = s.tag;
  name = piece (word s.tag) 0;
  args = arguments (length (word s.tag)) s.given;
}

abbrev pub Bytes : List ℕ → Type 0
Bytes t = AllByRecursion (λ b. b < 256) t

abbrev pub BytesIn : rows.Change → Type 0
BytesIn same = Unit {0}
BytesIn (becomes null) = Unit {0}
BytesIn (becomes (value t)) = Bytes t

-- what memory gives: texts are bytes, and a delta is of a row
abbrev pub FromMemory : Given → Type 0
FromMemory (number n) = Unit {0}
FromMemory (code z) = Unit {0}
FromMemory (text t) = Bytes t
FromMemory (list d) = (length d ≤ field_limit) × AllByRecursion BytesIn d

-- a text stands for the bytes that were given
abbrev pub StandsFor : Given → Type 0
StandsFor (number n) = Unit {0}
StandsFor (code z) = Unit {0}
StandsFor (text t) = Decodes (spell (text t)) t
StandsFor (list d) = Unit {0}

-- its numbers are within their limits, and its line is no longer than a line may be
pub record Accepted (s : Saying) : Type 0 where
  pub numbers : within s ≡ true
  pub short : length (line_text s) ≤ line_limit

-- the line is read as what was given
pub record Reads (s : Saying) : Type 0 where
  pub line : read_line (line_text s) ≡ Ok (laid s)
  pub texts : AllByRecursion StandsFor s.given

abbrev pub LineBack : Saying → Type 0
LineBack s = Accepted s → Reads s

-- neither CR nor LF stands in it
abbrev pub Unbroken : List ℕ → Type 0
Unbroken s = (has 13 s ≡ false) × (has 10 s ≡ false)

abbrev pub LineUnbroken : Saying → Type 0
LineUnbroken s = Accepted s → Unbroken (line_text s)

module _ {R : Type 0} (k : Kind R) where
  -- the update is one that is written
  pub record Update (id : ℕ) (delta : List (Change R)) (fields : ℕ) : Type 0 where
    pub whole : length delta ≡ field_limit
    pub id-within : within (update_of k id delta fields) ≡ true
    pub fields_within : covers fields ≡ true

  -- its line is read as that update, and its list as the changes of the fields
  abbrev pub UpdateBack : ℕ → List (Change R) → ℕ → Type 0
  UpdateBack id delta fields =
      let d = changes_of k delta fields in
      Update id delta fields
      → Reads (update_of k id delta fields)
      × (read_list k.allowed fields (written_list d) ≡ Ok d)

  abbrev pub UpdateShort : ℕ → List (Change R) → ℕ → Type 0
  UpdateShort id delta fields =
      Update id delta fields → length (line_text (update_of k id delta fields)) ≤ line_limit

  abbrev pub UpdateUnbroken : ℕ → List (Change R) → ℕ → Type 0
  UpdateUnbroken id delta fields =
      Update id delta fields → Unbroken (line_text (update_of k id delta fields))
