-- The text kind: a value is any text of at most `text_limit` bytes.
use Rattle.std.specs.Prelude.{ℕ, ◌-◌, Bool, cond, ◌&&◌, List, [], ◌++◌, length, take, drop}
use Rattle.std.specs.Prelude.{replicate, ◌==◌, nat_le, nat_lt}
use Rattle.std.specs.List.{list_all}
use Rattle.row.specs.Limits.{text_limit}
use Rattle.row.specs.Kinds.{Kind}
use Rattle.row.specs.declared.text.TextRecord.{TextRecord}

-- xs with zeros behind it, n places in all
abbrev pub padded : ℕ → List ℕ → List ℕ
padded n xs = xs ++ replicate (n - length xs) 0

-- the test p at each element
abbrev pub every : (ℕ → Bool) → List ℕ → Bool
every = list_all

abbrev pub is_byte : ℕ → Bool
is_byte b = nat_lt b 256

abbrev pub is_zero : ℕ → Bool
is_zero b = b == 0

abbrev pub text_allowed : List ℕ → Bool
text_allowed t = nat_le (length t) text_limit && every is_byte t

-- a record that holds a text: the length is within the limit, and what stands behind it is zero
abbrev pub text_sound : TextRecord → Bool
text_sound r =
    nat_le r.len text_limit && (every is_byte r.bytes && every is_zero (drop r.len r.bytes))

-- the same of a record that has as many bytes as memory gives it
abbrev pub text_whole : TextRecord → Bool
text_whole r = length r.bytes == text_limit && text_sound r

-- the text of a record; one that is not sound means the empty text
abbrev pub text_of : TextRecord → List ℕ
text_of r = cond (text_sound r) (take r.len r.bytes) []

abbrev pub text_record : List ℕ → TextRecord
text_record t = record { bytes = padded text_limit t; len = length t }

abbrev pub text_kind : Kind TextRecord
text_kind = record { allowed = text_allowed; rest = []; text = text_of; raw = text_record }
