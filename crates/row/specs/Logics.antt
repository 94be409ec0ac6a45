-- The logic kind: a value is 1 to `text_limit` bits, each low, high, unknown or floating.
use Rattle.std.specs.Prelude.{ℕ, zero, suc, ◌/◌, ◌%◌, ◌^◌, Bool, cond, ◌&&◌, ◌||◌, List, [], ◌∷◌}
use Rattle.std.specs.Prelude.{map, length, ◌==◌, nat_le, nat_lt}
use Rattle.std.specs.Int.Digits.{number_from_digits}
use Rattle.row.specs.Limits.{text_limit}
use Rattle.row.specs.Kinds.{Kind}
use Rattle.row.specs.Texts.{every}
use Rattle.row.specs.declared.logic.LogicRecord.{LogicRecord}

-- the character `0`
abbrev pub low : ℕ
low = 48

-- the character `1`
abbrev pub high : ℕ
high = 49

-- the character `x`
abbrev pub unknown : ℕ
unknown = 120

-- the character `z`
abbrev pub floating : ℕ
floating = 122

abbrev pub is_logic : ℕ → Bool
is_logic c = c == low || (c == high || (c == unknown || c == floating))

-- a character's bit in the word a
abbrev pub bit_a : ℕ → ℕ
bit_a c = cond (c == high || c == unknown) 1 0

-- a character's bit in the word b
abbrev pub bit_b : ℕ → ℕ
bit_b c = cond (c == unknown || c == floating) 1 0

-- the character that has these bits
abbrev pub char_of : ℕ → ℕ → ℕ
char_of a b = cond (a == 0) (cond (b == 0) low floating) (cond (b == 0) high unknown)

-- the bit of a word at a place
abbrev pub bit_at : ℕ → ℕ → ℕ
bit_at word place = word / 2 ^ place % 2

-- the characters of the w lowest bits of the words a and b, the highest first
abbrev pub chars_of : ℕ → ℕ → ℕ → List ℕ
chars_of zero a b = []
chars_of (suc w) a b = char_of (bit_at a w) (bit_at b w) ∷ chars_of w a b

-- a number of characters that is a width
abbrev pub is_width : ℕ → Bool
is_width w = nat_le 1 w && nat_le w text_limit

abbrev pub logic_allowed : List ℕ → Bool
logic_allowed t = is_width (length t) && every is_logic t

-- a record that holds a logic value: a width within its limits, and no bit at or above it
abbrev pub logic_sound : LogicRecord → Bool
logic_sound r = is_width r.width && (nat_lt r.a (2 ^ r.width) && nat_lt r.b (2 ^ r.width))

-- the text of a record; one that is not sound means a low bit
abbrev pub logic_text : LogicRecord → List ℕ
logic_text r = cond (logic_sound r) (chars_of r.width r.a r.b) (low ∷ [])

abbrev pub logic_record : List ℕ → LogicRecord
logic_record t =
    record {
      a = number_from_digits 2 (map bit_a t);
      b = number_from_digits 2 (map bit_b t);
      width = length t;
    }

abbrev pub logic_kind : Kind LogicRecord
logic_kind =
    record { allowed = logic_allowed; rest = low ∷ []; text = logic_text; raw = logic_record }
