-- The classes of bytes.
use Rattle.std.specs.Prelude.{ℕ, Bool, not, ◌&&◌, ◌||◌, ◌==◌, nat_le}
use Rattle.tlcp.specs.declared.class.Class.{Class}
use Rattle.tlcp.specs.declared.class.Class.TheVariants.{Digit, Hex, Escaped, EscapedFirst, Reserved}
use Rattle.tlcp.specs.declared.class.Class.TheVariants.{Alphanumeric, Plain}

-- the bit of a class in the table's entries
abbrev pub bit_of : Class → ℕ
bit_of Digit = 1
bit_of Hex = 2
bit_of Escaped = 4
bit_of EscapedFirst = 8
bit_of Reserved = 16
bit_of Alphanumeric = 32
bit_of Plain = 64

abbrev pub inside : ℕ → ℕ → ℕ → Bool
inside low high b = nat_le low b && nat_le b high

abbrev pub is_digit : ℕ → Bool
is_digit b = inside 48 57 b

-- a hexadecimal digit of either case
abbrev pub is_hex : ℕ → Bool
is_hex b = is_digit b || (inside 65 70 b || inside 97 102 b)

-- control bytes, `%`, `,`, `|`, and all from 7F on
abbrev pub is_escaped : ℕ → Bool
is_escaped b = nat_le b 31 || (b == 37 || (b == 44 || (b == 124 || nat_le 127 b)))

-- as a value's first byte also `#`, `$` and `^`
abbrev pub is_escaped_first : ℕ → Bool
is_escaped_first b = is_escaped b || (b == 35 || (b == 36 || b == 94))

-- a letter or a digit
abbrev pub is_alphanumeric : ℕ → Bool
is_alphanumeric b = is_digit b || (inside 65 90 b || inside 97 122 b)

-- what a URI holds as it stands: letters, digits, `-`, `.`, `_` and `~`
abbrev pub is_unreserved : ℕ → Bool
is_unreserved b = is_alphanumeric b || (b == 45 || (b == 46 || (b == 95 || b == 126)))

abbrev pub is_reserved : ℕ → Bool
is_reserved b = not (is_unreserved b)

-- what stands in a request's value: an unreserved byte, or the `%` of an escape
abbrev pub is_plain : ℕ → Bool
is_plain b = b == 37 || is_unreserved b

abbrev pub in_class : Class → ℕ → Bool
in_class Digit b = is_digit b
in_class Hex b = is_hex b
in_class Escaped b = is_escaped b
in_class EscapedFirst b = is_escaped_first b
in_class Reserved b = is_reserved b
in_class Alphanumeric b = is_alphanumeric b
in_class Plain b = is_plain b
