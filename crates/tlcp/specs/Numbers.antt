-- Numbers in decimal, without sign or leading zero; codes, which may be negative.
use Rattle.std.specs.Prelude.{◌≡◌, ℕ, suc, ◌+◌, ◌-◌, ◌*◌, ◌^◌, ◌<◌, ◌≤◌, Bool, cond, ◌&&◌, ◌||◌}
use Rattle.std.specs.Prelude.{List, [], ◌∷◌, length, drop, ℤ, pos, negsuc, Some, None, decimal}
use Rattle.std.specs.Prelude.{Option, ◌==◌, nat_le, nat_lt, slice_index}
use Rattle.std.specs.Option.{option_map}
use Rattle.std.specs.Fmt.{signed_decimal}
use Rattle.tlcp.specs.Bytes.{is_digit}
use Rattle.tlcp.specs.Limits.{code_limit}
use Rattle.tlcp.specs.Parts.{is_nil}

-- the number that v and then the digits s write, if it is at most high
abbrev pub digits_from : ℕ → ℕ → List ℕ → Option ℕ
digits_from high v [] = Some v
digits_from high v (b ∷ s) =
    let more = digits_from high (v * 10 + (b - 48)) s in
    cond (is_digit b) (cond (nat_le (v * 10 + (b - 48)) high) more None) None

abbrev pub at_least : ℕ → Option ℕ → Option ℕ
at_least low None = None
at_least low (Some n) = cond (nat_le low n) (Some n) None

abbrev pub leading_zero : List ℕ → Bool
leading_zero s = nat_lt 1 (length s) && slice_index s 0 == 48

abbrev pub read_number : ℕ → ℕ → List ℕ → Option ℕ
read_number low high s =
    cond (is_nil s || leading_zero s) None (at_least low (digits_from high 0 s))

-- the number below zero with this magnitude, which is not 0
abbrev pub negated : ℕ → ℤ
negated n = negsuc (n - 1)

-- `-0` is no code
abbrev pub read_code : List ℕ → Option ℤ
read_code s =
    cond (slice_index s 0 == 45) (option_map negated (read_number 1 code_limit (drop 1 s)))
    (option_map pos (read_number 0 code_limit s))

-- a number is read exactly where its decimal text stands, and it is within the limits
abbrev pub ReadsDecimal : Type 0
ReadsDecimal =
    (low high n : ℕ) (s : List ℕ) → high < 2 ^ 64
    → (read_number low high s ≡ Some n → (s ≡ decimal n) × (low ≤ n) × (n ≤ high))
    × (s ≡ decimal n → low ≤ n → n ≤ high → read_number low high s ≡ Some n)

abbrev pub CodeWithin : ℤ → Type 0
CodeWithin (pos n) = n ≤ code_limit
CodeWithin (negsuc n) = suc n ≤ code_limit

-- the same of codes, with a minus before those below zero
abbrev pub ReadsSigned : Type 0
ReadsSigned =
    (z : ℤ) (s : List ℕ)
    → (read_code s ≡ Some z → (s ≡ signed_decimal z) × CodeWithin z)
    × (s ≡ signed_decimal z → CodeWithin z → read_code s ≡ Some z)
