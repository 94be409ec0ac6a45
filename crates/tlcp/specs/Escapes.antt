-- Escapes: `%` and two hexadecimal digits stand for one byte.
use Rattle.std.specs.Prelude.{◌≡◌, ℕ, ◌+◌, ◌-◌, ◌*◌, ◌/◌, ◌%◌, Bool, true, false, cond, ◌&&◌, List}
use Rattle.std.specs.Prelude.{[], ◌∷◌, ◌++◌, length, take, drop, Some, None, Ok, Err, Option}
use Rattle.std.specs.Prelude.{Result, ◌==◌, nat_le, slice_index}
use Rattle.row.specs.declared.fault.Fault.TheVariants.{Escape}
use Rattle.row.specs.declared.fault.Refusal.{Refusal}
use Rattle.row.specs.Faults.{refusal}
use Rattle.tlcp.specs.Parts.{is_nil}
use Rattle.tlcp.specs.Bytes.{is_digit, is_hex, is_escaped, is_escaped_first}

abbrev pub hex_value : ℕ → ℕ
hex_value b = cond (is_digit b) (b - 48) (cond (nat_le b 70) (b - 55) (b - 87))

-- the bytes up to the end or the first fault, and the place of that fault, a `%` without two
-- hexadecimal digits
pub record Decoded : Type 0 where
  pub bytes : List ℕ
  pub fault : Option ℕ

abbrev pub onto : List ℕ → Decoded → Decoded
onto t d = record { bytes = t ++ d.bytes; fault = d.fault }

abbrev pub stopped : ℕ → Decoded
stopped at = record { bytes = []; fault = Some at }

abbrev pub decode_at : ℕ → List ℕ → Decoded
decode_at at [] = record { bytes = []; fault = None }
decode_at at (b ∷ []) = cond (b == 37) (stopped at) (record { bytes = b ∷ []; fault = None })
decode_at at (b ∷ h ∷ []) =
    let plain = onto (b ∷ []) (decode_at (at + 1) (h ∷ [])) in cond (b == 37) (stopped at) plain
decode_at at (b ∷ h ∷ l ∷ s) =
    let plain = onto (b ∷ []) (decode_at (at + 1) (h ∷ l ∷ s)) in
    let escape = onto ((16 * hex_value h + hex_value l) ∷ []) (decode_at (at + 3) s) in
    let hex = cond (is_hex h && is_hex l) escape (stopped at) in
    cond (b == 37) hex plain

abbrev pub decoded : List ℕ → Decoded
decoded s = decode_at 0 s

-- the byte that the front of s stands for, and what is left behind it
abbrev pub unit_of : List ℕ → Option (ℕ × List ℕ)
unit_of s =
    cond (is_nil s) None
    (cond (slice_index s 0 == 37)
    (cond (nat_le 3 (length s) && (is_hex (slice_index s 1) && is_hex (slice_index s 2)))
    (Some (16 * hex_value (slice_index s 1) + hex_value (slice_index s 2), drop 3 s)) None)
    (Some (slice_index s 0, drop 1 s)))

-- how many bytes there are, or the place of the fault
abbrev pub count_or : ℕ → Option ℕ → Result ℕ Refusal
count_or n None = Ok n
count_or n (Some at) = Err (refusal Escape at)

abbrev pub decode_answer : Decoded → Result ℕ Refusal
decode_answer d = count_or (length d.bytes) d.fault

-- as much of t as xs has places for, in front of what stood behind those
abbrev pub overlaid : List ℕ → List ℕ → List ℕ
overlaid t xs = take (length xs) t ++ drop (length t) xs

-- the same relation in the subject's words: s is t with some bytes escaped
pub data Decodes : List ℕ → List ℕ → Type 0 where
  nothing : Decodes [] []
  plain : {b : ℕ} {s t : List ℕ} → (b == 37) ≡ false → Decodes s t → Decodes (b ∷ s) (b ∷ t)
  escape : {h l : ℕ} {s t : List ℕ} → is_hex h ≡ true → is_hex l ≡ true → Decodes s t
      → Decodes (37 ∷ h ∷ l ∷ s) ((16 * hex_value h + hex_value l) ∷ t)

-- decoding comes to the end exactly where s is t with some bytes escaped
abbrev pub ReadsEscapes : Type 0
ReadsEscapes =
    (s t : List ℕ)
    → (decoded s ≡ record { bytes = t; fault = None } → Decodes s t)
    × (Decodes s t → decoded s ≡ record { bytes = t; fault = None })

-- the capital hexadecimal digit of a number below 16
abbrev pub hex_digit : ℕ → ℕ
hex_digit n = cond (nat_le n 9) (48 + n) (55 + n)

abbrev pub escaped : ℕ → List ℕ
escaped b = 37 ∷ hex_digit (b / 16) ∷ hex_digit (b % 16) ∷ []

abbrev pub spelled : Bool → ℕ → List ℕ
spelled true b = escaped b
spelled false b = b ∷ []

-- a text with the bytes that p says escaped
abbrev pub encoded_by : (ℕ → Bool) → List ℕ → List ℕ
encoded_by p [] = []
encoded_by p (b ∷ t) = spelled (p b) b ++ encoded_by p t

abbrev pub encode_rest : List ℕ → List ℕ
encode_rest = encoded_by is_escaped

-- a text as content: its first byte is escaped in more cases than the others
abbrev pub encode : List ℕ → List ℕ
encode [] = []
encode (b ∷ t) = spelled (is_escaped_first b) b ++ encode_rest t
