-- Texts with any bytes escaped: what they hold, how long they are, and that they are read back.
use Rattle.std.proofs.Common.{◌≡◌, ℕ, ◌+◌, ◌^◌, decimal, ◌/◌, ◌%◌, ◌<◌, Bool, true, false, eqb}
use Rattle.std.proofs.Common.{List, [], ◌∷◌, ◌++◌, sym, refl, ap, ◌∙◌, arith}
use Rattle.std.specs.List.{AllByRecursion}
use Rattle.std.proofs.lemmas.Fmt.{decimal_by_steps}
use Rattle.std.proofs.lemmas.Bool.Decides.{nat_tests}
use Rattle.std.proofs.lemmas.Bool.{both_ways, or_parts, or_from, ne_eqb}
use Rattle.tlcp.specs.Bytes.{is_hex, is_escaped, is_escaped_first}
use Rattle.tlcp.specs.Dividing.{has}
use Rattle.tlcp.specs.Escapes.{hex_digit, spelled, encoded_by, encode_rest, encode}
use Rattle.tlcp.proofs.Unescaped.{is-hex}

-- it is none of the bytes that are no digits
hex-other : (c n : ℕ) → is_hex c ≡ false → n < 16 → eqb (hex_digit n) c ≡ false
hex-other c n other h =
    ne_eqb (hex_digit n) c (λ e. both_ways (is_hex c) other (ap is_hex (sym e) ∙ is-hex n h))

pub has-append : (c : ℕ) (s t : List ℕ) → has c s ≡ false → has c t ≡ false → has c (s ++ t) ≡ false
has-append c [] t e f = f
has-append c (b ∷ s) t e f =
    let h = or_parts (eqb b c) (has c s) e in
    or_from (eqb b c) (has c (s ++ t)) h.0 (has-append c s t h.1 f)

-- a byte c that is no part of an escape
module _ (c : ℕ) (digit : is_hex c ≡ false) (percent : eqb 37 c ≡ false) where
  has-spelled :
      (v : Bool) (b : ℕ) → b < 256 → (v ≡ false → eqb b c ≡ false) → has c (spelled v b) ≡ false
  has-spelled false b small other = or_from (eqb b c) false (other refl) refl
  has-spelled true b small other =
      or_from (eqb 37 c) _ percent
      (or_from (eqb (hex_digit (b / 16)) c) _ (hex-other c (b / 16) digit (omega arith))
      (or_from (eqb (hex_digit (b % 16)) c) false (hex-other c (b % 16) digit (omega arith)) refl))

  pub has-decimal : (n : ℕ) → n < 2 ^ 64 → has c (decimal n) ≡ false
  has-decimal =
      decimal_by_steps (λ n ds. has c ds ≡ false) one
      (λ n ds many h. has-append c ds _ h (one _ (omega arith)))
    where
      one : (n : ℕ) → n < 10 → has c ((48 + n) ∷ []) ≡ false
      one n small = or_from (eqb (48 + n) c) false (grind (arith, nat_tests, digit)) refl

  -- it stands in no text that has it escaped; not so of numbers above 255: the first digit of 1104
  -- would be a pipe
  pub has-by :
      (p : ℕ → Bool) → ((b : ℕ) → p b ≡ false → eqb b c ≡ false) → (t : List ℕ)
      → AllByRecursion (λ b. b < 256) t → has c (encoded_by p t) ≡ false
  has-by p other [] h = refl
  has-by p other (b ∷ t) h =
      has-append c (spelled (p b) b) (encoded_by p t) (has-spelled (p b) b h.0 (other b)) (has-by p other t h.1)

  pub has-encode :
      ((b : ℕ) → is_escaped b ≡ false → eqb b c ≡ false) → (t : List ℕ)
      → AllByRecursion (λ b. b < 256) t → has c (encode t) ≡ false
  has-encode other [] h = refl
  has-encode other (b ∷ t) h =
      has-append c (spelled (is_escaped_first b) b) (encode_rest t)
      (has-spelled (is_escaped_first b) b h.0 (λ e. other b (or_parts (is_escaped b) _ e).0))
      (has-by is_escaped other t h.1)
