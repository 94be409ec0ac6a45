-- Escapes: what decoding makes of them, and that a text as content is that text with some bytes
-- escaped.
use Rattle.std.proofs.Common.{◌≡◌, ℕ, ◌+◌, ◌*◌, ◌/◌, ◌%◌, ◌<◌, ◌≤◌, Bool, true, false, cond, ◌&&◌}
use Rattle.std.proofs.Common.{eqb, List, [], ◌∷◌, ◌++◌, length, None, sym, refl, ap, ◌∙◌, subst}
use Rattle.std.proofs.Common.{arith}
use Rattle.std.specs.List.{AllByRecursion}
use Rattle.std.proofs.lemmas.List.{length-append}
use Rattle.std.proofs.lemmas.Bool.{cond_both, cond-true, cond-false, and_parts, and_from, or_parts}
use Rattle.std.proofs.lemmas.Bool.{eqb-true}
use Rattle.std.proofs.lemmas.Option.{none-some}
use Rattle.std.proofs.lemmas.Bool.Decides.{nat_tests}
use Rattle.tlcp.specs.Bytes.{is_hex, is_escaped, is_escaped_first}
use Rattle.tlcp.specs.Escapes.{Decoded, decode_at, stopped, onto, Decodes, nothing, plain, escape}
use Rattle.tlcp.specs.Escapes.{ReadsEscapes, hex_value, hex_digit, spelled, encode_rest, encoded_by}
use Rattle.tlcp.specs.Escapes.{encode}

-- all was decoded
abbrev whole : List ℕ → Decoded
whole t = record { bytes = t; fault = None }

-- where there is no fault, s is the decoded bytes with some of them escaped
abbrev Sound : List ℕ → Decoded → Type 0
Sound s d = d.fault ≡ None → Decodes s d.bytes

stops : (s : List ℕ) (at : ℕ) → Sound s (stopped at)
stops s at e = absurd (none-some at (sym e))

-- `%` and two more bytes
sound-percent :
    (b h l at : ℕ) (s : List ℕ) → eqb b 37 ≡ true → Sound s (decode_at (at + 3) s)
    → Sound (b ∷ h ∷ l ∷ s) (cond (is_hex h && is_hex l) (onto ((16 * hex_value h + hex_value l) ∷ []) (decode_at (at + 3) s)) (stopped at))
sound-percent b h l at s is rest =
    cond_both (is_hex h && is_hex l) _ _ (Sound (b ∷ h ∷ l ∷ s))
    (λ hex e.
    let two = and_parts (is_hex h) (is_hex l) hex in
    rw (eqb-true b 37 is) (escape two.0 two.1 (rest e)))
    (λ _. stops (b ∷ h ∷ l ∷ s) at)

sound : (s : List ℕ) (at : ℕ) → Sound s (decode_at at s)
sound [] at = λ e. nothing
sound (b ∷ []) at =
    cond_both (eqb b 37) _ _ (Sound (b ∷ [])) (λ _. stops (b ∷ []) at) (λ other e. plain other nothing)
sound (b ∷ h ∷ []) at =
    cond_both (eqb b 37) _ _ (Sound (b ∷ h ∷ [])) (λ _. stops (b ∷ h ∷ []) at) (λ other e. plain other (sound (h ∷ []) (at + 1) e))
sound (b ∷ h ∷ l ∷ s) at =
    cond_both (eqb b 37) _ _ (Sound (b ∷ h ∷ l ∷ s)) (λ is. sound-percent b h l at s is (sound s (at + 3))) (λ other e. plain other (sound (h ∷ l ∷ s) (at + 1) e))

decode-plain :
    (at b : ℕ) (s : List ℕ) → eqb b 37 ≡ false
    → decode_at at (b ∷ s) ≡ onto (b ∷ []) (decode_at (at + 1) s)
decode-plain at b [] other = cond-false (eqb b 37) _ _ other
decode-plain at b (h ∷ []) other = cond-false (eqb b 37) _ _ other
decode-plain at b (h ∷ l ∷ s) other = cond-false (eqb b 37) _ _ other

complete : {s t : List ℕ} → Decodes s t → (at : ℕ) → decode_at at s ≡ whole t
complete nothing at = refl
complete (plain {b =
    b} {s = s} other r) at = decode-plain at b s other ∙ ap (onto (b ∷ [])) (complete r (at + 1))
complete (escape {h = h} {l = l} hx lx r) at =
    cond-true (is_hex h && is_hex l) _ _ (and_from (is_hex h) (is_hex l) hx lx)
    ∙ ap (onto ((16 * hex_value h + hex_value l) ∷ [])) (complete r (at + 3))

pub reads-escapes : ReadsEscapes
reads-escapes s t =
    (λ e. subst (Decodes s) (ap (λ d. d.bytes) e) (sound s 0 (ap (λ d. d.fault) e)), λ r. complete r 0)

-- the digits of a byte
pub is-hex : (n : ℕ) → n < 16 → is_hex (hex_digit n) ≡ true
is-hex n h = grind (arith, nat_tests)

pub hex-value : (n : ℕ) → n < 16 → hex_value (hex_digit n) ≡ n
hex-value n h = grind (arith, nat_tests)

-- a byte, escaped or not, is read back; one that is not escaped is no `%`
pub decodes-spelled :
    (v : Bool) (b : ℕ) {s t : List ℕ} → b < 256 → (v ≡ false → eqb b 37 ≡ false) → Decodes s t
    → Decodes (spelled v b ++ s) (b ∷ t)
decodes-spelled false b small other r = plain (other refl) r
decodes-spelled true b {s} {t} small other r =
    let high : b / 16 < 16 = omega arith in
    let low : b % 16 < 16 = omega arith in
    let is : 16 * hex_value (hex_digit (b / 16)) + hex_value (hex_digit (b % 16)) ≡ b = rw (hex-value (b / 16) high, hex-value (b % 16) low) (omega arith) in
    subst (λ x. Decodes (spelled true b ++ s) (x ∷ t)) is (escape (is-hex (b / 16) high) (is-hex (b % 16) low) r)

pub plain-percent : (b : ℕ) → is_escaped b ≡ false → eqb b 37 ≡ false
plain-percent b e = grind (arith, nat_tests)

-- a text is read back if each `%` is escaped
pub decodes-by :
    (p : ℕ → Bool) → ((b : ℕ) → p b ≡ false → eqb b 37 ≡ false) → (t : List ℕ)
    → AllByRecursion (λ b. b < 256) t → Decodes (encoded_by p t) t
decodes-by p other [] h = nothing
decodes-by p other (b ∷ t) h = decodes-spelled (p b) b h.0 (other b) (decodes-by p other t h.1)

pub decodes-encode : (t : List ℕ) → AllByRecursion (λ b. b < 256) t → Decodes (encode t) t
decodes-encode [] h = nothing
decodes-encode (b ∷ t) h =
    decodes-spelled (is_escaped_first b) b h.0 (λ e. plain-percent b (or_parts (is_escaped b) _ e).0) (decodes-by is_escaped plain-percent t h.1)

pub plain-pipe : (b : ℕ) → is_escaped b ≡ false → eqb b 124 ≡ false
plain-pipe b e = grind (arith, nat_tests)

-- s begins with a byte that is none of `#`, `$` and `^`
pub record Content (s : List ℕ) : Type 0 where
  pub first : ℕ
  pub more : List ℕ
  pub is : s ≡ first ∷ more
  pub no-hash : eqb first 35 ≡ false
  pub no-dollar : eqb first 36 ≡ false
  pub no-caret : eqb first 94 ≡ false

spelled-content :
    (v : Bool) (b : ℕ) (s : List ℕ) → (v ≡ false → is_escaped_first b ≡ false)
    → Content (spelled v b ++ s)
spelled-content true b s other =
    record { first = 37; more = hex_digit (b / 16) ∷ hex_digit (b % 16) ∷ s; is = refl; no-hash = refl; no-dollar = refl; no-caret = refl }
spelled-content false b s other =
    let e = other refl in
    record {
      first =
          b;
      more = s;
      is = refl;
      no-hash = grind (arith, nat_tests);
      no-dollar = grind (arith, nat_tests);
      no-caret = grind (arith, nat_tests);
    }

pub encode-content : (b : ℕ) (t : List ℕ) → Content (encode (b ∷ t))
encode-content b t = spelled-content (is_escaped_first b) b (encode_rest t) (λ e. e)

pub length-spelled : (v : Bool) (b : ℕ) → length (spelled v b) ≤ 3
length-spelled true b = omega arith
length-spelled false b = omega arith

pub length-by : (p : ℕ → Bool) (t : List ℕ) → length (encoded_by p t) ≤ 3 * length t
length-by p [] = omega arith
length-by p (b ∷ t) = simp length-append (omega (arith, length-spelled (p b) b, length-by p t))

pub length-encode : (t : List ℕ) → length (encode t) ≤ 3 * length t
length-encode [] = omega arith
length-encode (b ∷ t) =
    simp length-append (omega (arith, length-spelled (is_escaped_first b) b, length-by is_escaped t))
