-- Logic values: the words that a text's characters make, the characters that words make, and both
-- ways round.
use Rattle.std.specs.Prelude.{◌≡◌, ℕ, zero, suc, ◌+◌, ◌-◌, ◌*◌, ◌/◌, ◌%◌, ◌^◌, ◌<◌, ◌≤◌, Bool, true}
use Rattle.std.specs.Prelude.{false, cond, ◌||◌, List, [], ◌∷◌, map, length, take, set, ◌==◌}
use Rattle.std.specs.Prelude.{nat_le, nat_lt, slice_index, slice_set, refl}
use Rattle.std.proofs.Common.{sym, ap, subst, ◌∙◌, ⊎_elim, le_of_suc-le-suc, not-suc-le-zero}
use Rattle.std.proofs.Common.{add-mul, mul_assoc, mod-eq_of_lt, one-add, arith, pow_mono}
use Rattle.std.proofs.Math.Nat.{pow-succ'}
use Rattle.std.specs.Int.Digits.{number_from_digits, number_from_digits_after, AllBelowBase}
use Rattle.std.proofs.lemmas.List.{length-map, length-take, map_more, take_all}
use Rattle.std.proofs.lemmas.Int.Digits.{number_lt, number_push}
use Rattle.std.proofs.lemmas.Bool.Decides.{nat_tests}
use Rattle.std.proofs.lemmas.Nat.{pow_pos, mod-pow-add, mod_below, div-mul-add, mod-mul-add}
use Rattle.std.proofs.lemmas.Bool.{and_parts, and_from, and_right, or_cases, ltb-true, leb-true}
use Rattle.std.proofs.lemmas.Bool.{eqb-true, lt-ltb, le-leb, cond-true, cond-false, cond_both}
use Rattle.row.specs.Limits.{text_limit}
use Rattle.row.specs.Kinds.{Lawful, Represents}
use Rattle.row.specs.Texts.{every, padded}
use Rattle.row.specs.Logics.{low, high, unknown, floating, is_logic, bit_a, bit_b, char_of, bit_at}
use Rattle.row.specs.Logics.{chars_of, is_width, logic_allowed, logic_sound, logic_text}
use Rattle.row.specs.Logics.{logic_record, logic_kind}
use Rattle.row.specs.declared.logic.LogicRecord.{LogicRecord}
use Rattle.row.specs.Every.{every-all, every-not, padded-more, apart_from}

-- one character

logic-cases :
    (P : ℕ → Type 0) → P low → P high → P unknown → P floating → (c : ℕ) → is_logic c ≡ true → P c
logic-cases P l h u f c e =
    ⊎_elim (is low l)
    (λ e. ⊎_elim (is high h)
    (λ e. ⊎_elim (is unknown u) (is floating f) (or_cases (c == unknown) (c == floating) e))
    (or_cases (c == high) _ e))
    (or_cases (c == low) _ e)
  where
    is : (d : ℕ) → P d → (c == d) ≡ true → P c
    is d p e = subst P (sym (eqb-true c d e)) p

bit-small : (b : Bool) → cond b 1 0 < 2
bit-small true = omega arith
bit-small false = omega arith

pub bit_a-small : (c : ℕ) → bit_a c < 2
bit_a-small c = bit-small (c == high || c == unknown)

pub bit_b-small : (c : ℕ) → bit_b c < 2
bit_b-small c = bit-small (c == unknown || c == floating)

char-bits : (c : ℕ) → is_logic c ≡ true → char_of (bit_a c) (bit_b c) ≡ c
char-bits = logic-cases (λ c. char_of (bit_a c) (bit_b c) ≡ c) refl refl refl refl

bits-char :
    (a b : ℕ) → a < 2 → b < 2
    → (is_logic (char_of a b) ≡ true) × (bit_a (char_of a b) ≡ a) × (bit_b (char_of a b) ≡ b)
bits-char a b h k = grind (arith, nat_tests)

-- the words of a text

number_after-is :
    (n : ℕ) (ds : List ℕ)
    → number_from_digits_after 2 n ds ≡ n * 2 ^ length ds + number_from_digits 2 ds
number_after-is n [] = omega arith
number_after-is n (d ∷ ds) =
    omega (
      arith,
      number_after-is (n * 2 + d) ds,
      number_after-is (0 * 2 + d) ds,
      add-mul (n * 2) d
          (2 ^ length ds),
      add-mul (0 * 2) d (2 ^ length ds),
      mul_assoc n 2 (2 ^ length ds),
      ap
          (λ p. n * p) (pow-succ' 2 (length ds)),
    )

-- the first digit and the others
number-cons :
    (d : ℕ) (ds : List ℕ)
    → number_from_digits 2 (d ∷ ds) ≡ d * 2 ^ length ds + number_from_digits 2 ds
number-cons d ds =
    ap (λ n. number_from_digits_after 2 n ds) (let z : 0 * 2 + d ≡ d = omega arith in z)
    ∙ number_after-is d ds

-- the lowest bits of a number, and the next one above them
mod-bits : (n w : ℕ) → n % 2 ^ suc w ≡ bit_at n w * 2 ^ w + n % 2 ^ w
mod-bits n w = ap (λ k. n % 2 ^ k) (sym (one-add w)) ∙ mod-pow-add n 1 w

module _ (bit : ℕ → ℕ) (small : (c : ℕ) → bit c < 2) where
  pub word_lt : (t : List ℕ) → number_from_digits 2 (map bit t) < 2 ^ length t
  word_lt t = omega (arith, number_lt 2 (map bit t) (under t), ap (λ k. 2 ^ k) (length-map t bit))
    where
      under : (t : List ℕ) → AllBelowBase 2 (map bit t)
      under [] = tt
      under (c ∷ t) = (small c, under t)

  -- one character more
  pub word_more :
      (t : List ℕ) (i n d : ℕ) → i < length t → n ≡ number_from_digits 2 (map bit (take i t))
      → d ≡ bit (slice_index t i) → 2 * n + d ≡ number_from_digits 2 (map bit (take (i + 1) t))
  word_more t i n d h is more =
      let step = ap (number_from_digits 2) (map_more bit t i 0 h) ∙ number_push 2
      (map bit (take i t)) (bit (slice_index t i)) in
      omega arith

  pub word_fits :
      (t : List ℕ) (i : ℕ) → length t ≤ text_limit
      → number_from_digits 2 (map bit (take i t)) < 2 ^ text_limit
  word_fits t i h =
      let short : length (take i t) ≤ text_limit = simp length-take (omega arith) in
      omega (arith, word_lt (take i t), pow_mono short)

  -- the highest bit of a word is the first character's
  word-cons :
      (c : ℕ) (t : List ℕ) (n : ℕ)
      → n % 2 ^ suc (length t) ≡ number_from_digits 2 (bit c ∷ map bit t)
      → (bit_at n (length t) ≡ bit c) × (n % 2 ^ length t ≡ number_from_digits 2 (map bit t))
  word-cons c t n e =
      let p = 2 ^ length t in
      let below = mod_below n p (pow_pos (length t)) in
      let split : bit_at n (length t) * p + n % p ≡ bit c * p + number_from_digits 2 (map bit t) =
      sym (mod-bits n (length t)) ∙ e ∙ number-cons (bit c) (map bit t)
      ∙ ap (λ k. bit c * 2 ^ k + number_from_digits 2 (map bit t)) (length-map t bit) in (
        sym (div-mul-add (bit_at n (length t)) p (n % p) below) ∙ ap (λ k. k / p) split
            ∙ div-mul-add (bit c) p (number_from_digits 2 (map bit t)) (word_lt t),
        sym (mod-mul-add (bit_at n (length t)) p (n % p) below) ∙ ap (λ k. k % p) split
            ∙ mod-mul-add (bit c) p (number_from_digits 2 (map bit t)) (word_lt t),
      )

-- the characters of words

chars-words :
    (t : List ℕ) (a b : ℕ) → every is_logic t ≡ true
    → a % 2 ^ length t ≡ number_from_digits 2 (map bit_a t)
    → b % 2 ^ length t ≡ number_from_digits 2 (map bit_b t) → chars_of (length t) a b ≡ t
chars-words [] a b e f g = refl
chars-words (c ∷ t) a b e f g =
    let h = and_parts (is_logic c) (every is_logic t) e in
    let in_a = word-cons bit_a bit_a-small c t a f in
    let in_b = word-cons bit_b bit_b-small c t b g in
    let first : char_of (bit_at a (length t)) (bit_at b (length t))
    ≡ c = (λ i. char_of (in_a.0 i) (in_b.0 i)) ∙ char-bits c h.0 in
    let others = chars-words t a b h.1 in_a.1 in_b.1 in
    (λ i. first i ∷ others i)

module _ (a b : ℕ) where
  pub length-chars_of : (w : ℕ) → length (chars_of w a b) ≡ w
  length-chars_of zero = refl
  length-chars_of (suc w) = ap suc (length-chars_of w)

  pub get_d-chars_of :
      (w i : ℕ) → i < w
      → slice_index (chars_of w a b) i ≡ char_of (bit_at a (w - 1 - i)) (bit_at b (w - 1 - i))
  get_d-chars_of zero i h = absurd (not-suc-le-zero h)
  get_d-chars_of (suc w) zero h = ap (λ p. char_of (bit_at a p) (bit_at b p)) (omega arith)
  get_d-chars_of (suc w) (suc i) h =
      get_d-chars_of w i (le_of_suc-le-suc h)
      ∙ ap (λ p. char_of (bit_at a p) (bit_at b p)) (omega arith)

  at_place :
      (p : ℕ)
      → (is_logic (char_of (bit_at a p) (bit_at b p)) ≡ true)
      × (bit_a (char_of (bit_at a p) (bit_at b p)) ≡ bit_at a p)
      × (bit_b (char_of (bit_at a p) (bit_at b p)) ≡ bit_at b p)
  at_place p =
      bits-char (bit_at a p) (bit_at b p) (mod_below (a / 2 ^ p) 2 (omega arith))
      (mod_below (b / 2 ^ p) 2 (omega arith))

  every-chars_of : (w : ℕ) → every is_logic (chars_of w a b) ≡ true
  every-chars_of zero = refl
  every-chars_of (suc w) = and_from _ _ (at_place w).0 (every-chars_of w)

  -- n is the word that the bit reads
  words-chars :
      (bit : ℕ → ℕ) (n : ℕ) → ((p : ℕ) → bit (char_of (bit_at a p) (bit_at b p)) ≡ bit_at n p)
      → (w : ℕ) → number_from_digits 2 (map bit (chars_of w a b)) ≡ n % 2 ^ w
  words-chars bit n reads zero = omega arith
  words-chars bit n reads (suc w) =
      let others = words-chars bit n reads w in
      let long : length (map bit (chars_of w a b)) ≡ w = length-map (chars_of w a b) bit
      ∙ length-chars_of w in
      number-cons (bit (char_of (bit_at a w) (bit_at b w))) (map bit (chars_of w a b))
      ∙ (λ i. reads w i * 2 ^ long i + others i)
      ∙ sym (mod-bits n w)

-- the kind

width-parts : (w : ℕ) → is_width w ≡ true → (1 ≤ w) × (w ≤ text_limit)
width-parts w e =
    let h = and_parts (nat_le 1 w) (nat_le w text_limit) e in
    (leb-true 1 w h.0, leb-true w text_limit h.1)

allowed-parts :
    (t : List ℕ) → logic_allowed t ≡ true → (is_width (length t) ≡ true) × (every is_logic t ≡ true)
allowed-parts t e = and_parts (is_width (length t)) (every is_logic t) e

sound-parts :
    (r : LogicRecord) → logic_sound r ≡ true
    → (is_width r.width ≡ true) × (r.a < 2 ^ r.width) × (r.b < 2 ^ r.width)
sound-parts r e =
    let h = and_parts (is_width r.width) _ e in
    let k = and_parts (nat_lt r.a (2 ^ r.width)) (nat_lt r.b (2 ^ r.width)) h.1 in
    (h.0, ltb-true r.a (2 ^ r.width) k.0, ltb-true r.b (2 ^ r.width) k.1)

pub not-allowed :
    (t : List ℕ) (i : ℕ) → i < length t → is_logic (slice_index t i) ≡ false
    → logic_allowed t ≡ false
not-allowed t i h e =
    and_right (is_width (length t)) (every is_logic t) (every-not is_logic t i 0 h e)

pub allowed-from :
    (t : List ℕ) → 1 ≤ length t → length t ≤ text_limit → every is_logic t ≡ true
    → logic_allowed t ≡ true
allowed-from t some short e =
    and_from _ _ (and_from _ _ (le-leb 1 (length t) some) (le-leb (length t) text_limit short)) e

pub record-sound : (t : List ℕ) → logic_allowed t ≡ true → logic_sound (logic_record t) ≡ true
record-sound t e =
    and_from _ _ (allowed-parts t e).0
    (and_from _ _ (lt-ltb _ _ (word_lt bit_a bit_a-small t))
    (lt-ltb _ _ (word_lt bit_b bit_b-small t)))

text-sound : (r : LogicRecord) → logic_sound r ≡ true → logic_text r ≡ chars_of r.width r.a r.b
text-sound r e = cond-true (logic_sound r) (chars_of r.width r.a r.b) (low ∷ []) e

-- a sound record is the one made of its text
pub raw-text : (r : LogicRecord) → logic_sound r ≡ true → logic_record (logic_text r) ≡ r
raw-text r e =
    let h = sound-parts r e in
    let in_a = words-chars r.a r.b bit_a r.a (λ p. (at_place r.a r.b p).1) r.width ∙ mod-eq_of_lt
    h.1 in
    let in_b = words-chars r.a r.b bit_b r.b (λ p. (at_place r.a r.b p).2) r.width ∙ mod-eq_of_lt
    h.2 in
    ap logic_record (text-sound r e)
    ∙ (λ i. record { a = in_a i; b = in_b i; width = length-chars_of r.a r.b r.width i })

pub logic-lawful : Lawful logic_kind
logic-lawful = record {
  rest-allowed = refl;
  text-allowed =
      λ r. cond_both (logic_sound r) (chars_of r.width r.a r.b) (low ∷ [])
      (λ t. logic_allowed t ≡ true) (chars-allowed r) (λ e. refl);
  text-raw =
      λ t e. text-sound (logic_record t) (record-sound t e)
      ∙ chars-words t _ _ (allowed-parts t e).1 (mod-eq_of_lt (word_lt bit_a bit_a-small t))
      (mod-eq_of_lt (word_lt bit_b bit_b-small t));
  short = λ t e. (width-parts (length t) (allowed-parts t e).0).1;
  bytes =
      λ t e. every-all is_logic (λ b. b < 256)
      (logic-cases (λ b. b < 256) (omega arith) (omega arith) (omega arith) (omega arith)) t
      (allowed-parts t e).1;
}
  where
    chars-allowed :
        (r : LogicRecord) → logic_sound r ≡ true → logic_allowed (chars_of r.width r.a r.b) ≡ true
    chars-allowed r e =
        and_from _ _ (ap is_width (length-chars_of r.a r.b r.width) ∙ (sound-parts r e).0)
        (every-chars_of r.a r.b r.width)

pub logic-represents : Represents logic_kind logic_sound logic_sound
logic-represents = record {
  raw-whole = record-sound;
  unsound = λ r e. cond-false (logic_sound r) (chars_of r.width r.a r.b) (low ∷ []) e;
  apart = apart_from logic_kind logic_sound raw-text;
}

-- writing

pub chars-more :
    (r : LogicRecord) (out : List ℕ) (i c : ℕ) → logic_sound r ≡ true → i < r.width
    → out ≡ padded text_limit (take i (chars_of r.width r.a r.b))
    → c ≡ char_of (bit_at r.a (r.width - 1 - i)) (bit_at r.b (r.width - 1 - i))
    → slice_set out i c ≡ padded text_limit (take (i + 1) (chars_of r.width r.a r.b))
chars-more r out i c e h sofar is =
    let chars = chars_of r.width r.a r.b in
    let long : length chars ≡ r.width = length-chars_of r.a r.b r.width in
    let short = (width-parts r.width (sound-parts r e).0).1 in
    ap (λ l. set l i c) sofar
    ∙ padded-more text_limit chars i c (omega arith) (omega arith)
    (is ∙ sym (get_d-chars_of r.a r.b r.width i h))

pub chars-all :
    (r : LogicRecord) (out : List ℕ) (i : ℕ) → logic_sound r ≡ true → r.width ≤ i
    → out ≡ padded text_limit (take i (chars_of r.width r.a r.b))
    → (r.width ≡ length (logic_text r)) × (out ≡ padded text_limit (logic_text r))
chars-all r out i e h sofar =
    let long : length (chars_of r.width r.a r.b) ≡ r.width = length-chars_of r.a r.b r.width in
    let is = sym (text-sound r e) in (
      sym long ∙ ap length is,
      sofar ∙ ap (padded text_limit) (take_all i (chars_of r.width r.a r.b) (omega arith) ∙ is),
    )
