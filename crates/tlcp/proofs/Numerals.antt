-- Numbers in decimal: the reader of `specs/Numbers` against what std writes.
use Rattle.std.proofs.Common.{◌≡◌, ℕ, zero, suc, ◌+◌, ◌-◌, ◌*◌, ◌^◌, ◌<◌, ◌≤◌, Bool, true, false}
use Rattle.std.proofs.Common.{cond, ◌||◌, eqb, ltb, leb, List, [], ◌∷◌, length, get_or, drop, ℤ}
use Rattle.std.proofs.Common.{pos, negsuc, Some, None, decimal, Option, sym, refl, ap, ◌∙◌, subst}
use Rattle.std.proofs.Common.{⊎_elim, arith}
use Rattle.std.specs.Option.{option_map}
use Rattle.std.specs.Fmt.{signed_decimal}
use Rattle.std.specs.Str.{all_ascii_digits}
use Rattle.std.proofs.lemmas.Fmt.{decimal_digit, decimal-digits_value, digits_value-decimal}
use Rattle.std.proofs.lemmas.Fmt.{digits_decimal, decimal_nonempty, first_decimal}
use Rattle.std.proofs.lemmas.Option.{none-some}
use Rattle.std.proofs.lemmas.Str.Parse.{IsNumeralModel, numerals_by_fold, tells_all_ascii_digits}
use Rattle.std.proofs.lemmas.Str.Parse.{not_in_digits}
use Rattle.std.proofs.lemmas.Bool.{and_parts, and_from, and_cases, and_right, or_parts, or_from}
use Rattle.std.proofs.lemmas.Bool.{cases_lt, cases_Bool, leb-true, ltb-false, eqb-true, eqb-false}
use Rattle.std.proofs.lemmas.Bool.{le-leb, ne_eqb, cond-true, cond-false}
use Rattle.tlcp.specs.Bytes.{is_digit}
use Rattle.tlcp.specs.Limits.{code_limit}
use Rattle.tlcp.specs.Numbers.{digits_from, at_least, leading_zero, read_number, negated, read_code}
use Rattle.tlcp.specs.Numbers.{ReadsDecimal, CodeWithin, ReadsSigned}

-- the number that v and then the digits s write
abbrev read_on : ℕ → List ℕ → ℕ
read_on v [] = v
read_on v (b ∷ s) = read_on (v * 10 + (b - 48)) s

own : IsNumeralModel (λ s. all_ascii_digits s ≡ true) (read_on 0)
own =
    numerals_by_fold _ tells_all_ascii_digits read_on (record { empty = λ n. refl; more = λ n c cs h. refl })

-- further digits make no number smaller
read_on-ge : (v : ℕ) (s : List ℕ) → v ≤ read_on v s
read_on-ge v [] = omega arith
read_on-ge v (b ∷ s) = omega (arith, read_on-ge (v * 10 + (b - 48)) s)

some-unless :
    {X : Type 0} (t : Bool) (o : Option X) (x : X) → cond t None o ≡ Some x
    → (t ≡ false) × (o ≡ Some x)
some-unless true o x e = absurd (none-some _ e)
some-unless false o x e = (refl, e)

some-where :
    {X : Type 0} (t : Bool) (o : Option X) (x : X) → cond t o None ≡ Some x
    → (t ≡ true) × (o ≡ Some x)
some-where true o x e = (refl, e)
some-where false o x e = absurd (none-some _ e)

digits-read :
    (high v n : ℕ) (s : List ℕ) → v ≤ high → digits_from high v s ≡ Some n
    → (all_ascii_digits s ≡ true) × (read_on v s ≡ n) × (n ≤ high)
digits-read high v n [] low e = let same : v ≡ n = cc in (refl, same, omega arith)
digits-read high v n (b ∷ s) low e =
    let w = v * 10 + (b - 48) in
    let digit = some-where (is_digit b) _ n e in
    let small = some-where (leb w high) _ n digit.1 in
    let more = digits-read high w n s (leb-true w high small.0) small.1 in
    (and_from _ _ digit.0 more.0, more.1, more.2)

read-digits :
    (high v : ℕ) (s : List ℕ) → all_ascii_digits s ≡ true → read_on v s ≤ high
    → digits_from high v s ≡ Some (read_on v s)
read-digits high v [] d h = refl
read-digits high v (b ∷ s) d h =
    let w = v * 10 + (b - 48) in
    let parts = and_parts (is_digit b) (all_ascii_digits s) d in
    let small : w ≤ high = omega (arith, read_on-ge w s) in
    cond-true (is_digit b) _ None parts.0 ∙ cond-true (leb w high) _ None (le-leb w high small)
    ∙ read-digits high w s parts.1 h

at-least : (low n : ℕ) (o : Option ℕ) → at_least low o ≡ Some n → (low ≤ n) × (o ≡ Some n)
at-least low n None e = absurd (none-some _ e)
at-least low n (Some k) e =
    let h = some-where (leb low k) (Some k) n e in
    let same : k ≡ n = cc h.1 in
    (omega (arith, leb-true low k h.0), h.1)

-- where no zero leads, a first digit 0 is the only one
zero-alone : (s : List ℕ) → 0 < length s → leading_zero s ≡ false → get_or s 0 0 ≡ 48 → length s ≡ 1
zero-alone s some e first =
    ⊎_elim (λ short. omega (arith, ltb-false 1 (length s) short)) (λ other. absurd (eqb-false (get_or s 0 0) 48 other first)) (and_cases (ltb 1 (length s)) (eqb (get_or s 0 0) 48) e)

decimal-starts :
    (n : ℕ) → n < 2 ^ 64 → (eqb (length (decimal n)) 0 || leading_zero (decimal n)) ≡ false
decimal-starts zero h = ap (λ s. eqb (length s) 0 || leading_zero s) (decimal_digit 0 (omega arith))
decimal-starts (suc n) h =
    or_from _ _
    (ne_eqb (length (decimal (suc n))) 0 (λ e. omega (arith, decimal_nonempty (suc n) h)))
    (and_right _ _ (ne_eqb (get_or (decimal (suc n)) 0 0) 48 (λ e. omega (arith, first_decimal (suc n) (omega arith) h))))

decimal-read :
    (low high n : ℕ) (s : List ℕ) → high < 2 ^ 64 → read_number low high s ≡ Some n
    → (s ≡ decimal n) × (low ≤ n) × (n ≤ high)
decimal-read low high n s wide e =
    let starts = some-unless (eqb (length s) 0 || leading_zero s) _ n e in
    let sound = or_parts (eqb (length s) 0) (leading_zero s) starts.0 in
    let above = at-least low n (digits_from high 0 s) starts.1 in
    let read = digits-read high 0 n s (omega arith) above.1 in
    let some : 0 < length s = ⊎_elim (λ h. h) (λ h. absurd (eqb-false (length s) 0 sound.0 (omega arith))) (cases_lt 0 (length s)) in
    let same = decimal-digits_value own s read.0 some (zero-alone s some sound.1) (omega (arith, read.1, read.2)) in
    (sym same ∙ ap decimal read.1, above.0, read.2)

read-decimal :
    (low high n : ℕ) → high < 2 ^ 64 → low ≤ n → n ≤ high
    → read_number low high (decimal n) ≡ Some n
read-decimal low high n wide above below =
    let small : n < 2 ^ 64 = omega arith in
    let is = digits_value-decimal own n small in
    let read = read-digits high 0 (decimal n) (digits_decimal own n small) (omega (arith, is)) ∙ ap Some is in
    cond-false _ None _ (decimal-starts n small) ∙ ap (at_least low) read
    ∙ cond-true (leb low n) (Some n) None (le-leb low n above)

pub reads-decimal : ReadsDecimal
reads-decimal low high n s wide =
    (decimal-read low high n s wide, λ e above below. rw e (read-decimal low high n wide above below))

mapped-some :
    {X Y : Type 0} (f : X → Y) (o : Option X) (y : Y) → option_map f o ≡ Some y
    → (x : X) × (o ≡ Some x) × (f x ≡ y)
mapped-some f None y e = absurd (none-some _ e)
mapped-some f (Some x) y e = (x, refl, cc)

minus-first : (s : List ℕ) → get_or s 0 0 ≡ 45 → s ≡ 45 ∷ drop 1 s
minus-first [] e = absurd (omega arith)
minus-first (b ∷ s) e = ap (λ c. c ∷ s) e

code_read : (z : ℤ) (s : List ℕ) → read_code s ≡ Some z → (s ≡ signed_decimal z) × CodeWithin z
code_read z s e = ⊎_elim below above (cases_Bool (eqb (get_or s 0 0) 45))
  where
    Right : ℤ → Type 0
    Right y = (s ≡ signed_decimal y) × CodeWithin y

    below : eqb (get_or s 0 0) 45 ≡ true → Right z
    below minus =
        let (n, is, same) = mapped-some negated _ z (sym (cond-true _ _ _ minus) ∙ e) in
        let read = decimal-read 1 code_limit n (drop 1 s) (omega arith) is in
        let k : n ≡ suc (n - 1) = omega (arith, read.1) in
        subst Right same (minus-first s (eqb-true (get_or s 0 0) 45 minus) ∙ ap (λ t. 45 ∷ t) (read.0 ∙ ap decimal k), omega (arith, read.1, read.2))

    above : eqb (get_or s 0 0) 45 ≡ false → Right z
    above plain =
        let (n, is, same) = mapped-some pos _ z (sym (cond-false _ _ _ plain) ∙ e) in
        let read = decimal-read 0 code_limit n s (omega arith) is in
        subst Right same (read.0, read.2)

read-code : (z : ℤ) → CodeWithin z → read_code (signed_decimal z) ≡ Some z
read-code (pos n) h =
    let small : n < 2 ^ 64 = omega arith in
    let plain = not_in_digits own (decimal n) 45 (digits_decimal own n small) (λ d. omega arith) 0 (decimal_nonempty n small) in
    cond-false _ _ _ (ne_eqb (get_or (decimal n) 0 0) 45 plain)
    ∙ ap (option_map pos) (read-decimal 0 code_limit n (omega arith) (omega arith) h)
read-code (negsuc n) h =
    let k : suc n - 1 ≡ n = omega arith in
    ap (option_map negated) (read-decimal 1 code_limit (suc n) (omega arith) (omega arith) h)
    ∙ ap (λ m. Some (negsuc m)) k

pub reads-signed : ReadsSigned
reads-signed z s = (code_read z s, λ e within. rw e (read-code z within))
