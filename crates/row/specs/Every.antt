-- A test at each element of a list, and a list with zeros behind it.
use Rattle.std.specs.Prelude.{◌≡◌, ℕ, zero, suc, ◌+◌, ◌-◌, ◌<◌, ◌≤◌, Bool, true, false, cond, List}
use Rattle.std.specs.Prelude.{◌*◌, ◌/◌, ◌^◌, not, map}
use Rattle.std.specs.Prelude.{[], ◌∷◌, ◌++◌, length, take, drop, set, ◌&&◌, replicate, Some, None}
use Rattle.std.specs.Prelude.{◌==◌, ◌≢◌, nat_le, slice_index, slice_index_or, slice_set, refl}
use Rattle.std.proofs.Common.{sym, ap, ◌∙◌, ⊎_elim, append_assoc, le_of_suc-le-suc, not-suc-le-zero}
use Rattle.std.proofs.Common.{arith}
use Rattle.std.specs.List.{AllByRecursion}
use Rattle.std.proofs.Math.Nat.{div-div-eq-div-mul, pow-succ', zero-div}
use Rattle.std.proofs.lemmas.List.{drop-map}
use Rattle.std.proofs.lemmas.Bool.Decides.{nat_tests}
use lib.Lanes.{mask_l}
use Rattle.std.proofs.lemmas.List.{get_or-drop, length-append, length-drop, length-take}
use Rattle.std.proofs.lemmas.List.{take-append-drop, take_more, drop_all, drop-append-le, drop_at}
use Rattle.std.proofs.lemmas.List.{set_at, length-take-le, take_at}
use Rattle.std.proofs.ByRecursion.{All-weaker, Decides-by_and}
use Rattle.std.proofs.lemmas.List.Folds.{list_all-append}
use Rattle.std.proofs.lemmas.List.Recursion.{and_from_places}
use Rattle.std.proofs.lemmas.Grind.{common_steps}
use Rattle.std.proofs.lemmas.List.Sums.{list_all-from_AllPass}
use Rattle.std.proofs.lemmas.Option.{cond_some, none-some}
use Rattle.std.proofs.lemmas.Bool.{lt-ltb, both_ways, cases_lt, cases_Bool, and_parts, and_from}
use Rattle.std.proofs.lemmas.Bool.{ltb-true, leb-true, eqb-true, le-leb, eq-eqb, cond-true}
use Rattle.std.proofs.lemmas.Bool.{cond-false, cond_both}
use Rattle.row.specs.Texts.{every, is_byte, is_zero, padded, text_allowed, text_sound, text_whole}
use Rattle.row.specs.Texts.{text_of, text_record, text_kind}
use Rattle.row.specs.Limits.{text_limit}
use Rattle.row.specs.Kinds.{Kind, Lawful, Represents, rest_record}
use Rattle.row.specs.declared.text.TextRecord.{TextRecord}

pub every_append :
    (p : ℕ → Bool) (xs ys : List ℕ) → every p xs ≡ true → every p ys ≡ true
    → every p (xs ++ ys) ≡ true
every_append p xs ys e f = list_all-append p xs ys ∙ and_from _ _ e f

pub every_take :
    (p : ℕ → Bool) (n : ℕ) (xs : List ℕ) → every p xs ≡ true → every p (take n xs) ≡ true
every_take p n xs e =
    (and_parts _ _ (sym (list_all-append p (take n xs) (drop n xs)) ∙ ap (every p)
    (take-append-drop n xs) ∙ e)).0

pub every-replicate : (p : ℕ → Bool) (n x : ℕ) → p x ≡ true → every p (replicate n x) ≡ true
every-replicate p n x e = grind (arith, common_steps, list_all-from_AllPass p (replicate n x))

pub every-all :
    (p : ℕ → Bool) (P : ℕ → Type 0) → ((x : ℕ) → p x ≡ true → P x) → (t : List ℕ) → every p t ≡ true
    → AllByRecursion P t
every-all p P f t e =
    All-weaker (λ x. p x ≡ true) P f t
    ((Decides-by_and p (λ x. p x ≡ true) (every p) (λ _. (λ e. e, λ e. e)) refl (λ _ _. refl) t).0
    e)

pub bytes-every : (xs : List ℕ) → ((i : ℕ) → slice_index xs i < 256) → every is_byte xs ≡ true
bytes-every xs f =
    and_from_places (every is_byte) is_byte refl (λ _ _. refl) xs 0 (λ i _. lt-ltb _ 256 (f i))

pub all-bytes : (t : List ℕ) → every is_byte t ≡ true → AllByRecursion (λ b. b < 256) t
all-bytes = every-all is_byte (λ b. b < 256) (λ b. ltb-true b 256)

pub length-padded : (n : ℕ) (xs : List ℕ) → length xs ≤ n → length (padded n xs) ≡ n
length-padded n xs h = grind (arith, common_steps)

pub drop-padded :
    (n : ℕ) (xs : List ℕ) → drop (length xs) (padded n xs) ≡ replicate (n - length xs) 0
drop-padded n xs = drop_at xs (replicate (n - length xs) 0) (length xs) refl

pub take-padded : (n : ℕ) (xs : List ℕ) → take (length xs) (padded n xs) ≡ xs
take-padded n xs = take_at xs (replicate (n - length xs) 0) (length xs) refl

pub every-padded :
    (n : ℕ) (xs : List ℕ) → every is_byte xs ≡ true → every is_byte (padded n xs) ≡ true
every-padded n xs e =
    list_all-append is_byte xs (replicate (n - length xs) 0)
    ∙ and_from _ _ e (every-replicate is_byte (n - length xs) 0 refl)

-- one element more before the zeros
pub padded-more :
    (n : ℕ) (xs : List ℕ) (i x : ℕ) → i < length xs → length xs ≤ n → x ≡ slice_index xs i
    → slice_set (padded n (take i xs)) i x ≡ padded n (take (i + 1) xs)
padded-more n xs i x h room read =
    let long : length (take i xs) ≡ i = length-take-le i xs (omega arith) in
    let more : take (i + 1) xs ≡ take i xs ++ x ∷ [] = take_more xs i 0 h ∙ ap
    (λ y. take i xs ++ y ∷ []) (sym read) in
    let longer : length (take (i + 1) xs) ≡ i + 1 = length-take-le (i + 1) xs (omega arith) in
    let k : n - i ≡ suc (n - (i + 1)) = omega arith in
    ap (λ m. set (take i xs ++ replicate (n - m) 0) i x) long
    ∙ ap (λ m. set (take i xs ++ replicate m 0) i x) k
    ∙ set_at (take i xs) 0 (replicate (n - (i + 1)) 0) x i long
    ∙ sym (append_assoc (take i xs) (x ∷ []) (replicate (n - (i + 1)) 0))
    ∙ ap (λ l. l ++ replicate (n - (i + 1)) 0) (sym more)
    ∙ ap (λ m. take (i + 1) xs ++ replicate (n - m) 0) (sym longer)

-- a record of bytes whose length is within the limit is sound where what stands behind its text is
-- zero
pub sound-by-zeros :
    (r : TextRecord) → r.len ≤ text_limit → ((i : ℕ) → slice_index r.bytes i < 256)
    → text_sound r ≡ every is_zero (drop r.len r.bytes)
sound-by-zeros r small bytes i =
    le-leb r.len text_limit small i
    && (bytes-every r.bytes bytes i && every is_zero (drop r.len r.bytes))

-- a mask without its lowest bits
mask-drop : (ms : List Bool) (n : ℕ) → mask_l ms / 2 ^ n ≡ mask_l (drop n ms)
mask-drop ms zero = omega arith
mask-drop [] (suc n) = zero-div (2 ^ suc n)
mask-drop (m ∷ ms) (suc n) =
    ap (λ k. mask_l (m ∷ ms) / k) (pow-succ' 2 n)
    ∙ sym (div-div-eq-div-mul (mask_l (m ∷ ms)) 2 (2 ^ n))
    ∙ ap (λ k. k / 2 ^ n) (half m (mask_l ms))
    ∙ mask-drop ms n
  where
    half : (m : Bool) (k : ℕ) → (cond m 1 0 + 2 * k) / 2 ≡ k
    half true k = omega arith
    half false k = omega arith

-- no bit is set where each of the bits stands for an element that is zero
mask-zero : (xs : List ℕ) → (mask_l (map (λ x. not (is_zero x)) xs) == 0) ≡ every is_zero xs
mask-zero [] = refl
mask-zero (x ∷ xs) =
    one (is_zero x) (mask_l (map (λ y. not (is_zero y)) xs))
    ∙ ap (λ rest. is_zero x && rest) (mask-zero xs)
  where
    one : (b : Bool) (k : ℕ) → ((cond (not b) 1 0 + 2 * k) == 0) ≡ (b && (k == 0))
    one true k = grind (arith, nat_tests)
    one false k = grind (arith, nat_tests)

-- what stands from n on is zero where no bit from n on is set
pub zeros-by_mask :
    (n : ℕ) (xs : List ℕ)
    → (mask_l (map (λ x. not (is_zero x)) xs) / 2 ^ n == 0) ≡ every is_zero (drop n xs)
zeros-by_mask n xs =
    ap (λ k. k == 0) (mask-drop (map (λ x. not (is_zero x)) xs) n)
    ∙ ap (λ ms. mask_l ms == 0) (drop-map (λ x. not (is_zero x)) n xs)
    ∙ mask-zero (drop n xs)

pub every_more :
    (p : ℕ → Bool) (xs : List ℕ) (i x : ℕ) → i < length xs → x ≡ slice_index xs i
    → every p (take i xs) ≡ true → p x ≡ true → every p (take (i + 1) xs) ≡ true
every_more p xs i x h read e f =
    ap (every p) (take_more xs i 0 h)
    ∙ every_append p (take i xs) (slice_index xs i ∷ []) e
    (and_from _ true (ap p (sym read) ∙ f) refl)

pub every-at :
    (p : ℕ → Bool) (xs : List ℕ) (i d : ℕ) → i < length xs → every p xs ≡ true
    → p (slice_index_or xs i d) ≡ true
every-at p [] i d h e = absurd (not-suc-le-zero h)
every-at p (x ∷ xs) zero d h e = (and_parts (p x) (every p xs) e).0
every-at p (x ∷ xs) (suc i) d h e =
    every-at p xs i d (le_of_suc-le-suc h) (and_parts (p x) (every p xs) e).1

pub every-not :
    (p : ℕ → Bool) (xs : List ℕ) (i d : ℕ) → i < length xs → p (slice_index_or xs i d) ≡ false
    → every p xs ≡ false
every-not p xs i d h e =
    ⊎_elim (λ all. absurd (both_ways (p (slice_index_or xs i d)) e (every-at p xs i d h all)))
    (λ f. f) (cases_Bool (every p xs))

pub every-from-more :
    (p : ℕ → Bool) (xs : List ℕ) (n i x : ℕ) → i < length xs → x ≡ slice_index xs i
    → every p (drop n (take i xs)) ≡ true → (n ≤ i → p x ≡ true)
    → every p (drop n (take (i + 1) xs)) ≡ true
every-from-more p xs n i x h read e f =
    let long : length (take i xs) ≡ i = length-take-le i xs (omega arith) in
    ap (λ l. every p (drop n l)) (take_more xs i 0 h)
    ∙ ⊎_elim
    (λ below.
    ap (every p) (drop_all n (take i xs ++ slice_index xs i ∷ []) (let l =
    length-append (take i xs) (slice_index xs i ∷ []) in omega arith)))
    (λ above.
    ap (every p) (drop-append-le n (take i xs) (slice_index xs i ∷ []) (omega arith))
    ∙ every_append p (drop n (take i xs)) (slice_index xs i ∷ []) e
    (and_from _ true (ap p (sym read) ∙ f above) refl))
    (cases_lt i n)

pub zero-behind :
    (r : TextRecord) (i : ℕ) → i < length r.bytes → r.len ≤ i → text_sound r ≡ true
    → slice_index r.bytes i ≡ 0
zero-behind r i h above e =
    let zeros = (and_parts (every is_byte r.bytes) (every is_zero (drop r.len r.bytes))
    (and_parts (nat_le r.len text_limit) _ e).1).1 in
    let k : r.len + (i - r.len) ≡ i = omega arith in
    let inside : i - r.len < length (drop r.len r.bytes) = simp length-drop (omega arith) in
    let here = eqb-true (slice_index (drop r.len r.bytes) (i - r.len)) 0
    (every-at is_zero (drop r.len r.bytes) (i - r.len) 0 inside zeros) in
    ap (λ j. slice_index r.bytes j) (sym k) ∙ sym (get_or-drop r.len r.bytes (i - r.len) 0) ∙ here

pub not_sound :
    (r : TextRecord) (i : ℕ) → i < length r.bytes → r.len ≤ i → (slice_index r.bytes i ≢ 0)
    → text_sound r ≡ false
not_sound r i h above ne =
    ⊎_elim (λ e. absurd (ne (zero-behind r i h above e))) (λ e. e) (cases_Bool (text_sound r))

pub allowed-from :
    (t : List ℕ) → length t ≤ text_limit → every is_byte t ≡ true → text_allowed t ≡ true
allowed-from t small e = and_from _ _ (le-leb (length t) text_limit small) e

pub record-sound : (t : List ℕ) → text_allowed t ≡ true → text_sound (text_record t) ≡ true
record-sound t e =
    let h = and_parts _ _ e in
    and_from _ _ h.0 (and_from _ _ (every-padded text_limit t h.1)
    (ap (every is_zero) (drop-padded text_limit t) ∙ every-replicate is_zero (text_limit - length t)
    0 refl))

-- a list that is zero from n on is its front with zeros behind it
pub padded-front :
    (n m : ℕ) (xs : List ℕ) → n ≤ m → length xs ≡ m → every is_zero (drop n xs) ≡ true
    → xs ≡ padded m (take n xs)
padded-front n m xs small long e =
    let front : length (take n xs) ≡ n = length-take-le n xs (omega arith) in
    sym (take-append-drop n xs)
    ∙ ap (λ l. take n xs ++ l) (zeros (drop n xs) e)
    ∙ ap (λ k. take n xs ++ replicate k 0) (length-drop n xs ∙ omega arith)
  where
    zeros : (ys : List ℕ) → every is_zero ys ≡ true → ys ≡ replicate (length ys) 0
    zeros [] f = refl
    zeros (y ∷ ys) f =
        let h = and_parts (is_zero y) (every is_zero ys) f in
        (λ i. eqb-true y 0 h.0 i ∷ zeros ys h.1 i)

pub text-lawful : Lawful text_kind
text-lawful = record {
  rest-allowed = refl;
  text-allowed =
      λ r. cond_both (text_sound r) (take r.len r.bytes) [] (λ t. text_allowed t ≡ true)
      (allowed-take r) (λ e. refl);
  text-raw =
      λ t e. cond-true (text_sound (text_record t)) (take (length t) (padded text_limit t)) []
      (record-sound t e)
      ∙ take-padded text_limit t;
  short =
      λ t e. leb-true (length t) text_limit
      (and_parts (nat_le (length t) text_limit) (every is_byte t) e).0;
  bytes = λ t e. all-bytes t (and_parts (nat_le (length t) text_limit) (every is_byte t) e).1;
}
  where
    allowed-take : (r : TextRecord) → text_sound r ≡ true → text_allowed (take r.len r.bytes) ≡ true
    allowed-take r e =
        let h = and_parts (nat_le r.len text_limit) _ e in
        let small = leb-true r.len text_limit h.0 in
        let all = (and_parts (every is_byte r.bytes) (every is_zero (drop r.len r.bytes)) h.1).0 in
        allowed-from (take r.len r.bytes) (simp length-take (omega arith))
        (every_take is_byte r.len r.bytes all)

-- where each whole record is the one made of its text, no two have the same text
pub apart_from :
    {R : Type 0} (k : Kind R) (whole : R → Bool) → ((r : R) → whole r ≡ true → k.raw (k.text r) ≡ r)
    → (r s : R) → whole r ≡ true → whole s ≡ true → k.text r ≡ k.text s → r ≡ s
apart_from k whole back r s e f same = sym (back r e) ∙ ap k.raw same ∙ back s f

-- the record of what r means: r where it is sound, and otherwise that of the rest value
pub canonical-from :
    {R : Type 0} (k : Kind R) (sound : R → Bool) (r : R) → (sound r ≡ true → k.raw (k.text r) ≡ r)
    → (sound r ≡ false → k.text r ≡ k.rest) → k.raw (k.text r) ≡ cond (sound r) r (rest_record k)
canonical-from k sound r back unsound =
    cond_both (sound r) r (rest_record k) (λ s. k.raw (k.text r) ≡ s) back
    (λ e. ap k.raw (unsound e))

pub text-written :
    (r : TextRecord) → text_sound r ≡ true → length r.bytes ≡ text_limit
    → (r.len ≡ length (text_of r)) × (r.bytes ≡ padded text_limit (text_of r))
text-written r e long =
    let h = and_parts (nat_le r.len text_limit) _ e in
    let small = leb-true r.len text_limit h.0 in
    let zeros = (and_parts (every is_byte r.bytes) (every is_zero (drop r.len r.bytes)) h.1).1 in
    let is : text_of r ≡ take r.len r.bytes = cond-true (text_sound r) (take r.len r.bytes) []
    e in (
      sym (length-take-le r.len r.bytes (omega arith)) ∙ ap length (sym is),
      padded-front r.len text_limit r.bytes small long zeros ∙ ap (padded text_limit) (sym is),
    )

-- a whole record is the one made of its text
pub raw-text : (r : TextRecord) → text_whole r ≡ true → text_record (text_of r) ≡ r
raw-text r e =
    let h = and_parts (length r.bytes == text_limit) (text_sound r) e in
    let (len, bytes) = text-written r h.1 (eqb-true (length r.bytes) text_limit h.0) in
    λ i. record { bytes = sym bytes i; len = sym len i }

pub text-represents : Represents text_kind text_sound text_whole
text-represents = record {
  raw-whole =
      λ t e. and_from _ _ (eq-eqb _ text_limit
      (length-padded text_limit t
      (leb-true (length t) text_limit
      (and_parts (nat_le (length t) text_limit) (every is_byte t) e).0))) (record-sound t e);
  unsound = λ r e. cond-false (text_sound r) (take r.len r.bytes) [] e;
  apart = apart_from text_kind text_whole raw-text;
}

pub none-from-cond : {X : Type 0} (b : Bool) (y : X) → None ≡ cond b (Some y) None → b ≡ false
none-from-cond true y e = absurd (none-some y e)
none-from-cond false y e = refl

pub some-from-cond :
    {X : Type 0} (b : Bool) (x y : X) → Some x ≡ cond b (Some y) None → (b ≡ true) × (x ≡ y)
some-from-cond b x y e = let h = cond_some b y x (sym e) in (h.0, sym h.1)
