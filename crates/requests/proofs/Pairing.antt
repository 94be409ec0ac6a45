-- Pairs: the reader of `specs/Requests` against the pairs of `specs/Asked`.
use Rattle.std.proofs.Common.{◌≡◌, ℕ, ◌+◌, ◌<◌, ◌≤◌, Bool, true, false, cond, eqb, leb, List, []}
use Rattle.std.proofs.Common.{◌∷◌, ◌++◌, map, length, get_or, take, drop, is_some, Some, None, Ok}
use Rattle.std.proofs.Common.{Err, Option, Result, sym, refl, ap, ◌∙◌, subst, ⊎_elim, arith}
use Rattle.std.specs.Option.{option_map}
use Rattle.std.specs.List.{AllByRecursion, position_or_len}
use Rattle.std.proofs.ByRecursion.{All-get_or}
use Rattle.std.proofs.lemmas.List.{length-append, length-set, get_or-replicate, take_at, drop_at}
use Rattle.std.proofs.lemmas.List.{drop-drop}
use Rattle.std.proofs.lemmas.List.Sums.{passes_at_first, split_at_first}
use Rattle.std.proofs.lemmas.Bool.{cases_Bool, cond-true, cond-false, both_ways, or_from, or_left}
use Rattle.std.proofs.lemmas.Bool.{or_right, eqb-true, eqb-false, eq-eqb, ne_eqb, lt-ltb}
use Rattle.std.proofs.lemmas.Bool.Decides.{nat_tests}
use Rattle.std.proofs.lemmas.Grind.{common_steps}
use Rattle.tlcp.specs.Lines.{and_then}
use Rattle.std.specs.Result.{result_map_both}
use Rattle.row.specs.declared.fault.Refusal.{Refusal}
use Rattle.row.specs.Texts.{every}
use Rattle.tlcp.specs.Escapes.{decoded}
use Rattle.tlcp.specs.Parts.{before, behind, place_of}
use Rattle.tlcp.specs.Dividing.{first_with, has, NoneHas}
use Rattle.tlcp.specs.Lines.{same_bytes}
use Rattle.tlcp.proofs.Words.{first_word}
use Rattle.tlcp.proofs.Words.{same_bytes_lem}
use Rattle.tlcp.proofs.Encoded.{has-append}
use Rattle.tlcp.proofs.Places.{place-is}
use Rattle.tlcp.proofs.Unescaped.{reads-escapes}
use Rattle.requests.specs.Asked.{Apart, Given, Readable, found, spelling}
use Rattle.requests.specs.Limits.{value_limit}
use Rattle.requests.specs.Names.{index_of, is_in, parameter_count, parameter_of, parameters_of}
use Rattle.requests.specs.Names.{parameter_word}
use Rattle.requests.specs.Requests.{Occurrence, Occurrences, add_occurrence, is_given}
use Rattle.requests.specs.Requests.{no_occurrences, occurrence_of, parameters, read_divided}
use Rattle.requests.specs.Requests.{read_known, read_pair, read_pairs, given_text}
use Rattle.tlcp.specs.Bytes.{is_plain}
use Rattle.requests.specs.Values.{plain_or, read_value}
use Rattle.requests.specs.declared.name.Name.{Name}
use Rattle.requests.specs.declared.name.Parameter.{Parameter}
use Rattle.requests.specs.declared.name.Parameter.TheVariants.{Cid, User, Password, Session}
use Rattle.requests.specs.declared.name.Parameter.TheVariants.{RequestId, Operation, SubscriptionId}
use Rattle.requests.specs.declared.name.Parameter.TheVariants.{Group, Schema, Mode, Snapshot}
use Rattle.requests.proofs.Fitting.{decides-every, decides-leb, same_self}

-- what is refused is no result
pub refused : {X P : Type 0} {r : Refusal} {x : X} → Err r ≡ Ok x → P
refused e = absurd (let z : ◌≡◌ {A = ℕ} 0 1 = cc in omega arith)

-- an answer that is no refusal came from answers that are none
pub then_ok : {X Y : Type 0} (r : Result X Refusal) (f : X → Result Y Refusal) (y : Y)
    → and_then r f ≡ Ok y → (x : X) × (r ≡ Ok x) × (f x ≡ Ok y)
then_ok (Ok x) f y e = (x, refl, e)
then_ok (Err r) f y e = refused e

on-ok : {X Y : Type 0} (f : X → Y) (r : Result X Refusal) (y : Y)
    → result_map_both f (λ e. e) r ≡ Ok y → (x : X) × (r ≡ Ok x) × (f x ≡ y)
on-ok f (Ok x) y e = (x, refl, cc)
on-ok f (Err r) y e = refused e

pub ok-where : {X : Type 0} (t : Bool) (r : Result X Refusal) (f : Refusal) (x : X)
    → cond t r (Err f) ≡ Ok x → (t ≡ true) × (r ≡ Ok x)
ok-where true r f x e = (refl, e)
ok-where false r f x e = refused e

pub ok-unless : {X : Type 0} (t : Bool) (r : Result X Refusal) (f : Refusal) (x : X)
    → cond t (Err f) r ≡ Ok x → (t ≡ false) × (r ≡ Ok x)
ok-unless true r f x e = refused e
ok-unless false r f x e = (refl, e)

-- each parameter stands at its index among all, is the first with its word, and has neither `=` nor
-- `&` in that
record Known (p : Parameter) : Type 0 where
  index : get_or parameters (index_of p) Cid ≡ p
  small : index_of p < parameter_count
  word : first_with parameter_word parameters (parameter_word p) ≡ Some p
  equals : has 61 (parameter_word p) ≡ false
  and : has 38 (parameter_word p) ≡ false

known : (p : Parameter) → Known p
known Cid = record { index = refl; small = omega arith; word = refl; equals = refl; and = refl }
known User = record { index = refl; small = omega arith; word = refl; equals = refl; and = refl }
known Password =
    record { index = refl; small = omega arith; word = refl; equals = refl; and = refl }
known Session = record { index = refl; small = omega arith; word = refl; equals = refl; and = refl }
known RequestId =
    record { index = refl; small = omega arith; word = refl; equals = refl; and = refl }
known Operation =
    record { index = refl; small = omega arith; word = refl; equals = refl; and = refl }
known SubscriptionId =
    record { index = refl; small = omega arith; word = refl; equals = refl; and = refl }
known Group = record { index = refl; small = omega arith; word = refl; equals = refl; and = refl }
known Schema = record { index = refl; small = omega arith; word = refl; equals = refl; and = refl }
known Mode = record { index = refl; small = omega arith; word = refl; equals = refl; and = refl }
known Snapshot =
    record { index = refl; small = omega arith; word = refl; equals = refl; and = refl }

pub index-small : (p : Parameter) → index_of p < parameter_count
index-small p = (known p).small

-- so its index tells a parameter, and its word does
pub same_index : (p q : Parameter) → eqb (index_of p) (index_of q) ≡ true → p ≡ q
same_index p q e = sym (known p).index
    ∙ ap (λ n. get_or parameters n Cid) (eqb-true (index_of p) (index_of q) e) ∙ (known q).index

same_word : (p q : Parameter) → parameter_word p ≡ parameter_word q → p ≡ q
same_word p q e = let same : Some p ≡ Some q = sym (known p).word
    ∙ ap (first_with parameter_word parameters) e ∙ (known q).word in cc

-- what holds of all parameters in their order holds of each
pub each : (P : Parameter → Type 0) → AllByRecursion P parameters → (p : Parameter) → P p
each P all p = subst P (known p).index
    (All-get_or P parameters (index_of p) Cid (known p).small all)

-- a parameter is found by its word exactly where it is one of those looked through
first-in : (xs : List Parameter) (s : List ℕ) (p : Parameter)
    → first_with parameter_word xs s ≡ Some p → is_in p xs ≡ true
first-in [] s p e = cc
first-in (q ∷ xs) s p e =
    ⊎_elim
    (λ this.
    let same : p ≡ q = cc (cond-true _ (Some q) (first_with parameter_word xs s) this) in
    or_left _ _ (eq-eqb (index_of p) (index_of q) (ap index_of same)))
    (λ other. or_right (eqb (index_of p) (index_of q)) _
    (first-in xs s p (sym (cond-false _ (Some q) _ other) ∙ e)))
    (cases_Bool (same_bytes s (parameter_word q)))

in-first : (xs : List Parameter) (p : Parameter) → is_in p xs ≡ true
    → first_with parameter_word xs (parameter_word p) ≡ Some p
in-first [] p e = cc
in-first (q ∷ xs) p e = grind (
  arith,
  nat_tests,
  in-first xs p,
  same_word p q,
  same_bytes_lem (parameter_word p)
      (parameter_word q),
  same_index p q,
  same_self (parameter_word p),
)

-- a text cut at the first c
module _ (c : ℕ) where
  cut-whole : (s : List ℕ) → place_of c s < length s
      → before c s ++ (c ∷ drop (place_of c s + 1) s) ≡ s
  cut-whole s =
      subst (λ n. n < length s → take n s ++ (c ∷ drop (n + 1) s) ≡ s) (sym (place-is c s))
      (λ inside.
      let n = position_or_len (λ b. eqb b c) s in
      ap (λ d. take n s ++ (d ∷ drop (n + 1) s))
      (sym (eqb-true _ c (passes_at_first (λ b. eqb b c) s c inside)))
      ∙ sym (split_at_first (λ b. eqb b c) s c inside))

  behind-whole : (s t : List ℕ) → behind c s ≡ Some t → before c s ++ (c ∷ t) ≡ s
  behind-whole s t e = grind (arith, nat_tests, cut-whole s)

  place-whole : (s t : List ℕ) → has c s ≡ false → place_of c (s ++ (c ∷ t)) ≡ length s
  place-whole [] t e = cond-true (eqb c c) _ _ (eq-eqb c c refl)
  place-whole (b ∷ s) t e = grind (arith, nat_tests, place-whole s t)

  before-whole : (s t : List ℕ) → has c s ≡ false → before c (s ++ (c ∷ t)) ≡ s
  before-whole s t e = take_at s (c ∷ t) _ (sym (place-whole s t e))

  whole-behind : (s t : List ℕ) → has c s ≡ false → behind c (s ++ (c ∷ t)) ≡ Some t
  whole-behind s t e =
      let place = place-whole s t e in
      let inside : place_of c (s ++ (c ∷ t)) < length (s ++ (c ∷ t)) = omega
      (arith, length-append s (c ∷ t)) in
      cond-true _ _ None (lt-ltb _ _ inside)
      ∙ ap Some (ap (λ n. drop (n + 1) (s ++ (c ∷ t))) place
      ∙ sym (drop-drop 1 (length s) (s ++ (c ∷ t)))
      ∙ ap (drop 1) (drop_at s (c ∷ t) (length s) refl))

-- a value is read exactly from bytes that are sound
plain-read : (at : ℕ) (raw u t : List ℕ) (o : Option ℕ) → plain_or at raw u o ≡ Ok t
    → (o ≡ None) × (u ≡ t) × (every is_plain raw ≡ true) × (leb (length u) value_limit ≡ true)
plain-read at raw u t (Some n) e = refused e
plain-read at raw u t None e = grind (arith, nat_tests)

value_read : (at : ℕ) (p : Parameter) (raw t : List ℕ) → read_value at raw ≡ Ok t
    → Readable (record { parameter = p; raw = raw; text = t })
value_read at p raw t e =
    let (fault, bytes, plain, short) = plain-read at raw (decoded raw).bytes t
    (decoded raw).fault e in
    record {
      plain = (decides-every is_plain raw).0 plain;
      decodes = (reads-escapes raw t).0 (λ i. record { bytes = bytes i; fault = fault i });
      short = subst (λ u. length u ≤ value_limit) bytes
          ((decides-leb (length (decoded raw).bytes) value_limit).0 short);
    }

read-value : (at : ℕ) (g : Given) → Readable g → read_value at g.raw ≡ Ok g.text
read-value at g h =
    ap (λ d. plain_or at g.raw d.bytes d.fault) ((reads-escapes g.raw g.text).1 h.decodes)
    ∙ cond-true _ _ _ ((decides-every is_plain g.raw).1 h.plain)
    ∙ cond-true _ _ _ ((decides-leb (length g.text) value_limit).1 h.short)

-- a parameter is given exactly where it has a text
pub given-text : (p : Parameter) (ps : Occurrences) → is_some (given_text p ps) ≡ is_given p ps
given-text p ps = at (occurrence_of p ps)
  where
    at : (o : Option Occurrence) → is_some (option_map (λ x. x.text) o) ≡ is_some o
    at None = refl
    at (Some x) = refl

none_is : (o : Option (List ℕ)) → is_some o ≡ false → o ≡ None
none_is None e = refl
none_is (Some t) e = absurd (both_ways true e refl)

-- a pair that a request of this name may have
abbrev pub Listed : Name → Given → Type 0
Listed n g = Readable g × (is_in g.parameter (parameters_of n) ≡ true)

module _ (n : Name) (at : ℕ) (ps : Occurrences) where
  -- qs is ps with the pair g, which is listed, and is not given there
  abbrev Adds : Given → Occurrences → Type 0
  Adds g qs = Listed n g × (given_text g.parameter ps ≡ None)
      × ((value_at : ℕ) × (add_occurrence g.parameter at value_at ps g.text ≡ qs))

  known_read : (value_at : ℕ) (w raw : List ℕ) (o : Option Parameter) (qs : Occurrences)
      → parameter_of n w ≡ o → read_known at value_at raw ps o ≡ Ok qs
      → (g : Given) × (g.raw ≡ raw) × (parameter_word g.parameter ≡ w) × Adds g qs
  known_read value_at w raw None qs is e = refused e
  known_read value_at w raw (Some p) qs is e =
      let (fresh, rest) = ok-unless (is_given p ps) _ _ qs e in
      let (t, value, same) = on-ok (add_occurrence p at value_at ps)
      (read_value value_at raw) qs rest in (
        record { parameter = p; raw = raw; text = t },
        refl,
        sym
            (first_word parameter_word (parameters_of n) w p is),
        (
          (value_read value_at p raw t value, first-in (parameters_of n) w p is),
          none_is
              (given_text p ps) (given-text p ps ∙ fresh),
          (value_at, same),
        ),
      )

  pair_read : (s : List ℕ) (qs : Occurrences) → read_pair n at s ps ≡ Ok qs
      → (g : Given) × (spelling g ≡ s) × Adds g qs
  pair_read s qs = divided (behind 61 s) refl
    where
      divided : (o : Option (List ℕ)) → behind 61 s ≡ o → read_divided n at s ps o ≡ Ok qs
          → (g : Given) × (spelling g ≡ s) × Adds g qs
      divided None is e = refused e
      divided (Some raw) is e =
          let (g, same, word, adds) = known_read _ (before 61 s) raw _ qs refl e in
          (g, (λ i. word i ++ (61 ∷ same i)) ∙ behind-whole 61 s raw is, adds)

  read-pair : (g : Given) → Listed n g → given_text g.parameter ps ≡ None
      → read_pair n at (spelling g) ps
      ≡ Ok (add_occurrence g.parameter at (at + (place_of 61 (spelling g) + 1)) ps g.text)
  read-pair g (sound, member) fresh =
      let p = g.parameter in
      let plain = (known p).equals in
      let value_at = at + (place_of 61 (spelling g) + 1) in
      ap (read_divided n at (spelling g) ps) (whole-behind 61 (parameter_word p) g.raw plain)
      ∙ ap (read_known at value_at g.raw ps)
      (ap (parameter_of n) (before-whole 61 (parameter_word p) g.raw plain)
      ∙ in-first (parameters_of n) p member)
      ∙ cond-false _ _ _ (sym (given-text p ps) ∙ ap is_some fresh)
      ∙ ap (result_map_both (add_occurrence p at value_at ps) (λ e. e))
      (read-value value_at g sound)

-- the value of a parameter, or else what it was before
abbrev or_else : Option (List ℕ) → Option (List ℕ) → Option (List ℕ)
or_else None o = o
or_else (Some t) o = Some t

else-none : (o : Option (List ℕ)) → or_else o None ≡ o
else-none None = refl
else-none (Some t) = refl

pub none-parts : (b : Bool) (t : List ℕ) (o : Option (List ℕ)) → cond b (Some t) o ≡ None
    → (b ≡ false) × (o ≡ None)
none-parts true t o e = ((cc), (cc))
none-parts false t o e = (refl, e)

differ : (m n : ℕ) → eqb m n ≡ false → eqb n m ≡ false
differ m n e = ne_eqb n m (λ same. eqb-false m n e (sym same))

-- the values before and after one more is given
module _ (g : Given) (old new : Parameter → Option (List ℕ))
    (is : (p : Parameter)
    → new p ≡ cond (eqb (index_of p) (index_of g.parameter)) (Some g.text) (old p)) where
  apart_from : (gs : List Given) → AllByRecursion (λ h. new h.parameter ≡ None) gs
      → (found gs g.parameter ≡ None) × AllByRecursion (λ h. old h.parameter ≡ None) gs
  apart_from [] all = (refl, tt)
  apart_from (h ∷ gs) (here, more) =
      let (other, none) = none-parts _ _ _ (sym (is h.parameter) ∙ here) in
      let (apart, rest) = apart_from gs more in
      (cond-false _ _ _ (differ _ _ other) ∙ apart, (none, rest))

  from-apart : (gs : List Given) → found gs g.parameter ≡ None
      → AllByRecursion (λ h. old h.parameter ≡ None) gs
      → AllByRecursion (λ h. new h.parameter ≡ None) gs
  from-apart [] apart all = tt
  from-apart (h ∷ gs) apart (here, more) =
      let (other, rest) = none-parts _ _ _ apart in
      (is h.parameter ∙ cond-false _ _ _ (differ _ _ other) ∙ here, from-apart gs rest more)

  else-more : (gs : List Given) → found gs g.parameter ≡ None → (p : Parameter)
      → or_else (found gs p) (new p) ≡ or_else (found (g ∷ gs) p) (old p)
  else-more gs apart p = grind (arith, nat_tests, same_index p g.parameter, is p)

text-added : (p : Parameter) (at value_at : ℕ) (ps : Occurrences) (t : List ℕ)
    → length ps ≡ parameter_count → (q : Parameter)
    → given_text q (add_occurrence p at value_at ps t)
    ≡ cond (eqb (index_of q) (index_of p)) (Some t) (given_text q ps)
text-added p at value_at ps t size q = grind
    (arith, nat_tests, common_steps, same_index q p, (known p).small)

-- qs is ps with the pairs gs, which are listed, are given once each, and are not given in ps
record Taken (n : Name) (ps qs : Occurrences) (gs : List Given) : Type 0 where
  listed : AllByRecursion (Listed n) gs
  apart : Apart gs
  fresh : AllByRecursion (λ g. given_text g.parameter ps ≡ None) gs
  texts : (p : Parameter) → given_text p qs ≡ or_else (found gs p) (given_text p ps)

pairs-read : (n : Name) (at : ℕ) (ss : List (List ℕ)) (ps qs : Occurrences)
    → length ps ≡ parameter_count → read_pairs n at ss ps ≡ Ok qs
    → (gs : List Given) × (map spelling gs ≡ ss) × Taken n ps qs gs
pairs-read n at [] ps qs size e = let same : ps
    ≡ qs = cc in (
      [],
      refl,
      record {
        listed = tt;
        apart = tt;
        fresh = tt;
        texts = λ p. ap
            (given_text p) (sym same);
      },
    )
pairs-read n at (s ∷ ss) ps qs size e =
    let (rs, first, rest) = then_ok (read_pair n at s ps) _ qs e in
    let (g, spelled, adds) = pair_read n at ps s rs first in
    let (listed, fresh, (value_at, same)) = adds in
    let long = ap length (sym same) ∙ length-set ps (index_of g.parameter) _ ∙ size in
    let (gs, others, taken) = pairs-read n (at + (length s + 1)) ss rs qs long rest in
    let added = λ (p : Parameter). ap (given_text p) (sym same)
    ∙ text-added g.parameter at value_at ps g.text size p in
    let (apart, older) = apart_from g (λ p. given_text p ps)
    (λ p. given_text p rs) added gs taken.fresh in (
      g ∷ gs,
      (λ i. spelled i ∷ others i),
      record {
        listed = (listed, taken.listed);
        apart =
            (apart, taken.apart);
        fresh = (fresh, older);
        texts = λ p. taken.texts p
            ∙ else-more g (λ q. given_text q ps) (λ q. given_text q rs) added gs apart p;
      },
    )

read_pairs-given : (n : Name) (at : ℕ) (gs : List Given) (ps : Occurrences)
    → length ps ≡ parameter_count → AllByRecursion (Listed n) gs → Apart gs
    → AllByRecursion (λ g. given_text g.parameter ps ≡ None) gs
    → (qs : Occurrences) × (read_pairs n at (map spelling gs) ps ≡ Ok qs)
    × ((p : Parameter) → given_text p qs ≡ or_else (found gs p) (given_text p ps))
read_pairs-given n at [] ps size listed apart fresh = (ps, refl, λ p. refl)
read_pairs-given n at (g ∷ gs) ps size (listed, more) (apart, rest) (fresh, others) =
    let value_at = at + (place_of 61 (spelling g) + 1) in
    let rs = add_occurrence g.parameter at value_at ps g.text in
    let added = text-added g.parameter at value_at ps g.text size in
    let long = length-set ps (index_of g.parameter) _ ∙ size in
    let next = at + (length (spelling g) + 1) in
    let (qs, read, texts) = read_pairs-given n next gs rs long more rest
    (from-apart g (λ p. given_text p ps) (λ p. given_text p rs) added gs apart others) in (
      qs,
      ap (λ r. and_then r (read_pairs n next (map spelling gs))) (read-pair n at ps g listed fresh)
          ∙ read,
      λ p. texts p ∙ else-more g (λ q. given_text q ps) (λ q. given_text q rs) added gs apart p,
    )

nothing-given : (p : Parameter) → given_text p no_occurrences ≡ None
nothing-given p = ap (option_map (λ y. y.text))
    (get_or-replicate parameter_count (index_of p) None None (known p).small)

none-fresh : (gs : List Given)
    → AllByRecursion (λ g. given_text g.parameter no_occurrences ≡ None) gs
none-fresh [] = tt
none-fresh (g ∷ gs) = (nothing-given g.parameter, none-fresh gs)

all-texts : (gs : List Given) (qs : Occurrences)
    → ((p : Parameter) → given_text p qs ≡ or_else (found gs p) (given_text p no_occurrences))
    → (λ p. given_text p qs) ≡ found gs
all-texts gs qs texts = λ i p.
    (texts p ∙ ap (or_else (found gs p)) (nothing-given p) ∙ else-none (found gs p)) i

-- texts are read as pairs exactly where they spell pairs that are listed, each parameter once, and
-- their values are then found
pub all_read : (n : Name) (at : ℕ) (ss : List (List ℕ)) (qs : Occurrences)
    → read_pairs n at ss no_occurrences ≡ Ok qs
    → (gs : List Given) × (map spelling gs ≡ ss) × AllByRecursion (Listed n) gs × Apart gs
    × ((λ p. given_text p qs) ≡ found gs)
all_read n at ss qs e =
    let (gs, spelled, taken) = pairs-read n at ss no_occurrences qs refl e in
    (gs, spelled, taken.listed, taken.apart, all-texts gs qs taken.texts)

pub read_all : (n : Name) (at : ℕ) (gs : List Given) → AllByRecursion (Listed n) gs → Apart gs
    → (qs : Occurrences) × (read_pairs n at (map spelling gs) no_occurrences ≡ Ok qs)
    × ((λ p. given_text p qs) ≡ found gs)
read_all n at gs listed apart =
    let (qs, read, texts) = read_pairs-given n at gs no_occurrences refl listed apart
    (none-fresh gs) in
    (qs, read, all-texts gs qs texts)

-- no `&` stands in a pair
no-and : (s : List ℕ) → AllByRecursion (λ b. is_plain b ≡ true) s → has 38 s ≡ false
no-and [] plain = refl
no-and (b ∷ s) (here, more) = or_from (eqb b 38) (has 38 s) (grind (arith, nat_tests))
    (no-and s more)

pub none_has : (gs : List Given) → AllByRecursion Readable gs → NoneHas 38 (map spelling gs)
none_has [] sound = tt
none_has (g ∷ gs) (here, more) = (
  has-append 38 (parameter_word g.parameter) (61 ∷ g.raw) (known g.parameter).and
      (no-and g.raw here.plain),
  none_has gs more,
)
