-- What is written is read back: it is short enough, and it asks for what its pairs say.
use Rattle.std.proofs.Common.{◌≡◌, ℕ, ◌+◌, ◌*◌, ◌/◌, ◌%◌, ◌<◌, ◌≤◌, Bool, true, false, cond, ◌||◌}
use Rattle.std.proofs.Common.{eqb, List, [], ◌∷◌, ◌++◌, map, length, is_some, Some, None, Option}
use Rattle.std.proofs.Common.{sym, refl, ap, ◌∙◌, append_assoc, arith, lit≤}
use Rattle.std.specs.List.{AllByRecursion}
use Rattle.std.proofs.ByRecursion.{All-weaker}
use Rattle.std.proofs.lemmas.List.{length-append, length-drop, length-map}
use Rattle.std.proofs.lemmas.Bool.{both_ways, eq-eqb, eqb-true, not-false, or_right}
use Rattle.std.proofs.lemmas.Bool.Decides.{nat_tests}
use Rattle.tlcp.specs.Bytes.{is_plain, is_reserved}
use Rattle.tlcp.specs.Escapes.{encoded_by, hex_digit, spelled}
use Rattle.tlcp.specs.Dividing.{each_behind, joined_by}
use Rattle.tlcp.proofs.Unescaped.{decodes-by, length-by}
use Rattle.requests.specs.Asked.{Given, Readable, Apart, ReadsAsked, found, spelling}
use Rattle.requests.specs.Limits.{value_limit}
use Rattle.requests.specs.Names.{index_of, is_in, name_word, parameters_of, parameter_word, takes}
use Rattle.requests.proofs.Forming.{takes-in}
use Rattle.requests.specs.Requests.{request_of}
use Rattle.requests.specs.declared.name.Form.{Form}
use Rattle.requests.specs.declared.name.Name.{Name}
use Rattle.requests.specs.declared.name.Name.TheVariants.{CreateSession, BindSession, Control}
use Rattle.requests.specs.declared.name.Parameter.{Parameter}
use Rattle.requests.specs.declared.name.Parameter.TheVariants.{Cid, User, Password, Session}
use Rattle.requests.specs.declared.name.Parameter.TheVariants.{RequestId, Operation, SubscriptionId}
use Rattle.requests.specs.declared.name.Parameter.TheVariants.{Group, Schema, Mode, Snapshot}
use Rattle.compose.specs.Written.{Assignment, given_by, head_text, written}
use Rattle.compose.specs.Held.{Writable, WithinLimit}
use Rattle.compose.specs.ReadBack.{Keeps, value_in, ReadsBack}

abbrev unit : Bool → ℕ
unit b = cond b 1 0

-- how many of some parameters are found
abbrev count_in : List Given → List Parameter → ℕ
count_in gs [] = 0
count_in gs (p ∷ ps) = unit (is_some (found gs p)) + count_in gs ps

count-few : (gs : List Given) (ps : List Parameter) → count_in gs ps ≤ length ps
count-few gs [] = omega arith
count-few gs (p ∷ ps) = omega (arith, count-few gs ps, one (is_some (found gs p)))
  where
    one : (b : Bool) → unit b ≤ 1
    one true = lit≤ tt
    one false = lit≤ tt

-- a pair in front finds no fewer
count-more : (g : Given) (gs : List Given) (ps : List Parameter)
    → count_in gs ps ≤ count_in (g ∷ gs) ps
count-more g gs [] = omega arith
count-more g gs (p ∷ ps) = omega
    (arith, count-more g gs ps, one (eqb (index_of p) (index_of g.parameter)) (found gs p))
  where
    one : (b : Bool) (o : Option (List ℕ))
        → unit (is_some o) ≤ unit (is_some (cond b (Some g.text) o))
    one true None = lit≤ tt
    one true (Some t) = lit≤ tt
    one false None = lit≤ tt
    one false (Some t) = lit≤ tt

same-found : (gs : List Given) (p q : Parameter) → index_of p ≡ index_of q → found gs p ≡ found gs q
same-found [] p q e = refl
same-found (g ∷ gs) p q e = λ i. cond (eqb (e i) (index_of g.parameter)) (Some g.text)
    (same-found gs p q e i)

-- and one more, if its parameter is among them and was not found
count-new : (g : Given) (gs : List Given) (ps : List Parameter) → found gs g.parameter ≡ None
    → is_in g.parameter ps ≡ true → count_in gs ps + 1 ≤ count_in (g ∷ gs) ps
count-new g gs [] new is = absurd (both_ways true (sym is) refl)
count-new g gs (p ∷ ps) new is = by (eqb (index_of g.parameter) (index_of p)) refl is
    (count-new g gs ps new)
  where
    by : (b : Bool) → eqb (index_of g.parameter) (index_of p) ≡ b
        → (b || is_in g.parameter ps) ≡ true
        → (is_in g.parameter ps ≡ true → count_in gs ps + 1 ≤ count_in (g ∷ gs) ps)
        → count_in gs (p ∷ ps) + 1 ≤ count_in (g ∷ gs) (p ∷ ps)
    by true here rest more =
        let e = eqb-true _ _ here in
        let was : unit (is_some (found gs p))
        ≡ 0 = ap (λ o. unit (is_some o)) (same-found gs p g.parameter (sym e) ∙ new) in
        let now : unit (is_some (found (g ∷ gs) p))
        ≡ 1 = ap (λ b. unit (is_some (cond b (Some g.text) (found gs p))))
        (eq-eqb (index_of p) (index_of g.parameter) (sym e)) in
        omega (arith, count-more g gs ps)
    by false here rest more = omega (arith, more rest, count-more g gs (p ∷ []))

-- pairs apart are no more than the parameters that they are of
few : (gs : List Given) (ps : List Parameter) → Apart gs
    → AllByRecursion (λ g. is_in g.parameter ps ≡ true) gs → length gs ≤ count_in gs ps
few [] ps a is = omega arith
few (g ∷ gs) ps a is = omega (arith, few gs ps a.1 is.1, count-new g gs ps a.0 is.0)

-- so a request has at most seven
names-few : (name : Name) → length (parameters_of name) ≤ 7
names-few CreateSession = lit≤ tt
names-few BindSession = lit≤ tt
names-few Control = lit≤ tt

head-short : (name : Name) → length (head_text name) ≤ 16
head-short CreateSession = lit≤ tt
head-short BindSession = lit≤ tt
head-short Control = lit≤ tt

word-short : (p : Parameter) → length (parameter_word p) ≤ 11
word-short Cid = lit≤ tt
word-short User = lit≤ tt
word-short Password = lit≤ tt
word-short Session = lit≤ tt
word-short RequestId = lit≤ tt
word-short Operation = lit≤ tt
word-short SubscriptionId = lit≤ tt
word-short Group = lit≤ tt
word-short Schema = lit≤ tt
word-short Mode = lit≤ tt
word-short Snapshot = lit≤ tt

-- a pair and the `&` before it take at most 205 bytes, of them 192 for a value of 64
pairs-short : (xs : List Assignment) → AllByRecursion (λ x. length x.value ≤ value_limit) xs
    → length (each_behind 38 (map spelling (map given_by xs))) ≤ 205 * length xs
pairs-short [] h = omega arith
pairs-short (x ∷ xs) h =
    let rest = each_behind 38 (map spelling (map given_by xs)) in
    let value = encoded_by is_reserved x.value in
    omega (
      arith,
      length-append (spelling (given_by x)) rest,
      length-append
          (parameter_word x.parameter)
          (61 ∷ value),
      word-short x.parameter,
      length-by is_reserved x.value,
      h.0,
      pairs-short xs h.1,
    )

only-given : (xs : List Assignment) (ps : List Parameter)
    → AllByRecursion (λ x. is_in x.parameter ps ≡ true) xs
    → AllByRecursion (λ g. is_in g.parameter ps ≡ true) (map given_by xs)
only-given [] ps h = tt
only-given (x ∷ xs) ps h = (h.0, only-given xs ps h.1)

pub within-limit : WithinLimit
within-limit name xs h =
    let gs = map given_by xs in
    let body = each_behind 38 (map spelling gs) in
    let few = few gs (parameters_of name) h.apart (only-given xs (parameters_of name) h.known) in
    let seven : length gs ≤ 7 = omega
    (arith, few, count-few gs (parameters_of name), names-few name) in
    omega (
      arith,
      length-append (head_text name)
          (joined_by 38 (map spelling gs)),
      length-drop 1 body,
      head-short name,
      pairs-short xs h.short,
      length-map xs given_by,
    )

-- an escaped value is plain
plain-digit : (n : ℕ) → n < 16 → is_plain (hex_digit n) ≡ true
plain-digit n h = grind (arith, nat_tests)

plain_other : (b : ℕ) → is_reserved b ≡ false → is_plain b ≡ true
plain_other b e = or_right (eqb b 37) _ (not-false _ e)

plain_by : (t : List ℕ) → AllByRecursion (λ b. b < 256) t
    → AllByRecursion (λ b. is_plain b ≡ true) (encoded_by is_reserved t)
plain_by [] h = tt
plain_by (b ∷ t) h = by (is_reserved b) refl h.0 (plain_by t h.1)
  where
    by : (v : Bool) → is_reserved b ≡ v → b < 256
        → AllByRecursion (λ c. is_plain c ≡ true) (encoded_by is_reserved t)
        → AllByRecursion (λ c. is_plain c ≡ true) (spelled v b ++ encoded_by is_reserved t)
    by true is small rest =
        (refl, (plain-digit (b / 16) (omega arith), (plain-digit (b % 16) (omega arith), rest)))
    by false is small rest = (plain_other b is, rest)

reserved-percent : (b : ℕ) → is_reserved b ≡ false → eqb b 37 ≡ false
reserved-percent b e = grind (arith, nat_tests)

sound-given : (xs : List Assignment)
    → AllByRecursion (λ x. AllByRecursion (λ b. b < 256) x.value) xs
    → AllByRecursion (λ x. length x.value ≤ value_limit) xs
    → AllByRecursion Readable (map given_by xs)
sound-given [] bytes short = tt
sound-given (x ∷ xs) bytes short = (
  record {
    plain =
        plain_by x.value bytes.0;
    decodes = decodes-by is_reserved reserved-percent x.value bytes.0;
    short = short.0;
  },
  sound-given xs bytes.1 short.1,
)

-- pairs of a form are of its name
pub keeps-fit : {session : ℕ} {name : Name} {form : Form} {xs : List Assignment}
    → Keeps session name form xs → Writable name xs
keeps-fit {name = name} {form = form} {xs = xs} k = record {
  known = All-weaker (λ x. is_in x.parameter (takes form) ≡ true)
      (λ x. is_in x.parameter (parameters_of name) ≡ true)
      (λ x. takes-in k.formed x.parameter) xs k.only;
  apart = k.apart;
  short = k.short;
}

-- given that the reader takes what asks for a request
pub reads-back : ReadsAsked → ReadsBack
reads-back reads session name form xs k =
    (reads session (written name xs) (request_of (value_in xs) form)).1
    (record {
      name = name;
      form = form;
      pairs = map given_by xs;
      short = within-limit name xs (keeps-fit k);
      whole = append_assoc (name_word name) (13 ∷ 10 ∷ [])
          (joined_by 38 (map spelling (map given_by xs)));
      sound = sound-given xs k.bytes k.short;
      apart = k.apart;
      formed = k.formed;
      all = k.all;
      only = only-given xs (takes form) k.only;
      right = k.right;
      is = refl;
    })
