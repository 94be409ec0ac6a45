-- Lines: the reader of `specs/Lines` against which bytes say which message.
use Rattle.std.proofs.Common.{◌≡◌, ℕ, suc, ◌+◌, ◌^◌, ◌<◌, ◌≤◌, Bool, true, false, cond, eqb, leb}
use Rattle.std.proofs.Common.{List, [], ◌∷◌, ◌++◌, length, drop, Some, None, Ok, Err, Option}
use Rattle.std.proofs.Common.{Result, sym, refl, ap, ◌∙◌, subst, ⊎_elim, arith}
use Rattle.std.specs.Option.{ok_or, option_map}
use Rattle.std.specs.List.{AllByRecursion}
use Rattle.std.proofs.lemmas.List.{length-append, take_at, drop_at, drop-drop}
use Rattle.std.proofs.lemmas.Bool.{or_parts, or_from, cases_Bool, eqb-true, leb-true, le-leb}
use Rattle.std.proofs.lemmas.Bool.{le-ltb, lt-ltb, cond-true, cond-false}
use Rattle.row.specs.Faults.{refusal}
use Rattle.row.specs.declared.fault.Fault.TheVariants.{Escape, Number}
use Rattle.row.specs.declared.fault.Refusal.{Refusal}
use Rattle.tlcp.specs.Escapes.{decoded, ReadsEscapes}
use Rattle.tlcp.specs.Limits.{line_limit}
use Rattle.tlcp.specs.Lists.{ahead}
use Rattle.tlcp.specs.Parts.{before, behind, place_of, Piece}
use Rattle.tlcp.specs.Lines.{word, tags, tag_of, Sort, number, code, text, list, sorts, Argument}
use Rattle.tlcp.specs.Lines.{numbered, coded, worded, listed, Message, piece, front, rest, and_then}
use Rattle.tlcp.specs.Lines.{sound_or, unsound, read_argument, read_arguments, arguments_of}
use Rattle.tlcp.specs.Lines.{message_of, read_tagged, read_line, OfSort, piece_of, has_comma, Laid}
use Rattle.tlcp.specs.Lines.{none, last, more, Says, ReadsSaid}
use Rattle.tlcp.specs.declared.tag.Tag.{Tag}
use Rattle.tlcp.specs.declared.tag.Tag.TheVariants.{U, Probe, Sync, Loop, Cons, Servname, Clientip}
use Rattle.tlcp.specs.declared.tag.Tag.TheVariants.{Reqok, Unsub, Conerr, End, Error, Eos, Subok}
use Rattle.tlcp.specs.declared.tag.Tag.TheVariants.{Ov, Conf, Reqerr, Conok}
use Rattle.tlcp.proofs.Reading.{ahead-ok, refused}
use Rattle.tlcp.proofs.Words.{first_word}
use Rattle.tlcp.proofs.Numerals.{reads-decimal, reads-signed}

-- what stands behind a text without commas: nothing, or a comma and more
abbrev tail_of : Option (List ℕ) → List ℕ
tail_of None = []
tail_of (Some t) = 44 ∷ t

-- every text is such a text and such a tail
parted :
    (P : List ℕ → Type 0)
    → ((x : List ℕ) (o : Option (List ℕ)) → has_comma x ≡ false → P (x ++ tail_of o)) → (s : List ℕ)
    → P s
parted P f [] = f [] None refl
parted P f (b ∷ s) =
    ⊎_elim
    (λ comma. subst (λ c. P (c ∷ s)) (sym (eqb-true b 44 comma)) (f [] (Some s) refl))
    (λ other. parted (λ t. P (b ∷ t)) (λ x o plain. f (b ∷ x) o (or_from _ _ other plain)) s)
    (cases_Bool (eqb b 44))

place_is :
    (x : List ℕ) (o : Option (List ℕ)) → has_comma x ≡ false
    → place_of 44 (x ++ tail_of o) ≡ length x
place_is [] None plain = refl
place_is [] (Some t) plain = refl
place_is (b ∷ x) o plain =
    let parts = or_parts (eqb b 44) (has_comma x) plain in
    cond-false (eqb b 44) 0 _ parts.0 ∙ ap suc (place_is x o parts.1)

before-is :
    (x : List ℕ) (o : Option (List ℕ)) → has_comma x ≡ false → before 44 (x ++ tail_of o) ≡ x
before-is x o plain = take_at x (tail_of o) _ (sym (place_is x o plain))

behind-is :
    (x : List ℕ) (o : Option (List ℕ)) → has_comma x ≡ false → behind 44 (x ++ tail_of o) ≡ o
behind-is x None plain =
    let all : length (x ++ []) ≤ place_of 44 (x ++ []) = omega (arith, place_is x None plain, length-append x []) in
    cond-false _ _ None (le-ltb _ _ all)
behind-is x (Some t) plain =
    let place = place_is x (Some t) plain in
    let inside : place_of 44 (x ++ 44 ∷ t) < length (x ++ 44 ∷ t) = omega (arith, place, length-append x (44 ∷ t)) in
    cond-true _ _ None (lt-ltb _ _ inside)
    ∙ ap Some (sym (drop-drop 1 _ (x ++ 44 ∷ t)) ∙ ap (drop 1) (drop_at x (44 ∷ t) _ (sym place)))

-- the part behind a comma at the offset `at`, if there is one
abbrev here : ℕ → Option (List ℕ) → Option Piece
here at o = option_map (λ t. piece t (at + 1)) o

front-is :
    (x : List ℕ) (o : Option (List ℕ)) (at : ℕ) → has_comma x ≡ false
    → front (piece (x ++ tail_of o) at) ≡ piece x at
front-is x o at plain = ap (λ t. piece t at) (before-is x o plain)

rest-is :
    (x : List ℕ) (o : Option (List ℕ)) (at comma : ℕ) → has_comma x ≡ false → at + length x ≡ comma
    → rest (piece (x ++ tail_of o) at) ≡ here comma o
rest-is x o at comma plain is =
    let k : at + (place_of 44 (x ++ tail_of o) + 1) ≡ comma + 1 = omega (arith, place_is x o plain) in
    λ i. option_map (λ t. piece t (k i)) (behind-is x o plain i)

-- the numbers of a sort are of 64 bits, as `reads-decimal` asks
abbrev Bounded : Sort → Type 0
Bounded (number low high) = high < 2 ^ 64
Bounded code = Unit {0}
Bounded text = Unit {0}
Bounded list = Unit {0}

-- what holds of each tag
known :
    (t : Tag)
    → (tag_of (word t) ≡ Some t) × (has_comma (word t) ≡ false) × AllByRecursion Bounded (sorts t)
known U = (refl, refl, omega arith)
known Probe = (refl, refl, omega arith)
known Sync = (refl, refl, omega arith)
known Loop = (refl, refl, omega arith)
known Cons = (refl, refl, omega arith)
known Servname = (refl, refl, omega arith)
known Clientip = (refl, refl, omega arith)
known Reqok = (refl, refl, omega arith)
known Unsub = (refl, refl, omega arith)
known Conerr = (refl, refl, omega arith)
known End = (refl, refl, omega arith)
known Error = (refl, refl, omega arith)
known Eos = (refl, refl, omega arith)
known Subok = (refl, refl, omega arith)
known Ov = (refl, refl, omega arith)
known Conf = (refl, refl, omega arith)
known Reqerr = (refl, refl, omega arith)
known Conok = (refl, refl, omega arith)

-- a sort reads a part, or refuses it
some-from :
    {X : Type 0} (arg : X → Argument) (o : Option X) (r : Refusal) (a : Argument)
    → ok_or (option_map arg o) r ≡ Ok a → (x : X) × (o ≡ Some x) × (arg x ≡ a)
some-from arg None r a e = refused e
some-from arg (Some x) r a e = (x, refl, cc)

sound-from :
    (p : Piece) (o : Option ℕ) (r : Refusal) (a : Argument) → ok_or (sound_or p o) r ≡ Ok a
    → (o ≡ None) × (worded p ≡ a)
sound-from p None r a e = (refl, cc)
sound-from p (Some n) r a e = refused e

piece-read : (k : Sort) (p : Piece) (a : Argument) → read_argument k p ≡ Ok a → piece_of a ≡ p
piece-read (number low high) p a e = let (n, is, same) = some-from _ _ _ a e in ap piece_of (sym same)
piece-read code p a e = let (z, is, same) = some-from _ _ _ a e in ap piece_of (sym same)
piece-read text p a e = ap piece_of (sym (sound-from p _ _ a e).1)
piece-read list p a e = let same : listed p ≡ a = cc in ap piece_of (sym same)

module _ (escapes : ReadsEscapes) where
  argument-read :
      (k : Sort) → Bounded k → (p : Piece) (a : Argument) → read_argument k p ≡ Ok a → OfSort k a
  argument-read (number low high) bound p a e = let (n, is, same) = some-from _ _ _ a e in subst (OfSort (number low high)) same ((reads-decimal low high n p.text bound).0 is)
  argument-read code bound p a e = let (z, is, same) = some-from _ _ _ a e in subst (OfSort code) same ((reads-signed z p.text).0 is)
  argument-read text bound p a e =
      let (sound, same) = sound-from p _ _ a e in
      let whole = (decoded p.text).bytes in
      subst (OfSort text) same (whole, (escapes p.text whole).0 (λ i. record { bytes = whole; fault = sound i }))
  argument-read list bound p a e = let same : listed p ≡ a = cc in subst (OfSort list) same tt

  read-argument :
      (k : Sort) → Bounded k → (a : Argument) → OfSort k a → read_argument k (piece_of a) ≡ Ok a
  read-argument (number low high) bound (numbered p n) (is, above, below) =
      ap (λ o. ok_or (option_map (numbered p) o) (refusal Number p.at)) ((reads-decimal low high n p.text bound).1 is above below)
  read-argument (number low high) bound (coded p z) kept = absurd kept
  read-argument (number low high) bound (worded p) kept = absurd kept
  read-argument (number low high) bound (listed p) kept = absurd kept
  read-argument code bound (numbered p n) kept = absurd kept
  read-argument code bound (coded p z) (is, within) =
      ap (λ o. ok_or (option_map (coded p) o) (refusal Number p.at)) ((reads-signed z p.text).1 is within)
  read-argument code bound (worded p) kept = absurd kept
  read-argument code bound (listed p) kept = absurd kept
  read-argument text bound (numbered p n) kept = absurd kept
  read-argument text bound (coded p z) kept = absurd kept
  read-argument text bound (worded p) (t, decodes) =
      ap (λ d. ok_or (sound_or p d.fault) (refusal Escape (unsound p))) ((escapes p.text t).1 decodes)
  read-argument text bound (listed p) kept = absurd kept
  read-argument list bound (numbered p n) kept = absurd kept
  read-argument list bound (coded p z) kept = absurd kept
  read-argument list bound (worded p) kept = absurd kept
  read-argument list bound (listed p) kept = refl

-- an answer that is no refusal came from answers that are none
then_ok :
    {X Y : Type 0} (r : Result X Refusal) (f : X → Result Y Refusal) (y : Y) → and_then r f ≡ Ok y
    → (x : X) × (r ≡ Ok x) × (f x ≡ Ok y)
then_ok (Ok x) f y e = (x, refl, e)
then_ok (Err r) f y e = refused e

-- the first of several arguments is read by itself, and the others from the rest
module _ (k j : Sort) (ks : List Sort) (end : ℕ) (p : Piece) where
  more-read :
      (args : List Argument) → arguments_of (k ∷ j ∷ ks) end (Some p) ≡ Ok args
      → (a : Argument) × (others : List Argument) × (read_argument k (front p) ≡ Ok a) × (arguments_of (j ∷ ks) end (rest p) ≡ Ok others) × (a ∷ others ≡ args)
  more-read args e =
      let (all, cut, read) = then_ok _ (read_arguments (k ∷ j ∷ ks)) args e in
      let (ps, cut-rest, whole) = ahead-ok (front p ∷ []) all _ cut in
      let (a, first, behind) = then_ok (read_argument k (front p)) _ args (ap (read_arguments (k ∷ j ∷ ks)) whole ∙ read) in
      let (others, read-rest, same) = ahead-ok (a ∷ []) args _ behind in
      (a, others, first, ap (λ r. and_then r (read_arguments (j ∷ ks))) cut-rest ∙ read-rest, same)

  read_more :
      (a : Argument) (others : List Argument) → read_argument k (front p) ≡ Ok a
      → arguments_of (j ∷ ks) end (rest p) ≡ Ok others
      → arguments_of (k ∷ j ∷ ks) end (Some p) ≡ Ok (a ∷ others)
  read_more a others first e =
      let (ps, cut, read) = then_ok _ (read_arguments (j ∷ ks)) others e in
      ap (λ r. and_then (ahead (front p ∷ []) r) (read_arguments (k ∷ j ∷ ks))) cut
      ∙ ap (λ r. and_then r (λ b. ahead (b ∷ []) (read_arguments (j ∷ ks) ps))) first
      ∙ ap (ahead (a ∷ [])) read

-- R holds of all that is read, if it holds at no argument, at one, and at one before others
module _ (R : List Sort → ℕ → List Argument → List ℕ → Type 0)
    (nil : (at : ℕ) → R [] at [] [])
    (one : (k : Sort) (at : ℕ) (a : Argument) (x : List ℕ) → read_argument k (piece x (at + 1)) ≡ Ok a → R (k ∷ []) at (a ∷ []) (44 ∷ x))
    (several : (k j : Sort) (ks : List Sort) (at : ℕ) (a : Argument) (others : List Argument) (x s : List ℕ) → read_argument k (piece x (at + 1)) ≡ Ok a → has_comma x ≡ false → R (j ∷ ks) (at + (length x + 1)) others s → R (k ∷ j ∷ ks) at (a ∷ others) (44 ∷ (x ++ s))) where
  by-reading :
      (ks : List Sort) (end at : ℕ) (o : Option (List ℕ)) (args : List Argument)
      → arguments_of ks end (here at o) ≡ Ok args → R ks at args (tail_of o)
  by-reading [] end at None args e = let same : [] ≡ args = cc in subst (λ l. R [] at l []) same (nil at)
  by-reading [] end at (Some t) args e = refused e
  by-reading (k ∷ []) end at None args e = refused e
  by-reading (k ∷ []) end at (Some t) args e =
      let (a, read, behind) = then_ok (read_argument k (piece t (at + 1))) _ args e in
      let same : a ∷ [] ≡ args = cc in
      subst (λ l. R (k ∷ []) at l (44 ∷ t)) same (one k at a t read)
  by-reading (k ∷ j ∷ ks) end at None args e = refused e
  by-reading (k ∷ j ∷ ks) end at (Some t) args e =
      parted (λ u. arguments_of (k ∷ j ∷ ks) end (Some (piece u (at + 1))) ≡ Ok args → R (k ∷ j ∷ ks) at args (44 ∷ u))
      (λ x o plain f.
      let (a, others, first, read, same) = more-read k j ks end (piece (x ++ tail_of o) (at + 1)) args f in
      let comma = at + (length x + 1) in
      let behind = by-reading (j ∷ ks) end comma o others (ap (arguments_of (j ∷ ks) end) (sym (rest-is x o (at + 1) comma plain (omega arith))) ∙ read) in
      subst (λ l. R (k ∷ j ∷ ks) at l (44 ∷ (x ++ tail_of o))) same
      (several k j ks at a others x (tail_of o) (ap (read_argument k) (sym (front-is x o (at + 1) plain)) ∙ first) plain behind))
      t e

module _ (escapes : ReadsEscapes) where
  laid-read :
      (ks : List Sort) (end at : ℕ) (o : Option (List ℕ)) (args : List Argument)
      → arguments_of ks end (here at o) ≡ Ok args → AllByRecursion Bounded ks
      → Laid ks at args (tail_of o)
  laid-read =
      by-reading (λ ks at args s. AllByRecursion Bounded ks → Laid ks at args s) (λ at bound. none)
      (λ k at a x read bound.
      let is = piece-read k _ a read in
      subst (λ y. Laid (k ∷ []) at (a ∷ []) (44 ∷ y)) (ap (λ p. p.text) is) (last (argument-read escapes k bound.0 _ a read) (ap (λ p. p.at) is)))
      (λ k j ks at a others x s read plain behind bound.
      let is = piece-read k _ a read in
      subst (λ y. has_comma y ≡ false → Laid (j ∷ ks) (at + (length y + 1)) others s → Laid (k ∷ j ∷ ks) at (a ∷ others) (44 ∷ (y ++ s))) (ap (λ p. p.text) is)
      (more (argument-read escapes k bound.0 _ a read) (ap (λ p. p.at) is))
      plain (behind bound.1))

  read-laid :
      {ks : List Sort} {at : ℕ} {args : List Argument} {s : List ℕ} → Laid ks at args s
      → AllByRecursion Bounded ks → (end : ℕ)
      → (o : Option (List ℕ)) × (s ≡ tail_of o) × (arguments_of ks end (here at o) ≡ Ok args)
  read-laid none bound end = (None, refl, refl)
  read-laid (last {k = k} {at = at} {a = a} kept is) bound end =
      (Some (piece_of a).text, refl, ap (λ r. and_then r (λ b. ahead (b ∷ []) (Ok []))) (ap (λ n. read_argument k (piece (piece_of a).text n)) (sym is) ∙ read-argument escapes k bound.0 a kept))
  read-laid (more {k =
      k} {j = j} {ks = ks} {at = at} {a = a} {others = others} {s = s} kept is plain laid) bound end =
      let (o, same, read) = read-laid laid bound.1 end in
      let x = (piece_of a).text in
      let first = front-is x o (at + 1) plain ∙ ap (piece x) (sym is) in
      let behind = rest-is x o (at + 1) (at + (length x + 1)) plain (omega arith) in (
        Some (x ++ s),
        refl,
        ap (λ t. arguments_of (k ∷ j ∷ ks) end (Some (piece (x ++ t) (at + 1)))) same
            ∙ read_more k j ks end (piece (x ++ tail_of o) (at + 1)) a others (ap (read_argument k) first ∙ read-argument escapes k bound.0 a kept) (ap (arguments_of (j ∷ ks) end) behind ∙ read),
      )

-- whole lines
ok-where :
    {X : Type 0} (t : Bool) (r : Result X Refusal) (f : Refusal) (x : X) → cond t r (Err f) ≡ Ok x
    → (t ≡ true) × (r ≡ Ok x)
ok-where true r f x e = (refl, e)
ok-where false r f x e = refused e

message-read :
    (t : Tag) (name : Piece) (r : Result (List Argument) Refusal) (m : Message)
    → message_of t name r ≡ Ok m → (t ≡ m.tag) × (name ≡ m.name) × (r ≡ Ok m.args)
message-read t name (Ok args) m e =
    let same : record { tag = t; name = name; args = args } ≡ m = cc in
    (ap (λ n. n.tag) same, ap (λ n. n.name) same, ap (λ n. Ok n.args) same)
message-read t name (Err r) m e = refused e

tagged-read :
    (s : List ℕ) (o : Option Tag) (m : Message) → read_tagged s o ≡ Ok m
    → (o ≡ Some m.tag) × (front (piece s 0) ≡ m.name) × (arguments_of (sorts m.tag) (length s) (rest (piece s 0)) ≡ Ok m.args)
tagged-read s None m e = refused e
tagged-read s (Some t) m e =
    let (tag, name, args) = message-read t _ _ m e in
    (ap Some tag, name, ap (λ u. arguments_of (sorts u) (length s) (rest (piece s 0))) (sym tag) ∙ args)

line_read :
    (m : Message) (x : List ℕ) (o : Option (List ℕ)) → has_comma x ≡ false
    → read_line (x ++ tail_of o) ≡ Ok m
    → (length (x ++ tail_of o) ≤ line_limit) × (x ≡ word m.tag) × (m.name ≡ piece x 0) × (arguments_of (sorts m.tag) (length (x ++ tail_of o)) (here (length x) o) ≡ Ok m.args)
line_read m x o plain e =
    let s = x ++ tail_of o in
    let (short, read) = ok-where (leb (length s) line_limit) _ _ m e in
    let (tag, name, args) = tagged-read s (tag_of (before 44 s)) m read in (
      leb-true (length s) line_limit short,
      first_word word tags x m.tag (ap tag_of (sym (before-is x o plain)) ∙ tag),
      sym name ∙ front-is x o 0 plain,
      ap (arguments_of (sorts m.tag) (length s)) (sym (rest-is x o 0 (length x) plain (omega arith)))
          ∙ args,
    )

read-line :
    (t : Tag) (o : Option (List ℕ)) (args : List Argument)
    → length (word t ++ tail_of o) ≤ line_limit
    → arguments_of (sorts t) (length (word t ++ tail_of o)) (here (length (word t)) o) ≡ Ok args
    → read_line (word t ++ tail_of o)
    ≡ Ok (record { tag = t; name = piece (word t) 0; args = args })
read-line t o args short e =
    let x = word t in
    let s = x ++ tail_of o in
    let (tag, plain, bound) = known t in
    cond-true _ _ _ (le-leb (length s) line_limit short)
    ∙ ap (read_tagged s) (ap tag_of (before-is x o plain) ∙ tag)
    ∙ (λ i. message_of t (front-is x o 0 plain i) (arguments_of (sorts t) (length s) (rest-is x o 0 (length x) plain (omega arith) i)))
    ∙ ap (message_of t (piece x 0)) e

pub reads-said : ReadsEscapes → ReadsSaid
reads-said escapes s m = (parted (λ t. read_line t ≡ Ok m → Says t m) says s, read)
  where
    says :
        (x : List ℕ) (o : Option (List ℕ)) → has_comma x ≡ false → read_line (x ++ tail_of o) ≡ Ok m
        → Says (x ++ tail_of o) m
    says x o plain e =
        let (short, is, name, args) = line_read m x o plain e in
        record {
          short = short;
          tail = tail_of o;
          whole = ap (λ y. y ++ tail_of o) is;
          name = name ∙ ap (λ y. piece y 0) is;
          args =
              subst (λ y. Laid (sorts m.tag) (length y) m.args (tail_of o)) is (laid-read escapes (sorts m.tag) _ (length x) o m.args args (known m.tag).2);
        }

    read : Says s m → read_line s ≡ Ok m
    read h =
        let t = m.tag in
        let (o, same, args) = read-laid escapes h.args (known t).2 (length s) in
        let line = h.whole ∙ ap (λ u. word t ++ u) same in
        ap read_line line
        ∙ read-line t o m.args (omega (arith, ap length line, h.short)) (ap (λ n. arguments_of (sorts t) n (here (length (word t)) o)) (ap length (sym line)) ∙ args)
        ∙ ap (λ n. Ok (record { tag = t; name = n; args = m.args })) (sym h.name)
