-- Written lines, read back.
use Rattle.std.proofs.Common.{◌≡◌, ℕ, ◌+◌, ◌^◌, ◌<◌, true, false, eqb, List, [], ◌∷◌, ◌++◌, length}
use Rattle.std.proofs.Common.{ℤ, sym, refl, ap, ◌∙◌, subst, rules}
use Rattle.std.specs.List.{AllByRecursion}
use Rattle.std.proofs.ByRecursion.{All-weaker}
use Rattle.std.proofs.lemmas.List.{append-nil}
use Rattle.std.proofs.lemmas.Bool.{and_parts, false≢true, or_from}
use Rattle.row.specs.Texts.{every}
use Rattle.tlcp.specs.Bytes.{is_escaped}
use Rattle.tlcp.specs.Numbers.{CodeWithin}
use Rattle.tlcp.specs.Dividing.{has}
use Rattle.tlcp.proofs.Encoded.{has-append, has-decimal}
use Rattle.tlcp.proofs.Unescaped.{decodes-by}
use Rattle.tlcp.proofs.Unescaped.{plain-percent, reads-escapes}
use Rattle.tlcp.specs.Lines as lines
use Rattle.tlcp.specs.Lines.{Sort, sorts, word, piece, piece_of, has_comma, OfSort, Laid, none}
use Rattle.tlcp.specs.Lines.{last, more, Says}
use Rattle.tlcp.specs.declared.tag.Tag.{Tag}
use Rattle.tlcp.proofs.Saying.{reads-said}
use Rattle.notify.specs.Given.{Given, code, Saying, spell, argued, is_within, all_within, within}
use Rattle.notify.specs.Given.{line_text}
use Rattle.notify.specs.Back.{argument, arguments, laid, FromMemory, StandsFor, LineBack}
use Rattle.notify.specs.Back.{LineUnbroken}
use Rattle.notify.proofs.Apart.{Apart, plain, has-plain, has-signed, has-text, has-list}

-- the numbers of a sort are of 64 bits
abbrev Bounded : Sort → Type 0
Bounded (lines.number low high) = high < 2 ^ 64
Bounded lines.code = Unit {0}
Bounded lines.text = Unit {0}
Bounded lines.list = Unit {0}

-- what holds of each tag
known : (t : Tag) → (every plain (word t) ≡ true) × AllByRecursion Bounded (sorts t)
known t = (search rules, search rules)

code-within : (z : ℤ) → is_within lines.code (code z) ≡ true → CodeWithin z
code-within z is = search rules

-- what is within the limits of a sort is kept by it
kept :
    (k : Sort) (g : Given) (at : ℕ) → is_within k g ≡ true → FromMemory g → OfSort k (argument g at)
kept k g at is sound = search (rules, code-within, decodes-by is_escaped plain-percent, false≢true)

piece_is : (g : Given) (at : ℕ) → piece_of (argument g at) ≡ piece (spell g) at
piece_is g at = search rules

meant : (g : Given) → FromMemory g → StandsFor g
meant g sound = search (rules, decodes-by is_escaped plain-percent)

-- a byte c that stands in no argument
module _ (c : ℕ) (apart : Apart c) where
  has-given :
      (k : Sort) (g : Given) → Bounded k → is_within k g ≡ true → FromMemory g
      → has c (spell g) ≡ false
  has-given k g bound is sound =
      search (rules, has-decimal c apart.digit apart.percent, has-signed c apart, has-text c apart, has-list c apart, false≢true)

  -- if it is no comma, it stands in no line
  module _ (other : eqb 44 c ≡ false) where
    has-argued :
        (ks : List Sort) (gs : List Given) → AllByRecursion Bounded ks → all_within ks gs ≡ true
        → AllByRecursion FromMemory gs → has c (argued gs) ≡ false
    has-argued ks [] bound is sound = refl
    has-argued [] (g ∷ gs) bound is sound = cc
    has-argued (k ∷ ks) (g ∷ gs) bound is sound =
        let two = and_parts (is_within k g) (all_within ks gs) is in
        or_from (eqb 44 c) _ other
        (has-append c (spell g) (argued gs) (has-given k g bound.0 two.0 sound.0) (has-argued ks gs bound.1 two.1 sound.1))

    pub has-line :
        (s : Saying) → within s ≡ true → AllByRecursion FromMemory s.given
        → has c (line_text s) ≡ false
    has-line s is sound =
        let tag = known s.tag in
        has-append c (word s.tag) (argued s.given) (has-plain c apart (word s.tag) tag.0) (has-argued (sorts s.tag) s.given tag.1 is sound)

cr : Apart 13
cr = record { escaped = refl; digit = refl; percent = refl; pipe = refl }

lf : Apart 10
lf = record { escaped = refl; digit = refl; percent = refl; pipe = refl }

comma : Apart 44
comma = record { escaped = refl; digit = refl; percent = refl; pipe = refl }

pub unbroken : (s : Saying) → AllByRecursion FromMemory s.given → LineUnbroken s
unbroken s sound is =
    (has-line 13 cr refl s is.numbers sound, has-line 10 lf refl s is.numbers sound)

laid-arguments :
    (ks : List Sort) (gs : List Given) (at : ℕ) → AllByRecursion Bounded ks
    → all_within ks gs ≡ true → AllByRecursion FromMemory gs
    → Laid ks at (arguments at gs) (argued gs)
laid-arguments [] [] at bound is sound = none
laid-arguments [] (g ∷ gs) at bound is sound = absurd (false≢true is)
laid-arguments (k ∷ ks) [] at bound is sound = absurd (false≢true is)
laid-arguments (k ∷ []) (g ∷ []) at bound is sound =
    let two = and_parts (is_within k g) true is in
    let here = piece_is g (at + 1) in
    let a = argument g (at + 1) in
    let P : List ℕ → Type 0 = λ t. Laid (k ∷ []) at (a ∷ []) (44 ∷ t) in
    subst P (ap (λ p. p.text) here ∙ sym (append-nil (spell g))) (last (kept k g (at + 1) two.0 sound.0) (ap (λ p. p.at) here))
laid-arguments (k ∷ []) (g ∷ h ∷ gs) at bound is sound =
    absurd (false≢true (and_parts (is_within k g) false is).1)
laid-arguments (k ∷ j ∷ ks) (g ∷ []) at bound is sound =
    absurd (false≢true (and_parts (is_within k g) false is).1)
laid-arguments (k ∷ j ∷ ks) (g ∷ h ∷ gs) at bound is sound =
    let two = and_parts (is_within k g) (all_within (j ∷ ks) (h ∷ gs)) is in
    let here = piece_is g (at + 1) in
    let a = argument g (at + 1) in
    let next = at + (length (spell g) + 1) in
    let others = arguments next (h ∷ gs) in
    let P : List ℕ → Type 0 = λ t. has_comma t ≡ false → Laid (j ∷ ks) (at + (length t + 1)) others (argued (h ∷ gs)) → Laid (k ∷ j ∷ ks) at (a ∷ others) (44 ∷ (t ++ argued (h ∷ gs))) in
    subst P (ap (λ p. p.text) here) (more (kept k g (at + 1) two.0 sound.0) (ap (λ p. p.at) here))
    (has-given 44 comma k g bound.0 two.0 sound.0)
    (laid-arguments (j ∷ ks) (h ∷ gs) next bound.1 two.1 sound.1)

pub read_back : (s : Saying) → AllByRecursion FromMemory s.given → LineBack s
read_back s sound is =
    let says : Says (line_text s) (laid s) =
    record {
      short = is.short;
      tail = argued s.given;
      whole = refl;
      name = refl;
      args =
          laid-arguments (sorts s.tag) s.given (length (word s.tag)) (known s.tag).1 is.numbers sound;
    } in
    record {
      line =
          (reads-said reads-escapes (line_text s) (laid s)).1 says;
      texts = All-weaker FromMemory StandsFor meant s.given sound;
    }
