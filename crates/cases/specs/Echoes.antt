-- What the listener of the tests of streams answers.
use Rattle.std.specs.Prelude.{◌≡◌, ℕ, ◌<◌, cond, List, [], ◌∷◌, length, codes, nat_le, refl}
use Rattle.std.proofs.Common.{leb, ap, sym, ◌∙◌, lit≤}
use Rattle.std.proofs.lemmas.Bool.{cond-false, lt-leb}
use Rattle.streams.specs.Answers.{Enough, Hearing}
use Rattle.streams.specs.Long.{LongAlike}
use Rattle.streams.proofs.Long.{enough_beyond}

-- a line is repeated, if it has no more than five bytes
abbrev pub echo : List ℕ → List ℕ
echo line = cond (nat_le (length line) 5) (32 ∷ line) (codes " long")

abbrev pub echoes : {A : Type 0} → Hearing A
echoes = record { next = λ a _. a; answer = λ _ line. echo line; closing = λ _. 46 ∷ [] }

long-alike : {A : Type 0} → LongAlike (echoes {A = A}) 5
long-alike a s t long longer =
    let is : (r : List ℕ) → 5 < length r → echo r ≡ codes " long" =
    λ r more. cond-false (leb (length r) 5) _ _ (lt-leb (length r) 5 more) in
    (refl, is s long ∙ sym (is t longer))

pub echoes-enough : {A : Type 0} → Enough 7 (echoes {A = A})
echoes-enough = enough_beyond echoes 5 long-alike 7 (lit≤ tt)
