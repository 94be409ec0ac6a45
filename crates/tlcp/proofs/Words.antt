-- Which word a text is.
use Rattle.std.proofs.Common.{◌≡◌, ℕ, ◌&&◌, ◌==◌, true, List, [], ◌∷◌, Some, sym, refl, ap, ◌∙◌}
use Rattle.std.proofs.Common.{⊎_elim}
use Rattle.std.proofs.lemmas.Bool.{cases_Bool, cond-true, cond-false}
use Rattle.std.specs.Str.{bytes_eq}
use Rattle.std.proofs.lemmas.Slice.Eq.{bytes_eq-Decides}
use Rattle.tlcp.specs.Lines.{same_bytes}
use Rattle.tlcp.specs.Dividing.{first_with}

-- the library's test of two texts
pub eq-same_bytes : (x y : List ℕ) → bytes_eq x y ≡ same_bytes x y
eq-same_bytes [] [] = refl
eq-same_bytes [] (y ∷ ys) = refl
eq-same_bytes (x ∷ xs) [] = refl
eq-same_bytes (x ∷ xs) (y ∷ ys) = ap (λ b. x == y && b) (eq-same_bytes xs ys)

pub same_bytes_lem : (x y : List ℕ) → same_bytes x y ≡ true → x ≡ y
same_bytes_lem x y e = (bytes_eq-Decides x y).0 (eq-same_bytes x y ∙ e)

-- the thing that was found has that word
pub first_word :
    {X : Type 0} (word : X → List ℕ) (xs : List X) (s : List ℕ) (x : X)
    → first_with word xs s ≡ Some x → s ≡ word x
first_word word [] s x e = cc
first_word word (y ∷ xs) s x e =
    ⊎_elim
    (λ this. let same : y ≡ x = cc (cond-true _ (Some y) (first_with word xs s) this) in same_bytes_lem s (word y) this ∙ ap word same)
    (λ other. first_word word xs s x (sym (cond-false _ (Some y) _ other) ∙ e))
    (cases_Bool (same_bytes s (word y)))
