-- What an array's `map` gives, where each call of its closure gives h of its argument.
use Rattle.std.proofs.Common.{◌≡◌, ℕ, List, map, length, sym, ◌∙◌, arith}
use Rattle.std.proofs.lemmas.List.{same_lists, length-map, get_or-map}
use Rattle.std.specs.Array.{IsMapOf}
use Rattle.std.specs.Fn.{Called}
use denote.Param.Members.{Mut}

module _ {F A B : Type 0} (g : Mut F (A × Unit {0}) B) (f : F) (h : A → B) (xs : List A)
    (ys : List B) (n : ℕ) (d : A) where
  pub mapped :
      IsMapOf g f xs ys n → length xs ≡ n
      → ((x : A) (r : B) (p q : F) → Called g p (x, tt) r q → r ≡ h x) → ys ≡ map h xs
  mapped is whole gives =
      same_lists ys (map h xs) (is.long ∙ sym whole ∙ sym (length-map xs h))
      (λ k e within.
      let at = is.at k d e (omega (arith, is.long)) in
      gives _ _ at.0 at.1 at.2 ∙ sym (get_or-map h xs k d e (omega (arith, is.long))))
