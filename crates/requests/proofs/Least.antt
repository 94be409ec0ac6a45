-- The leftmost of some places is the least of those that are there.
use Rattle.std.proofs.Common.{◌≡◌, ℕ, min, List, [], ◌∷◌, Some, None, Option, refl, ap, subst}
use Rattle.std.proofs.Common.{◌∙◌, arith}
use Rattle.std.specs.Fn.{Called}
use Rattle.std.specs.Iterator.{ActsAsOnTwo, FoldTurn, ReducesItems}
use Rattle.std.specs.List.{FoldsTo, cons_option, filter_map, fold, reduce}
use Rattle.std.proofs.lemmas.Iterator.{YieldsList}
use Rattle.std.proofs.lemmas.Iterator.Consumers.{reduce_from_yields_List}
use denote.Param.Members.{Mut}
use Rattle.requests.specs.Requests.{Occurrences, leftmost, unfit, unfit_of}
use Rattle.requests.specs.declared.name.Parameter.{Parameter}

min-fold : (a x : ℕ) (xs : List ℕ) → min a (fold min x xs) ≡ fold min (min a x) xs
min-fold a x [] = refl
min-fold a x (y ∷ ys) =
    let turn : min a (min x y) ≡ min (min a x) y = omega arith in
    min-fold a (min x y) ys ∙ ap (λ b. fold min b ys) turn

least : (a : ℕ) (xs : List ℕ) → leftmost (Some a) (reduce min xs) ≡ Some (fold min a xs)
least a [] = refl
least a (x ∷ xs) = ap Some (min-fold a x xs)

pub unfit-least : (taken : List Parameter) (ps : Occurrences) (l : List Parameter)
    → unfit taken ps l ≡ reduce min (filter_map (unfit_of taken ps) l)
unfit-least taken ps [] = refl
unfit-least taken ps (p ∷ l) = ap (leftmost (unfit_of taken ps p)) (unfit-least taken ps l)
    ∙ here (unfit_of taken ps p)
  where
    here : (o : Option ℕ)
        → leftmost o (reduce min (filter_map (unfit_of taken ps) l))
        ≡ reduce min (cons_option o (filter_map (unfit_of taken ps) l))
    here None = refl
    here (Some a) = least a (filter_map (unfit_of taken ps) l)

-- what `reduce` gives where its closure acts as h
module _ {A F : Type 0} (g : Mut F (A × (A × Unit {0})) A) (h : A → A → A) (f : F)
    (acts : ActsAsOnTwo g f h) where
  turns : (xs : List A) (p q : F × A) → p.0 ≡ f → FoldsTo (FoldTurn g) p xs q
      → FoldsTo (λ a x b. b ≡ h a x) p.1 xs q.1
  turns [] p q same c = ap (λ w. w.1) c
  turns (x ∷ xs) p q same c =
      let m = acts p.1 x c.0.1 c.0.0 (subst (λ w. Called g w (p.1, (x, tt)) c.0.1 c.0.0) same c.1)
      in (c.0.1, m.1, turns xs c.0 q m.0 c.2)

  pub reduced : {S : Type 0} {steps : S → Option A → S → Type 0} {all : List A} (s : S)
      (r : Option A) → ReducesItems steps g s f r → YieldsList steps (λ x. x) s all
      → r ≡ reduce h all
  reduced s None ran = reduce_from_yields_List h s None ran
  reduced s (Some y) ran = reduce_from_yields_List h s (Some y)
      (ran.0, ran.1, ran.3, turns ran.1 (f, ran.0) (ran.2, y) refl ran.4)
