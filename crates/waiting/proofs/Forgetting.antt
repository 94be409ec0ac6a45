-- A tap's pairs removed one by one.
use Rattle.std.proofs.Common.{◌≡◌, ◌≢◌, ℕ, zero, suc, ◌+◌, ◌<◌, ◌≤◌, true, not, cond, List, [], ◌∷◌}
use Rattle.std.proofs.Common.{length, take, drop, get_or, sym, refl, ap, ◌∙◌, arith}
use Rattle.std.proofs.Common.{not-suc-le-zero}
use Rattle.std.specs.List.{list_all, remove}
use Rattle.std.proofs.lemmas.Bool.{and_parts, and_from, cond-true, cond-false, eq-eqb, ne_eqb}
use Rattle.std.proofs.lemmas.List.{length-take-le, take_all, take_at}
use Rattle.std.proofs.lemmas.List.Edits.{length-remove}
use Rattle.std.proofs.lemmas.List.Folds.{list_all_more}
use Rattle.waiting.specs.Lists.{Pair, is_for, without}

-- up to i the pairs are of other taps, and what is gone was of this one
pub record Forgotten (t i : ℕ) (l all : List Pair) : Type 0 where
  pub inside : i ≤ length l
  pub others : list_all (λ p. not (is_for t p)) (take i l) ≡ true
  pub rest : without t l ≡ without t all

without-removed :
    (t i : ℕ) (l : List Pair) (d : Pair) → i < length l → is_for t (get_or l i d) ≡ true
    → without t (remove l i) ≡ without t l
without-removed t i [] d h e = absurd (not-suc-le-zero h)
without-removed t zero (p ∷ l) d h e =
    sym (cond-false (not (is_for t p)) (p ∷ without t l) (without t l) (ap not e))
without-removed t (suc i) (p ∷ l) d h e =
    ap (λ m. cond (not (is_for t p)) (p ∷ m) m) (without-removed t i l d (omega arith) e)

without-none : (t : ℕ) (l : List Pair) → list_all (λ p. not (is_for t p)) l ≡ true → without t l ≡ l
without-none t [] e = refl
without-none t (p ∷ l) e =
    let h = and_parts (not (is_for t p)) (list_all (λ p. not (is_for t p)) l) e in
    cond-true (not (is_for t p)) (p ∷ without t l) (without t l) h.0 ∙ ap (λ m. p ∷ m)
    (without-none t l h.1)

module _ (t i : ℕ) (l all : List Pair) (d : Pair) (f : Forgotten t i l all) (h : i < length l) where
  pub forgotten-removed : (get_or l i d).tap ≡ t → Forgotten t i (remove l i) all
  forgotten-removed e = record {
    inside = omega (arith, length-remove l i h);
    others =
        ap (list_all (λ p. not (is_for t p)))
        (take_at (take i l) (drop (suc i) l) i (length-take-le i l f.inside)) ∙ f.others;
    rest = without-removed t i l d h (eq-eqb (get_or l i d).tap t e) ∙ f.rest;
  }

  pub forgotten-passed : ((get_or l i d).tap ≢ t) → Forgotten t (i + 1) l all
  forgotten-passed ne = record {
    inside = omega (arith, h);
    others =
        list_all_more (λ p. not (is_for t p)) l i d h ∙ and_from _ _ f.others
        (ap not (ne_eqb (get_or l i d).tap t ne));
    rest = f.rest;
  }

pub forgotten-all :
    (t i : ℕ) (l all : List Pair) → Forgotten t i l all → length l ≤ i → l ≡ without t all
forgotten-all t i l all f h =
    sym (without-none t l (ap (list_all (λ p. not (is_for t p))) (sym (take_all i l h)) ∙ f.others))
    ∙ f.rest
