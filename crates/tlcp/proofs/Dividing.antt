-- Texts divided by a byte, and joined by it again.
use Rattle.std.proofs.Common.{◌≡◌, ℕ, suc, ◌+◌, ◌≤◌, Bool, true, false, cond, eqb, ltb, List, []}
use Rattle.std.proofs.Common.{◌∷◌, ◌++◌, length, take, drop, Some, None, Option, sym, refl, ap, ◌∙◌}
use Rattle.std.proofs.Common.{arith}
use Rattle.std.proofs.lemmas.Bool.{cond_both, cond-true, cond-false, or_parts, or_from, eqb-true}
use Rattle.std.proofs.lemmas.Bool.{eq-eqb, lt-ltb}
use Rattle.std.proofs.lemmas.Bool.Decides.{nat_tests}
use Rattle.tlcp.specs.Parts.{place_of, before, behind}
use Rattle.tlcp.specs.Parts.{push}
use Rattle.tlcp.specs.Dividing.{has, divided_by, each_behind, joined_by, NoneHas}

module _ (c : ℕ) where
  -- a text without c goes before what begins with an empty one
  divided-append :
      (v s : List ℕ) (vs : List (List ℕ)) → has c v ≡ false → divided_by c s ≡ [] ∷ vs
      → divided_by c (v ++ s) ≡ v ∷ vs
  divided-append [] s vs e f = f
  divided-append (b ∷ v) s vs e f =
      let h = or_parts (eqb b c) (has c v) e in
      cond-false (eqb b c) _ _ h.0 ∙ ap (push b) (divided-append v s vs h.1 f)

  divided-behind : (vs : List (List ℕ)) → NoneHas c vs → divided_by c (each_behind c vs) ≡ [] ∷ vs
  divided-behind [] h = refl
  divided-behind (v ∷ vs) h =
      cond-true (eqb c c) _ _ (eq-eqb c c refl)
      ∙ ap (λ ws. [] ∷ ws) (divided-append v (each_behind c vs) vs h.0 (divided-behind vs h.1))

  pub divided-joined :
      (vs : List (List ℕ)) → 1 ≤ length vs → NoneHas c vs → divided_by c (joined_by c vs) ≡ vs
  divided-joined [] some h = absurd (omega arith)
  divided-joined (v ∷ vs) some h =
      divided-append v (each_behind c vs) vs h.0 (divided-behind vs h.1)

  pub divided-some : (s : List ℕ) → 1 ≤ length (divided_by c s)
  divided-some [] = omega arith
  divided-some (b ∷ s) =
      cond_both (eqb b c) _ _ (λ vs. 1 ≤ length vs) (λ _. omega arith) (λ _. pushed (divided_by c s))
    where
      pushed : (vs : List (List ℕ)) → 1 ≤ length (push b vs)
      pushed [] = omega arith
      pushed (v ∷ vs) = omega arith

  pub divided-apart : (s : List ℕ) → NoneHas c (divided_by c s)
  divided-apart [] = (refl, tt)
  divided-apart (b ∷ s) =
      cond_both (eqb b c) _ _ (NoneHas c) (λ _. (refl, divided-apart s)) (λ other. pushed other (divided_by c s) (divided-apart s))
    where
      pushed : eqb b c ≡ false → (vs : List (List ℕ)) → NoneHas c vs → NoneHas c (push b vs)
      pushed other [] h = (or_from (eqb b c) false other refl, tt)
      pushed other (v ∷ vs) h = (or_from (eqb b c) (has c v) other h.0, h.1)

  pub behind-joined : (vs : List (List ℕ)) → 1 ≤ length vs → each_behind c vs ≡ c ∷ joined_by c vs
  behind-joined [] some = absurd (omega arith)
  behind-joined (v ∷ vs) some = refl

  pub joined-divided : (s : List ℕ) → joined_by c (divided_by c s) ≡ s
  joined-divided [] = refl
  joined-divided (b ∷ s) =
      cond_both (eqb b c) _ _ (λ vs. joined_by c vs ≡ b ∷ s)
      (λ is.
      let it = sym (eqb-true b c is) in
      behind-joined (divided_by c s) (divided-some s) ∙ (λ i. it i ∷ joined-divided s i))
      (λ _. pushed (divided_by c s) ∙ ap (λ t. b ∷ t) (joined-divided s))
    where
      pushed : (vs : List (List ℕ)) → joined_by c (push b vs) ≡ b ∷ joined_by c vs
      pushed [] = refl
      pushed (v ∷ vs) = refl

  -- the texts behind the first, if there is a c
  abbrev pub parts_of : Option (List ℕ) → List (List ℕ)
  parts_of None = []
  parts_of (Some s) = divided_by c s

  -- the first text, and those behind its c
  pub divided-split : (s : List ℕ) → divided_by c s ≡ before c s ∷ parts_of (behind c s)
  divided-split [] = refl
  divided-split (x ∷ s) = by (eqb x c) refl (divided-split s)
    where
      n : ℕ
      n = place_of c s

      tail : ℕ → Option (List ℕ)
      tail m = cond (ltb m (suc (length s))) (Some (drop (m + 1) (x ∷ s))) None

      split : ℕ → List (List ℕ)
      split m = take m (x ∷ s) ∷ parts_of (tail m)

      by :
          (t : Bool) → eqb x c ≡ t → divided_by c s ≡ before c s ∷ parts_of (behind c s)
          → divided_by c (x ∷ s) ≡ split (place_of c (x ∷ s))
      by true f ih =
          cond-true (eqb x c) _ _ f
          ∙ ap (λ o. [] ∷ parts_of o) (sym (cond-true (ltb 0 (suc (length s))) (Some s) None (lt-ltb 0 (suc (length s)) (omega arith))))
          ∙ ap split (sym (cond-true (eqb x c) 0 (suc n) f))
      by false f ih =
          let less : ltb (suc n) (suc (length s)) ≡ ltb n (length s) = grind (arith, nat_tests) in
          let m : suc n + 1 ≡ suc (n + 1) = omega arith in
          cond-false (eqb x c) _ _ f
          ∙ ap (push x) ih
          ∙ ap (λ b. (x ∷ take n s) ∷ parts_of (cond b (Some (drop (n + 1) s)) None)) (sym less)
          ∙ ap (λ j. (x ∷ take n s) ∷ parts_of (cond (ltb (suc n) (suc (length s))) (Some (drop j (x ∷ s))) None)) (sym m)
          ∙ ap split (sym (cond-false (eqb x c) 0 (suc n) f))
