-- Where the first end stands, byte by byte and part by part.
use Rattle.std.proofs.Common.{◌≡◌, ℕ, suc, ◌+◌, ◌-◌, ◌*◌, ◌%◌, ◌<◌, ◌≤◌, Bool, true, false, cond}
use Rattle.std.proofs.Common.{◌||◌, eqb, ltb, List, [], ◌∷◌, ◌++◌, length, get_or, drop, Some, None}
use Rattle.std.proofs.Common.{sym, refl, ap, ◌∙◌, zero-add, mul-suc, arith, ◌==◌}
use Rattle.std.specs.List.{list_any, position, position_or_len}
use Rattle.std.proofs.lemmas.List.{at_drop_more, at_drop_all}
use Rattle.std.proofs.lemmas.Bool.{both_ways, cond-true, cond-false, eq-eqb, ne_eqb, lt-ltb, le-ltb}
use Rattle.tlcp.specs.Parts.{place_of}
use Rattle.tlcp.proofs.Places.{place-is}

module _ (b : ℕ) where
  abbrev is : ℕ → Bool
  is x = x == b

  -- a part, and the bytes behind it
  module _ (rest : List ℕ) where
    place-append :
        (part : List ℕ)
        → place_of b (part ++ rest)
        ≡ cond (list_any is part) (place_of b part) (length part + place_of b rest)
    place-append [] = sym (zero-add (place_of b rest))
    place-append (x ∷ part) = by (is x) (list_any is part) (place-append part)
      where
        by :
            (e any : Bool)
            → place_of b (part ++ rest) ≡ cond any (place_of b part) (length part + place_of b rest)
            → cond e 0 (suc (place_of b (part ++ rest)))
            ≡ cond (e || any) (cond e 0 (suc (place_of b part))) (suc (length part) + place_of b rest)
        by true any ih = refl
        by false true ih = ap suc ih
        by false false ih = ap suc ih ∙ omega arith

    pub place-within :
        (part : List ℕ) → list_any is part ≡ true → place_of b (part ++ rest) ≡ place_of b part
    place-within part e = place-append part ∙ cond-true (list_any is part) _ _ e

    pub place-behind :
        (part : List ℕ) → list_any is part ≡ false
        → place_of b (part ++ rest) ≡ length part + place_of b rest
    place-behind part e = place-append part ∙ cond-false (list_any is part) _ _ e

  pub place-short : (s : List ℕ) → list_any is s ≡ true → place_of b s < length s
  place-short [] e = absurd (both_ways true (sym e) refl)
  place-short (x ∷ s) e = by (is x) e (place-short s)
    where
      by :
          (here : Bool) → (here || list_any is s) ≡ true
          → (list_any is s ≡ true → place_of b s < length s)
          → cond here 0 (suc (place_of b s)) < suc (length s)
      by true e ih = omega arith
      by false e ih = omega (arith, ih e)

  -- what the library's search answers, by the place
  pub is-found : (s : List ℕ) (e : ℕ) → e ≡ place_of b s → e < length s → Some e ≡ position is s
  is-found s e at short =
      let same = at ∙ place-is b s in
      ap Some same
      ∙ sym (cond-true (ltb (position_or_len is s) (length s)) _ _ (lt-ltb _ _ (omega (arith, same))))

  pub is-nowhere : (s : List ℕ) → length s ≤ place_of b s → None ≡ position is s
  is-nowhere s long =
      sym (cond-false (ltb (position_or_len is s) (length s)) _ _ (le-ltb _ _ (omega (arith, place-is b s))))

  -- a turn at the byte i: the end is counted on by step as long as no b came
  module _ (s : List ℕ) (i end step : ℕ) (sofar : end + step * place_of b (drop i s) ≡ place_of b s) where
    pub step-here :
        i < length s → get_or s i 0 ≡ b → end + 0 + 0 * place_of b (drop (i + 1) s) ≡ place_of b s
    step-here h e =
        let at : place_of b (drop i s) ≡ 0 = at_drop_more (place_of b) s i 0 h ∙ cond-true (eqb (get_or s i 0) b) 0 _ (eq-eqb (get_or s i 0) b e) in
        let is : end + step * 0 ≡ place_of b s = ap (λ n. end + step * n) (sym at) ∙ sofar in
        omega arith

    pub step-further :
        i < length s → (get_or s i 0 ≡ b → ⊥)
        → end + step + step * place_of b (drop (i + 1) s) ≡ place_of b s
    step-further h ne =
        let at : place_of b (drop i s) ≡ suc (place_of b (drop (i + 1) s)) = at_drop_more (place_of b) s i 0 h ∙ cond-false (eqb (get_or s i 0) b) 0 _ (ne_eqb (get_or s i 0) b ne) in
        let is : end + step * suc (place_of b (drop (i + 1) s)) ≡ place_of b s = ap (λ n. end + step * n) (sym at) ∙ sofar in
        let more = mul-suc step (place_of b (drop (i + 1) s)) in
        omega arith

    pub step-done : length s ≤ i → end ≡ place_of b s
    step-done h =
        let at : place_of b (drop i s) ≡ 0 = at_drop_all (place_of b) s i h in
        let is : end + step * 0 ≡ place_of b s = ap (λ n. end + step * n) (sym at) ∙ sofar in
        omega arith

-- what stands behind the parts of 16 bytes
pub rest-is :
    (s rest left : List ℕ) (n : ℕ) → 16 * n + length left ≡ length s → length left < 16
    → left ≡ drop (16 * n) s → rest ≡ drop (length s - length s % 16) s → rest ≡ left
rest-is s rest left n long short at cut =
    let e : length s - length s % 16 ≡ 16 * n = omega arith in
    cut ∙ ap (λ m. drop m s) e ∙ sym at
