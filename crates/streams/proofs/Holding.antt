-- Bytes that are held, one after another.
use Rattle.std.proofs.Common.{◌≡◌, ℕ, zero, suc, ◌-◌, List, [], ◌∷◌, ◌++◌, length, take, sym, refl}
use Rattle.std.proofs.Common.{ap, ◌∙◌, append_assoc, arith}
use Rattle.std.proofs.lemmas.List.{append-nil, length_push, take_all}
use Rattle.streams.specs.Held.{held_with}

pub held_with-none : (limit : ℕ) (h : List ℕ) → held_with limit h [] ≡ h
held_with-none limit h =
    ap (λ l. h ++ l) (take_all (limit - length h) [] (omega arith)) ∙ append-nil h

-- the first bytes of one text and then another are the first of both
take-both : (n : ℕ) (s t : List ℕ) → take n s ++ take (n - length (take n s)) t ≡ take n (s ++ t)
take-both zero s t = refl
take-both (suc n) [] t =
    let all : suc n - 0 ≡ suc n = omega arith in
    ap (λ m. take m t) all
take-both (suc n) (x ∷ s) t =
    let less : suc n - suc (length (take n s)) ≡ n - length (take n s) = omega arith in
    ap (λ m. x ∷ take n s ++ take m t) less ∙ ap (λ l. x ∷ l) (take-both n s t)

-- what is held of two parts of a line is what is held of the line
pub held_with-front : (limit : ℕ) (s t : List ℕ)
    → held_with limit (take limit s) t ≡ take limit (s ++ t)
held_with-front = take-both

pub held_with-more : (limit : ℕ) (h : List ℕ) (b : ℕ) (v : List ℕ)
    → held_with limit (held_with limit h (b ∷ [])) v ≡ held_with limit h (b ∷ v)
held_with-more limit h b v = by (limit - length h) refl
  where
    by : (n : ℕ) → limit - length h ≡ n → held_with limit (held_with limit h (b ∷ [])) v
        ≡ held_with limit h (b ∷ v)
    by zero e =
        let full : held_with limit h (b ∷ []) ≡ h =
        ap (λ m. h ++ take m (b ∷ [])) e ∙ append-nil h in
        ap (λ l. held_with limit l v) full ∙ ap (λ m. h ++ take m v) e
        ∙ sym (ap (λ m. h ++ take m (b ∷ v)) e)
    by (suc n) e =
        let one : held_with limit h (b ∷ []) ≡ h ++ b ∷ [] =
        ap (λ m. h ++ take m (b ∷ [])) e ∙ ap (λ l. h ++ b ∷ l) (take_all n [] (omega arith)) in
        let long = length_push h b in
        let left : limit - length (h ++ b ∷ []) ≡ n = omega arith in
        ap (λ l. held_with limit l v) one
        ∙ ap (λ m. (h ++ b ∷ []) ++ take m v) left
        ∙ append_assoc h (b ∷ []) (take n v)
        ∙ sym (ap (λ m. h ++ take m (b ∷ v)) e)
