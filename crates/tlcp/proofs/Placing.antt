-- Bytes in their places: what a writer leaves, step by step.
use Rattle.std.proofs.Common.{◌≡◌, ℕ, ◌+◌, ◌≤◌, true, List, ◌++◌, length, take, drop, Ok, Err, sym}
use Rattle.std.proofs.Common.{ap, ◌∙◌, append_assoc, add_assoc, arith}
use Rattle.std.proofs.lemmas.List.{length-append, length-drop, length-take-le, take_at, drop_at}
use Rattle.std.proofs.lemmas.List.{drop-drop}
use Rattle.std.proofs.lemmas.Bool.{le-leb, cond-true}
use Rattle.row.specs.declared.fault.Refusal.{Refusal}
use Rattle.tlcp.proofs.Reading.{refused}
use Rattle.tlcp.specs.Written.{placed, fits, end_or, placed_or}

pub fitting : (at : ℕ) (t xs : List ℕ) → at + length t ≤ length xs → fits at t xs ≡ true
fitting at t xs h = le-leb (at + length t) (length xs) h

-- t is placed, and then u behind it
module _ (at : ℕ) (t u xs : List ℕ) (room : at + length (t ++ u) ≤ length xs) where
  both : length (t ++ u) ≡ length t + length u
  both = length-append t u

  front : length (take at xs ++ t) ≡ at + length t
  front =
      length-append (take at xs) t
      ∙ ap (λ k. k + length t) (length-take-le at xs (omega (arith, both)))

  split : placed at t xs ≡ (take at xs ++ t) ++ drop (at + length t) xs
  split = sym (append_assoc (take at xs) t _)

  pub placed-then : placed (at + length t) u (placed at t xs) ≡ placed at (t ++ u) xs
  placed-then =
      ap (λ l. placed (at + length t) u l) split
      ∙ (λ i. take_at (take at xs ++ t) (drop (at + length t) xs) (at + length t) front i ++ (u ++ behind i))
      ∙ append_assoc (take at xs) t _ ∙ ap (λ l. take at xs ++ l) (sym (append_assoc t u _))
    where
      behind :
          drop (at + length t + length u) ((take at xs ++ t) ++ drop (at + length t) xs)
          ≡ drop (at + length (t ++ u)) xs
      behind =
          sym (drop-drop (length u) (at + length t) ((take at xs ++ t) ++ drop (at + length t) xs))
          ∙ ap (drop (length u)) (drop_at (take at xs ++ t) (drop (at + length t) xs) (at + length t) front)
          ∙ drop-drop (length u) (at + length t) xs
          ∙ ap (λ k. drop k xs) (add_assoc at (length t) (length u) ∙ ap (λ k. at + k) (sym both))

  length-placed : length (placed at t xs) ≡ length xs
  length-placed =
      ap length split ∙ length-append (take at xs ++ t) (drop (at + length t) xs)
      ∙ omega (arith, front, length-drop (at + length t) xs, both)

  module _ (end : ℕ) (ys : List ℕ) (here : end ≡ at + length t) (now : ys ≡ placed at t xs) where
    pub fit : end + length u ≤ length ys
    fit = omega (arith, ap length now, length-placed, both)

    pub placed-next :
        (r : ℕ) (zs : List ℕ) → r ≡ end + length u → zs ≡ placed end u ys
        → (r ≡ at + length (t ++ u)) × (zs ≡ placed at (t ++ u) xs)
    placed-next r zs count bytes =
        (omega (arith, both), bytes ∙ (λ i. placed (here i) u (now i)) ∙ placed-then)

    pub then-placed :
        (r : ℕ) (zs : List ℕ) → Ok r ≡ end_or end u ys → zs ≡ placed_or end u ys
        → (r ≡ at + length (t ++ u)) × (zs ≡ placed at (t ++ u) xs)
    then-placed r zs answer bytes =
        let fits-it = fitting end u ys fit in
        let last : Ok r ≡ Ok (end + length u) = answer ∙ cond-true _ _ _ fits-it in
        let count : r ≡ end + length u = cc in
        placed-next r zs count (bytes ∙ cond-true _ _ _ fits-it)

    pub never-refused : (e : Refusal) → Err e ≡ end_or end u ys → ⊥
    never-refused e answer = refused (answer ∙ cond-true _ _ _ (fitting end u ys fit))
