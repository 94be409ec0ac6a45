-- Texts that were put in their places, one before the other.
use Rattle.std.proofs.Common.{◌≡◌, ℕ, ◌+◌, ◌≤◌, Bool, true, false, cond, List, [], ◌∷◌, ◌++◌}
use Rattle.std.proofs.Common.{length, take, drop, Ok, Err, sym, refl, ap, ◌∙◌, subst, append_assoc}
use Rattle.std.proofs.Common.{arith}
use Rattle.std.proofs.lemmas.List.{length-append, length-take-le, take-append-le, take-take}
use Rattle.std.proofs.lemmas.List.{drop_at}
use Rattle.std.proofs.lemmas.Bool.{leb-true, cond-true}
use Rattle.tlcp.specs.Written.{placed, fits, end_or, placed_or, no_room}
use Rattle.tlcp.proofs.Placing.{fitting, placed-then}

-- t fitted behind the first `at` of xs: it ends before r, and makes ys of xs
pub record Puts (at : ℕ) (t xs : List ℕ) (r : ℕ) (ys : List ℕ) : Type 0 where
  pub room : at + length t ≤ length xs
  pub end : r ≡ at + length t
  pub bytes : ys ≡ placed at t xs

module _ (at : ℕ) (t xs : List ℕ) (r : ℕ) (ys : List ℕ) where
  pub puts : Ok r ≡ end_or at t xs → ys ≡ placed_or at t xs → Puts at t xs r ys
  puts = by (fits at t xs) refl
    where
      by :
          (b : Bool) → fits at t xs ≡ b → Ok r ≡ cond b (Ok (at + length t)) (Err no_room)
          → ys ≡ cond b (placed at t xs) xs → Puts at t xs r ys
      by true fit answer bytes = record { room = leb-true _ _ fit; end = cc; bytes = bytes }
      by false fit answer bytes = absurd (let z : ◌≡◌ {A = ℕ} 0 1 = cc in omega arith)

  pub answered : Puts at t xs r ys → Ok r ≡ end_or at t xs
  answered p = ap Ok p.end ∙ sym (cond-true _ _ _ (fitting at t xs p.room))

  pub left : Puts at t xs r ys → ys ≡ placed_or at t xs
  left p = p.bytes ∙ sym (cond-true _ _ _ (fitting at t xs p.room))

-- u is placed, and then t before it
placed-before :
    (at : ℕ) (t u xs : List ℕ) → at + length t + length u ≤ length xs
    → placed at t (placed (at + length t) u xs) ≡ placed at (t ++ u) xs
placed-before at t u xs room =
    let mid = at + length t in
    let rest = u ++ drop (mid + length u) xs in
    let size : length (take mid xs) ≡ mid = length-take-le mid xs (omega arith) in
    let front : take at (take mid xs ++ rest) ≡ take at xs = take-append-le at (take mid xs) rest (omega arith) ∙ take-take at mid xs (omega arith) in
    let behind : drop mid (take mid xs ++ rest) ≡ rest = drop_at (take mid xs) rest mid size in
    let whole : mid + length u ≡ at + length (t ++ u) = omega (arith, length-append t u) in
    (λ i. front i ++ (t ++ behind i))
    ∙ ap (λ l. take at xs ++ l) (sym (append_assoc t u _) ∙ ap (λ n. (t ++ u) ++ drop n xs) whole)

pub puts_then :
    (at : ℕ) (t u xs ys zs : List ℕ) (r s : ℕ) → length ys ≡ length xs → Puts at t xs r ys
    → Puts r u ys s zs → Puts at (t ++ u) xs s zs
puts_then at t u xs ys zs r s same p q =
    let both = length-append t u in
    let room : at + length (t ++ u) ≤ length xs = omega (arith, p.end, q.room) in
    record {
      room = room;
      end = omega (arith, p.end, q.end);
      bytes = q.bytes ∙ (λ i. placed (p.end i) u (p.bytes i)) ∙ placed-then at t u xs room;
    }

-- where u was put behind the place for t first, t goes before it
pub puts-before :
    (at mid : ℕ) (t u xs ys zs : List ℕ) (r s : ℕ) → mid ≡ at + length t → Puts mid u xs s ys
    → Puts at t ys r zs → Puts at (t ++ u) xs s zs
puts-before at mid t u xs ys zs r s is q p =
    let both = length-append t u in
    record {
      room = omega (arith, q.room);
      end = omega (arith, q.end);
      bytes =
          p.bytes ∙ ap (placed at t) (q.bytes ∙ ap (λ n. placed n u xs) is)
          ∙ placed-before at t u xs (omega (arith, q.room));
    }

-- a value u, and then before it a joint, a word and `=`
pub pair_puts :
    (at mid : ℕ) (joint word u xs : List ℕ) {b w ys₁ ys₂ ys₃ ys₄ : List ℕ}
    {end named divided last : ℕ}
    → b ≡ joint → w ≡ word → mid ≡ at + length b + length w + 1 → length ys₂ ≡ length ys₁
    → length ys₃ ≡ length ys₁ → Puts mid u xs end ys₁ → Puts at b ys₁ named ys₂
    → Puts named w ys₂ divided ys₃ → Puts divided (61 ∷ []) ys₃ last ys₄
    → Puts at (joint ++ (word ++ (61 ∷ u))) xs end ys₄
pair_puts at mid joint word u xs {b} {w} {ys₁} {ys₂} {ys₃} {ys₄} {end} {named} {divided} {last} joint-is word-is mid-is two three value before name equals =
    let front = b ++ w in
    let all = puts_then at front (61 ∷ []) ys₁ ys₃ ys₄ divided last three (puts_then at b w ys₁ ys₂ ys₃ named divided two before name) equals in
    let size : mid ≡ at + length (front ++ (61 ∷ [])) = omega (arith, length-append front (61 ∷ []), length-append b w) in
    let whole : (front ++ (61 ∷ [])) ++ u ≡ joint ++ (word ++ (61 ∷ u)) =
    append_assoc front (61 ∷ []) u ∙ append_assoc b w (61 ∷ u)
    ∙ (λ i. joint-is i ++ (word-is i ++ (61 ∷ u))) in
    subst (λ t. Puts at t xs end ys₄) whole (puts-before at mid (front ++ (61 ∷ [])) u xs ys₁ ys₄ last end size value all)
