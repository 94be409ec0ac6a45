-- A list whose first elements behind a place go, while others come to its end.
use Rattle.std.proofs.Common.{◌≡◌, ℕ, ◌+◌, ◌-◌, ◌≤◌, List, ◌++◌, length, take, drop, sym, ap, ◌∙◌}
use Rattle.std.proofs.Common.{append_assoc, arith}
use Rattle.std.proofs.lemmas.List.{append-nil, length-append, length-drop, length-take-le, drop_all}
use Rattle.std.proofs.lemmas.List.{take_all, take_at, drop-drop}
use borrow.Rule.Slice.PartMut.{put_mid, mid_of}

put-end :
    {X : Type 0} (xs : List X) (a k : ℕ) (ys : List X) → length xs ≤ a + k
    → put_mid a k xs ys ≡ take a xs ++ ys
put-end xs a k ys h =
    ap (λ l. take a xs ++ (ys ++ l)) (drop_all k (drop a xs) (omega (arith, length-drop a xs))) ∙ ap
    (λ l. take a xs ++ l) (append-nil ys)

pub length-mid :
    {X : Type 0} (xs : List X) (a k : ℕ) → a + k ≤ length xs → length (mid_of a k xs) ≡ k
length-mid xs a k h = length-take-le k (drop a xs) (omega (arith, length-drop a xs))

module _ {X : Type 0} (xs : List X) (a n : ℕ) (turned ys : List X) (inside : a + n ≤ length xs) (is : turned ≡ drop n (mid_of a (length xs - a) xs) ++ take n (mid_of a (length xs - a) xs)) where
  moved-is :
      put_mid a (length xs - a) xs turned ≡ (take a xs ++ drop (a + n) xs) ++ take n (drop a xs)
  moved-is =
      put-end xs a (length xs - a) turned (omega arith)
      ∙ ap (λ l. take a xs ++ l) (is ∙ ap (λ l. drop n l ++ take n l)
      (take_all (length xs - a) (drop a xs) (omega (arith, length-drop a xs))) ∙ ap
      (λ l. l ++ take n (drop a xs)) (drop-drop n a xs))
      ∙ sym (append_assoc (take a xs) (drop (a + n) xs) (take n (drop a xs)))

  front : length (take a xs ++ drop (a + n) xs) ≡ length xs - n
  front =
      omega (
        arith,
        length-append (take a xs) (drop (a + n) xs),
        length-take-le a xs
            (omega arith),
        length-drop (a + n) xs,
      )

  pub length-moved : length (put_mid a (length xs - a) xs turned) ≡ length xs
  length-moved =
      let behind : n ≤ length (drop a xs) = omega (arith, length-drop a xs) in
      ap length moved-is ∙ omega (
        arith,
        length-append (take a xs ++ drop (a + n) xs)
            (take n (drop a xs)),
        front,
        length-take-le n (drop a xs) behind,
      )

  pub end-replaced :
      (last k : ℕ) → last ≡ length xs - n → length xs ≤ last + k
      → put_mid last k (put_mid a (length xs - a) xs turned) ys
      ≡ take a xs ++ (drop (a + n) xs ++ ys)
  end-replaced last k at all =
      put-end (put_mid a (length xs - a) xs turned) last k ys (omega (arith, length-moved))
      ∙ ap (λ l. take last l ++ ys) moved-is
      ∙ ap (λ l. l ++ ys) (take_at (take a xs ++ drop (a + n) xs) (take n (drop a xs)) last
      (front ∙ sym at))
      ∙ append_assoc (take a xs) (drop (a + n) xs) ys
