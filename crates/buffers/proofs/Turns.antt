-- Lists turned to a place, and what is put in one of their places.
use Rattle.std.proofs.Common.{◌≡◌, ◌⊎◌, ℕ, zero, suc, ◌+◌, ◌≤◌, ◌<◌, List, [], ◌∷◌, ◌++◌, length}
use Rattle.std.proofs.Common.{take, drop, set, get_or, sym, refl, ap, ◌∙◌, subst, arith}
use Rattle.std.proofs.Common.{append_assoc, not-suc-le-zero, ⊎_elim}
use Rattle.std.proofs.lemmas.List.{append-nil, length-append, length-drop, length-take-le}
use Rattle.std.proofs.lemmas.List.{take-append-drop, take_at, drop_at, drop_more, drop_all}
use Rattle.buffers.specs.Turning.{turned}

-- other elements in place of the w from p on
abbrev pub put_from : {X : Type 0} → ℕ → ℕ → List X → List X → List X
put_from p w ys xs = take p xs ++ (ys ++ drop w (drop p xs))

module _ {X : Type 0} where
  put-is :
      (p w : ℕ) (a y c ys : List X) → length a ≡ p → length y ≡ w
      → put_from p w ys (a ++ (y ++ c)) ≡ a ++ (ys ++ c)
  put-is p w a y c ys la ly =
      λ j. take_at a (y ++ c) p la j ++
      (ys ++ (ap (drop w) (drop_at a (y ++ c) p la) ∙ drop_at y c w ly) j)

  turn-is : (p : ℕ) (a b : List X) → length a ≡ p → turned p (a ++ b) ≡ b ++ a
  turn-is p a b la = λ j. drop_at a b p la j ++ take_at a b p la j

  assoc : (a b c d : List X) → (a ++ (b ++ c)) ++ d ≡ a ++ (b ++ (c ++ d))
  assoc a b c d = append_assoc a (b ++ c) d ∙ ap (λ l. a ++ l) (append_assoc b c d)

  -- the elements before a place, in it and behind it
  parts : (p w : ℕ) (xs : List X) → take p xs ++ (take w (drop p xs) ++ drop w (drop p xs)) ≡ xs
  parts p w xs = ap (λ l. take p xs ++ l) (take-append-drop w (drop p xs)) ∙ take-append-drop p xs

  -- a place behind the one where the list is turned
  put-behind :
      (p q w : ℕ) (a b y c ys : List X) → length a ≡ p → length b ≡ q → length y ≡ w
      → turned p (put_from (p + q) w ys (a ++ (b ++ (y ++ c))))
      ≡ put_from q w ys (turned p (a ++ (b ++ (y ++ c))))
  put-behind p q w a b y c ys la lb ly =
      ap (λ x. turned p (put_from (p + q) w ys x)) (sym (append_assoc a b (y ++ c)))
      ∙ ap (turned p) (put-is (p + q) w (a ++ b) y c ys
      (omega (arith, length-append a b, la, lb)) ly ∙ append_assoc a b (ys ++ c))
      ∙ turn-is p a (b ++ (ys ++ c)) la
      ∙ assoc b ys c a
      ∙ sym (put-is q w b y (c ++ a) ys lb ly)
      ∙ ap (put_from q w ys) (sym (assoc b y c a) ∙ sym (turn-is p a (b ++ (y ++ c)) la))

  -- a place before it
  put-before :
      (p q i w : ℕ) (b y c d ys : List X) → length b ≡ i → length y ≡ w → length ys ≡ w
      → length (b ++ (y ++ c)) ≡ p → length d + i ≡ q
      → turned p (put_from i w ys ((b ++ (y ++ c)) ++ d))
      ≡ put_from q w ys (turned p ((b ++ (y ++ c)) ++ d))
  put-before p q i w b y c d ys lb ly lys lp lq =
      let long : length (b ++ (ys ++ c)) ≡ p = omega (
        arith,
        length-append b (ys ++ c),
        length-append ys c,
        length-append b
            (y ++ c),
        length-append y c,
        lp,
        ly,
        lys,
      ) in
      ap (λ x. turned p (put_from i w ys x)) (assoc b y c d)
      ∙ ap (turned p) (put-is i w b y (c ++ d) ys lb ly ∙ sym (assoc b ys c d))
      ∙ turn-is p (b ++ (ys ++ c)) d long
      ∙ sym (append_assoc d b (ys ++ c))
      ∙ sym (put-is q w (d ++ b) y c ys (omega (arith, length-append d b, lb, lq)) ly)
      ∙ ap (put_from q w ys) (append_assoc d b (y ++ c) ∙ sym (turn-is p (b ++ (y ++ c)) d lp))

  -- what is put in a place stands as far behind the place where the list is turned, round its end
  pub turned-put :
      (p q i w n : ℕ) (xs ys : List X) → length xs ≡ n → length ys ≡ w → p ≤ n
      → ((i ≡ p + q) × (i + w ≤ n)) ⊎ ((i + n ≡ p + q) × (i + w ≤ p))
      → turned p (put_from i w ys xs) ≡ put_from q w ys (turned p xs)
  turned-put p q i w n xs ys long wide inside =
      ⊎_elim
      (λ h. let r = drop p xs in
      let lr = length-drop p xs in
      let split : take p xs ++ (take q r ++ (take w (drop q r) ++ drop w (drop q r))) ≡ xs = ap
      (λ l. take p xs ++ l) (parts q w r) ∙ take-append-drop p xs in
      let first = put-behind p q w (take p xs) (take q r) (take w (drop q r)) (drop w (drop q r)) ys
      (length-take-le p xs (omega arith)) (length-take-le q r (omega (arith, h.0, h.1)))
      (length-take-le w (drop q r) (omega (arith, h.0, h.1, length-drop q r))) in
      ap (λ m. turned p (put_from m w ys xs)) h.0 ∙ subst
      (λ x. turned p (put_from (p + q) w ys x) ≡ put_from q w ys (turned p x)) split first)
      (λ h. let a = take p xs in
      let la = length-take-le p xs (omega arith) in
      let split : (take i a ++ (take w (drop i a) ++ drop w (drop i a))) ++ drop p xs ≡ xs = ap
      (λ l. l ++ drop p xs) (parts i w a) ∙ take-append-drop p xs in
      subst (λ x. turned p (put_from i w ys x) ≡ put_from q w ys (turned p x)) split
      (put-before p q i w (take i a) (take w (drop i a)) (drop w (drop i a)) (drop p xs) ys
      (length-take-le i a (omega (arith, h.1)))
      (length-take-le w (drop i a) (omega (arith, h.1, length-drop i a))) wide
      (ap length (parts i w a) ∙ la) (omega (arith, h.0, length-drop p xs))))

  -- a list turned one place further
  next-is :
      (p w : ℕ) (a y c ys : List X) → length a ≡ p → length y ≡ w → length ys ≡ w
      → turned (p + w) (a ++ (ys ++ c)) ≡ drop w (turned p (a ++ (y ++ c))) ++ ys
  next-is p w a y c ys la ly lys =
      ap (turned (p + w)) (sym (append_assoc a ys c))
      ∙ turn-is (p + w) (a ++ ys) c (omega (arith, length-append a ys, la, lys))
      ∙ sym (append_assoc c a ys)
      ∙ ap (λ l. l ++ ys) (sym (ap (drop w) (turn-is p a (y ++ c) la ∙ append_assoc y c a)
      ∙ drop_at y (c ++ a) w ly))

  -- which is the first, behind the last
  end-is :
      (p w : ℕ) (a y ys : List X) → length a ≡ p → length y ≡ w
      → turned 0 (a ++ (ys ++ [])) ≡ drop w (turned p (a ++ (y ++ []))) ++ ys
  end-is p w a y ys la ly =
      append-nil (a ++ (ys ++ []))
      ∙ ap (λ l. a ++ l) (append-nil ys)
      ∙ ap (λ l. l ++ ys) (sym (ap (drop w) (turn-is p a (y ++ []) la ∙ append_assoc y [] a)
      ∙ drop_at y a w ly))

  pub turned-next :
      (p w n next : ℕ) (xs ys : List X) → length xs ≡ n → length ys ≡ w
      → ((next ≡ p + w) × (p + w ≤ n)) ⊎ ((next ≡ 0) × (p + w ≡ n))
      → turned next (put_from p w ys xs) ≡ drop w (turned p xs) ++ ys
  turned-next p w n next xs ys long wide =
      let a = take p xs in
      let y = take w (drop p xs) in
      ⊎_elim
      (λ h. let la = length-take-le p xs (omega (arith, h.1)) in
      let ly = length-take-le w (drop p xs) (omega (arith, h.1, length-drop p xs)) in
      ap (λ m. turned m (put_from p w ys xs)) h.0
      ∙ next-is p w a y (drop w (drop p xs)) ys la ly wide
      ∙ ap (λ x. drop w (turned p x) ++ ys) (parts p w xs))
      (λ h. let la = length-take-le p xs (omega (arith, h.1)) in
      let ly = length-take-le w (drop p xs) (omega (arith, h.1, length-drop p xs)) in
      let none : drop w (drop p xs) ≡ [] = drop_all w (drop p xs)
      (omega (arith, h.1, length-drop p xs)) in
      ap (λ m. turned m (put_from p w ys xs)) h.0
      ∙ ap (λ c. turned 0 (a ++ (ys ++ c))) none
      ∙ end-is p w a y ys la ly
      ∙ ap (λ x. drop w (turned p x) ++ ys) (ap (λ c. a ++ (y ++ c)) (sym none) ∙ parts p w xs))

  pub put-own : (p w : ℕ) (xs : List X) → put_from p w (take w (drop p xs)) xs ≡ xs
  put-own = parts

  -- one element
  pub set-is : (xs : List X) (i : ℕ) (x : X) → i < length xs → set xs i x ≡ put_from i 1 (x ∷ []) xs
  set-is [] i x h = absurd (not-suc-le-zero h)
  set-is (y ∷ xs) zero x h = refl
  set-is (y ∷ xs) (suc i) x h = ap (λ l. y ∷ l) (set-is xs i x (omega arith))

  pub one-at :
      (xs : List X) (i : ℕ) (d : X) → i < length xs → take 1 (drop i xs) ≡ get_or xs i d ∷ []
  one-at xs i d h = ap (take 1) (drop_more xs i d h)
