-- Texts, byte by byte: which word a text is, where a byte stands in it, and what stands before,
-- behind and between.
use Rattle.std.specs.Prelude.{◌≡◌, ℕ, suc, ◌+◌, Bool, true, false, cond, ◌&&◌, ◌||◌, List, [], ◌∷◌}
use Rattle.std.specs.Prelude.{length, take, drop, find, Some, None, Option, ◌==◌, nat_lt}
use Rattle.std.specs.List.{flat_map}

abbrev pub is_nil : List ℕ → Bool
is_nil s = length s == 0

abbrev pub same_bytes : List ℕ → List ℕ → Bool
same_bytes [] [] = true
same_bytes [] (y ∷ ys) = false
same_bytes (x ∷ xs) [] = false
same_bytes (x ∷ xs) (y ∷ ys) = x == y && same_bytes xs ys

-- the first of some things whose word a text is
abbrev pub first_with : {X : Type 0} → (X → List ℕ) → List X → List ℕ → Option X
first_with word xs s = find (λ x. same_bytes s (word x)) xs

-- the place of the first b, or the length where there is none
abbrev pub place_of : ℕ → List ℕ → ℕ
place_of b [] = 0
place_of b (x ∷ s) = let n = place_of b s in cond (x == b) 0 (suc n)

-- what stands before the first b: all, where there is none
abbrev pub before : ℕ → List ℕ → List ℕ
before b s = take (place_of b s) s

-- what stands behind the first b, if there is one
abbrev pub behind : ℕ → List ℕ → Option (List ℕ)
behind b s = cond (nat_lt (place_of b s) (length s)) (Some (drop (place_of b s + 1) s)) None

-- a part of a line: its bytes, and the offset of the first
pub record Piece : Type 0 where
  pub text : List ℕ
  pub at : ℕ

-- b stands in a text
abbrev pub has : ℕ → List ℕ → Bool
has b [] = false
has b (x ∷ s) = x == b || has b s

-- b before the first of some texts
abbrev pub push : ℕ → List (List ℕ) → List (List ℕ)
push b [] = (b ∷ []) ∷ []
push b (v ∷ vs) = (b ∷ v) ∷ vs

-- what stands between the bytes c of a text
abbrev pub divided_by : ℕ → List ℕ → List (List ℕ)
divided_by c [] = [] ∷ []
divided_by c (b ∷ s) = let more = divided_by c s in cond (b == c) ([] ∷ more) (push b more)

-- texts with c before each
abbrev pub each_behind : ℕ → List (List ℕ) → List ℕ
each_behind c ts = flat_map (λ t. c ∷ t) ts

-- texts with c between them
abbrev pub joined_by : ℕ → List (List ℕ) → List ℕ
joined_by c ts = drop 1 (each_behind c ts)

abbrev pub NoneHas : ℕ → List (List ℕ) → Type 0
NoneHas c [] = Unit {0}
NoneHas c (t ∷ ts) = (has c t ≡ false) × NoneHas c ts
