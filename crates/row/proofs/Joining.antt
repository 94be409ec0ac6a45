-- Changing a row and joining deltas, field by field.
use Rattle.std.proofs.Common.{◌≡◌, ℕ, zero, suc, ◌<◌, true, List, [], ◌∷◌, map, length, replicate}
use Rattle.std.proofs.Common.{get_or, refl, sym, ap, ◌∙◌, arith}
use Rattle.std.proofs.lemmas.Bool.{both_ways}
use Rattle.row.specs.Limits.{field_limit}
use Rattle.row.specs.RowLaws.{change_at, RowLaws}
use Rattle.row.specs.Rows.{Cell, Change, null, value, same, becomes, over, change_cell, join_change}
use Rattle.row.specs.Rows.{changed, is_same}

-- where a change gives its place g of a cell, it does so at each place that has one
over-set :
    {X : Type 0} (f : X → Change → X) (g : Cell → X)
    → ((x : X) (c : Cell) → f x (becomes c) ≡ g c)
    → (xs : List X) (ds : List Change) (i : ℕ) (x : X) (c : Cell)
    → i < length xs → change_at ds i ≡ becomes c → get_or (over f xs ds) i x ≡ g c
over-set f g e [] ds i x c h is = absurd (omega arith)
over-set f g e (a ∷ xs) [] i x c h is = absurd (both_ways true (ap is_same is) refl)
over-set f g e (a ∷ xs) (d ∷ ds) zero x c h is = ap (f a) is ∙ e a c
over-set f g e (a ∷ xs) (d ∷ ds) (suc i) x c h is = over-set f g e xs ds i x c (omega arith) is

-- where an element of the second list changes nothing, no place with it changes
over-idle :
    {X Y : Type 0} (f : X → Y → X) (y : Y) → ((x : X) → f x y ≡ x)
    → (xs : List X) (ys : List Y) (i : ℕ) (x : X) → get_or ys i y ≡ y
    → get_or (over f xs ys) i x ≡ get_or xs i x
over-idle f y e [] ys i x h = refl
over-idle f y e (a ∷ xs) [] i x h = refl
over-idle f y e (a ∷ xs) (b ∷ ys) zero x h = ap (f a) h ∙ e a
over-idle f y e (a ∷ xs) (b ∷ ys) (suc i) x h = over-idle f y e xs ys i x h

pub length-over :
    {X Y : Type 0} (f : X → Y → X) (xs : List X) (ys : List Y) → length (over f xs ys) ≡ length xs
length-over f [] ys = refl
length-over f (x ∷ xs) [] = refl
length-over f (x ∷ xs) (y ∷ ys) = ap suc (length-over f xs ys)

-- where f twice is f once by g of both, so it is place by place
over-over :
    {X Y : Type 0} (f : X → Y → X) (g : Y → Y → Y) → ((x : X) (y z : Y) → f x (g y z) ≡ f (f x y) z)
    → (xs : List X) (ys zs : List Y) → length ys ≡ length zs
    → over f xs (over g ys zs) ≡ over f (over f xs ys) zs
over-over f g e [] ys zs h = refl
over-over f g e (x ∷ xs) [] [] h = refl
over-over f g e (x ∷ xs) [] (z ∷ zs) h = absurd (omega arith)
over-over f g e (x ∷ xs) (y ∷ ys) [] h = absurd (omega arith)
over-over f g e (x ∷ xs) (y ∷ ys) (z ∷ zs) h =
    λ i. e x y z i ∷ over-over f g e xs ys zs (omega arith) i

change-twice :
    (c : Cell) (d e : Change) → change_cell c (join_change d e) ≡ change_cell (change_cell c d) e
change-twice c d same = refl
change-twice c d (becomes x) = refl

join-twice : (c d e : Change) → join_change c (join_change d e) ≡ join_change (join_change c d) e
join-twice c d same = refl
join-twice c d (becomes x) = refl

blank-row : (n : ℕ) (row : List Cell) → changed row (replicate n same) ≡ row
blank-row zero [] = refl
blank-row zero (c ∷ row) = refl
blank-row (suc n) [] = refl
blank-row (suc n) (c ∷ row) = ap (λ l. c ∷ l) (blank-row n row)

whole-row :
    (row whole : List Cell) → length row ≡ length whole → changed row (map becomes whole) ≡ whole
whole-row [] [] h = refl
whole-row [] (w ∷ whole) h = absurd (omega arith)
whole-row (c ∷ row) [] h = absurd (omega arith)
whole-row (c ∷ row) (w ∷ whole) h = ap (λ l. w ∷ l) (whole-row row whole (omega arith))

pub row-laws : RowLaws
row-laws = record {
  stays = λ row d i h. over-idle change_cell same (λ _. refl) row d i null h;
  nulled =
      λ row d i inside h. over-set change_cell (λ c. c) (λ _ _. refl) row d i null null inside h;
  valued = λ row d i t inside h.
      over-set change_cell (λ c. c) (λ _ _. refl) row d i null (value t) inside h;
  row-length = length-over change_cell;
  later-kept = λ d e i c inside h.
      over-set join_change becomes (λ _ _. refl) d e i same c inside h;
  earlier-kept = λ d e i h. over-idle join_change same (λ _. refl) d e i same h;
  join-length = length-over join_change;
  by-join = over-over change_cell join_change change-twice;
  joins-group = λ c d e h k. sym (over-over join_change join_change join-twice c d e k);
  by-whole = whole-row;
  by-blank = blank-row field_limit;
}
