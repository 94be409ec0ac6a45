-- A function applied place by place, and its meaning.
use Rattle.std.proofs.Common.{◌≡◌, Bool, true, false, cond, List, [], ◌∷◌, map, length, sym, refl}
use Rattle.std.proofs.Common.{ap, ◌∙◌, arith, ◌==◌, ◌&&◌}
use Rattle.std.specs.List.{list_all}
use Rattle.std.proofs.lemmas.Bool.{and_from, and_parts, cond_both, cond-true, cond-false, eq-eqb}
use Rattle.std.proofs.lemmas.Bool.{eqb-true}
use Rattle.std.proofs.Math.Bool.{and_comm}
use Rattle.row.specs.Limits.{field_limit}
use Rattle.row.specs.Rows.{all_same, is_same, over}
use Rattle.row.specs.Kinds.{Kind}
use Rattle.row.specs.Records as records
use Rattle.row.specs.Records.{change_of, rows_fit}
use Rattle.row.specs.declared.change.Change.{Change}
use Rattle.row.specs.declared.change.Mark.{Mark}
use Rattle.row.specs.declared.change.Mark.TheVariants.{Same, Null, Value}

-- where p and q read the two kinds of element, p reads f as g
pub map-over :
    {X Y A B : Type 0} (p : X → A) (q : Y → B) (f : X → Y → X) (g : A → B → A)
    → ((x : X) (y : Y) → p (f x y) ≡ g (p x) (q y)) → (xs : List X) (ys : List Y)
    → map p (over f xs ys) ≡ over g (map p xs) (map q ys)
map-over p q f g e [] ys = refl
map-over p q f g e (x ∷ xs) [] = refl
map-over p q f g e (x ∷ xs) (y ∷ ys) = λ i. e x y i ∷ map-over p q f g e xs ys i

-- read by p and q at each place, changed by g and written by e: the same as all read, all changed,
-- and all written
over-read :
    {X Y A B : Type 0} (e : A → X) (p : X → A) (q : Y → B) (g : A → B → A) (xs : List X)
    (ys : List Y)
    → length xs ≡ length ys
    → over (λ x y. e (g (p x) (q y))) xs ys ≡ map e (over g (map p xs) (map q ys))
over-read e p q g [] ys h = refl
over-read e p q g (x ∷ xs) [] h = absurd (omega arith)
over-read e p q g (x ∷ xs) (y ∷ ys) h =
    ap (λ l. e (g (p x) (q y)) ∷ l) (over-read e p q g xs ys (omega arith))

module _ {R : Type 0} (k : Kind R) where
  is_same-by :
      (m : Mark) (r : R) → records.is_same m ≡ is_same (change_of k (record { mark = m; raw = r }))
  is_same-by Same r = refl
  is_same-by Null r = refl
  is_same-by Value r = refl

  pub all_same-means :
      (ds : List (Change R))
      → list_all (λ d. records.is_same d.mark) ds ≡ all_same (map (change_of k) ds)
  all_same-means [] = refl
  all_same-means (d ∷ ds) = λ i. is_same-by d.mark d.raw i && all_same-means ds i

over-onto :
    {X Y A : Type 0} (e : A → X) (f : Y → A) (xs : List X) (ys : List Y) → length xs ≡ length ys
    → over (λ x y. e (f y)) xs ys ≡ map e (map f ys)
over-onto e f [] [] h = refl
over-onto e f [] (y ∷ ys) h = absurd (omega arith)
over-onto e f (x ∷ xs) [] h = absurd (omega arith)
over-onto e f (x ∷ xs) (y ∷ ys) h = ap (λ l. e (f y) ∷ l) (over-onto e f xs ys (omega arith))

pub fit-swap : {X Y : Type 0} (xs : List X) (ys : List Y) → rows_fit xs ys ≡ rows_fit ys xs
fit-swap xs ys = and_comm (length xs == field_limit) (length ys == field_limit)

pub rows_fit_lem :
    {X Y : Type 0} (xs : List X) (ys : List Y) → length xs ≡ field_limit → length ys ≡ field_limit
    → rows_fit xs ys ≡ true
rows_fit_lem xs ys e f =
    and_from _ _ (eq-eqb (length xs) field_limit e) (eq-eqb (length ys) field_limit f)

same-length :
    {X Y : Type 0} (xs : List X) (ys : List Y) → rows_fit xs ys ≡ true → length xs ≡ length ys
same-length xs ys e =
    let h = and_parts (length xs == field_limit) (length ys == field_limit) e in
    omega (arith, eqb-true (length xs) field_limit h.0, eqb-true (length ys) field_limit h.1)

pub either-read :
    {X Y A B : Type 0} (e : A → X) (p : X → A) (q : Y → B) (g : A → B → A) (xs : List X)
    (ys : List Y)
    → cond (rows_fit xs ys) (over (λ x y. e (g (p x) (q y))) xs ys) xs
    ≡ cond (rows_fit xs ys) (map e (over g (map p xs) (map q ys))) xs
either-read e p q g xs ys =
    cond_both (rows_fit xs ys) _ _ (λ l. l ≡ cond (rows_fit xs ys) (map e (over g (map p xs) (map q ys))) xs)
    (λ fits. over-read e p q g xs ys (same-length xs ys fits) ∙ sym (cond-true _ _ _ fits)) (λ fits. sym (cond-false _ _ _ fits))

pub map-either :
    {X Y : Type 0} (p : X → Y) (b : Bool) (xs ys : List X)
    → map p (cond b xs ys) ≡ cond b (map p xs) (map p ys)
map-either p true xs ys = refl
map-either p false xs ys = refl

-- what the other list alone decides
pub either-onto :
    {X Y A : Type 0} (e : A → X) (f : Y → A) (xs : List X) (ys : List Y)
    → cond (rows_fit xs ys) (over (λ x y. e (f y)) xs ys) xs
    ≡ cond (rows_fit xs ys) (map e (map f ys)) xs
either-onto e f xs ys =
    cond_both (rows_fit xs ys) _ _ (λ l. l ≡ cond (rows_fit xs ys) (map e (map f ys)) xs)
    (λ fits. over-onto e f xs ys (same-length xs ys fits) ∙ sym (cond-true _ _ _ fits)) (λ fits. sym (cond-false _ _ _ fits))
