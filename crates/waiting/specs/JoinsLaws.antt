-- What the joins of a waiting list do as its pairs are sent and forgotten.
use Rattle.std.specs.Prelude.{◌≡◌, ◌≢◌, ℕ, zero, suc, ◌≤◌, Bool, true, false, not, cond, ◌&&◌, List}
use Rattle.std.specs.Prelude.{[], ◌∷◌, map, length, take, drop, replicate, fold, filter, ◌-◌, Ok}
use Rattle.std.proofs.Common.{sym, refl, ap, ◌∙◌, arith}
use Rattle.std.specs.List.{AllByRecursion, list_all}
use Rattle.std.proofs.lemmas.Bool.{and_from, and_parts, both_ways, cond_both, eq-eqb, eqb-true}
use Rattle.std.proofs.lemmas.Bool.{ne_eqb, not-true, not-false, not_from_false}
use Rattle.std.proofs.Math.Bool.{and-true, and_assoc}
use Rattle.std.proofs.lemmas.List.{length-drop, length-take, take_all, drop-replicate}
use Rattle.std.proofs.lemmas.Result.{IfOk-at_ok}
use Rattle.row.specs.Limits.{field_limit}
use Rattle.row.specs.Rows.{Change, same, becomes, join_change, join, blank, all_same}
use Rattle.waiting.specs.Joins.{same_in}
use Rattle.waiting.specs.Lists.{Pair, is_for, may_wait, waiting_for, joined, deltas, without}
use Rattle.waiting.specs.ListsLaws.{length-join, join-blank, filter_skip, joined-cons, joined-other}
use Rattle.waiting.specs.ListsLaws.{parts-deltas, all-deltas, join-same, waits}
use Rattle.waiting.specs.Policies.{Meaning, first, after_drop}

-- a delta for all places of a row
abbrev Whole : List Change → Type 0
Whole d = length d ≡ field_limit

join_change-assoc :
    (b c d : Change) → join_change (join_change b c) d ≡ join_change b (join_change c d)
join_change-assoc b c same = refl
join_change-assoc b c (becomes d) = refl

-- three deltas join to the same from either side
pub join-assoc : (b c d : List Change) → length d ≤ length c → join (join b c) d ≡ join b (join c d)
join-assoc [] c d h = refl
join-assoc (b ∷ bs) [] [] h = refl
join-assoc (b ∷ bs) [] (d ∷ ds) h = absurd (omega arith)
join-assoc (b ∷ bs) (c ∷ cs) [] h = refl
join-assoc (b ∷ bs) (c ∷ cs) (d ∷ ds) h =
    λ i. join_change-assoc b c d i ∷ join-assoc bs cs ds (omega arith) i

-- each delta that waits has the places of a row
whole-deltas :
    (t : ℕ) (l : List Pair) → list_all may_wait l ≡ true → AllByRecursion Whole (waiting_for t l)
whole-deltas t [] e = tt
whole-deltas t (p ∷ l) e =
    let w = waits p l e in
    let P : List Pair → Type 0 = λ x. AllByRecursion Whole (map (λ q. q.delta) x) in
    cond_both (is_for t p) (p ∷ filter (is_for t) l) (filter (is_for t) l) P
    (λ _. (w.long, whole-deltas t l w.rest)) (λ _. whole-deltas t l w.rest)

length-joins : (ds : List (List Change)) (x : List Change) → length (fold join x ds) ≡ length x
length-joins [] x = refl
length-joins (d ∷ ds) x = length-joins ds (join x d) ∙ length-join x d

-- deltas join onto another as their join does
joins-onto :
    (ds : List (List Change)) (x c : List Change) → Whole c → AllByRecursion Whole ds
    → fold join (join x c) ds ≡ join x (fold join c ds)
joins-onto [] x c h all = refl
joins-onto (d ∷ ds) x c h all =
    ap (λ y. fold join y ds) (join-assoc x c d (omega (arith, all.0, h))) ∙ joins-onto ds x
    (join c d) (length-join c d ∙ h) all.1

-- the join of the first pair's tap is that pair's delta, joined with the join of those behind it
pub joined-first :
    (p : Pair) (l : List Pair) → list_all may_wait (p ∷ l) ≡ true
    → joined p.tap (p ∷ l) ≡ join p.delta (joined p.tap l)
joined-first p l e =
    let w = waits p l e in
    joined-cons p.tap p l (eq-eqb p.tap p.tap refl)
    ∙ ap (λ x. fold join x (waiting_for p.tap l))
    (join-blank p.delta w.long ∙ sym (join-same p.delta blank refl))
    ∙ joins-onto (waiting_for p.tap l) p.delta blank refl (whole-deltas p.tap l w.rest)

-- a list with a first pair is that pair before what a drop leaves
first-before : (m : Meaning) (p : Pair) → first m ≡ Ok p → m ≡ p ∷ after_drop m
first-before [] p e = IfOk-at_ok (λ q. [] ≡ q ∷ []) e tt
first-before (q ∷ l) p e = IfOk-at_ok (λ r. q ∷ l ≡ r ∷ l) e refl

-- where all of it may wait, so may these
pub first-waits :
    (m : Meaning) (p : Pair) → list_all may_wait m ≡ true → first m ≡ Ok p
    → list_all may_wait (p ∷ after_drop m) ≡ true
first-waits m p e f = ap (list_all may_wait) (sym (first-before m p f)) ∙ e

-- the join of the first pair's tap is its delta, joined with the join of what a drop leaves
pub joined-dropped :
    (m : Meaning) (p : Pair) → list_all may_wait m ≡ true → first m ≡ Ok p
    → joined p.tap m ≡ join p.delta (joined p.tap (after_drop m))
joined-dropped m p e f =
    ap (joined p.tap) (first-before m p f)
    ∙ joined-first p (after_drop m) (first-waits m p e f)

-- no pair of a forgotten tap is left
none-left : (t : ℕ) (l : List Pair) → filter (is_for t) (without t l) ≡ []
none-left t [] = refl
none-left t (p ∷ l) =
    cond_both (not (is_for t p)) (p ∷ without t l) (without t l) (λ x. filter (is_for t) x ≡ [])
    (λ e. filter_skip (is_for t) p (without t l) (not-true (is_for t p) e) ∙ none-left t l)
    (λ _. none-left t l)

-- and those of another tap are
others-left :
    (t u : ℕ) → u ≢ t → (l : List Pair) → filter (is_for u) (without t l) ≡ filter (is_for u) l
others-left t u ne [] = refl
others-left t u ne (p ∷ l) =
    let rest = others-left t u ne l in
    cond_both (not (is_for t p)) (p ∷ without t l) (without t l)
    (λ x. filter (is_for u) x ≡ filter (is_for u) (p ∷ l))
    (λ _. ap (λ x. cond (is_for u p) (p ∷ x) x) rest)
    (λ e. rest ∙ sym (filter_skip (is_for u) p l
    (ne_eqb p.tap u (λ f. ne (sym f ∙ eqb-true p.tap t (not-false (is_for t p) e))))))

-- without a tap's pairs its join is blank
pub joined-without : (t : ℕ) (l : List Pair) → joined t (without t l) ≡ blank
joined-without t l = ap (λ x. fold join blank (map (λ p. p.delta) x)) (none-left t l)

-- another tap's join does not have the first pair
pub joined-behind : (p : Pair) (l : List Pair) (u : ℕ) → u ≢ p.tap → joined u (p ∷ l) ≡ joined u l
joined-behind p l u ne = joined-other u p l (ne_eqb p.tap u (λ e. ne (sym e)))

-- so it is the join of what a drop leaves
pub other-dropped :
    (m : Meaning) (p : Pair) (u : ℕ) → first m ≡ Ok p → u ≢ p.tap
    → joined u m ≡ joined u (after_drop m)
other-dropped m p u f ne =
    ap (joined u) (first-before m p f) ∙ joined-behind p (after_drop m) u ne

-- and every other tap's join stays
pub joined-without-other : (t u : ℕ) (l : List Pair) → u ≢ t → joined u (without t l) ≡ joined u l
joined-without-other t u l ne =
    ap (λ x. fold join blank (map (λ p. p.delta) x)) (others-left t u ne l)

take-join : (n : ℕ) (c d : List Change) → take n (join c d) ≡ join (take n c) (take n d)
take-join zero c d = refl
take-join (suc n) [] d = refl
take-join (suc n) (c ∷ cs) [] = refl
take-join (suc n) (c ∷ cs) (d ∷ ds) = ap (λ l. join_change c d ∷ l) (take-join n cs ds)

drop-join : (n : ℕ) (c d : List Change) → drop n (join c d) ≡ join (drop n c) (drop n d)
drop-join zero c d = refl
drop-join (suc n) [] d = refl
drop-join (suc n) (c ∷ cs) [] = sym (join-none (drop n cs))
  where
    join-none : (l : List Change) → join l [] ≡ l
    join-none [] = refl
    join-none (x ∷ l) = refl
drop-join (suc n) (c ∷ cs) (d ∷ ds) = drop-join n cs ds

-- a join is same where both deltas are
all_same-join :
    (c d : List Change) → length d ≡ length c → all_same (join c d) ≡ (all_same c && all_same d)
all_same-join [] [] h = refl
all_same-join [] (d ∷ ds) h = absurd (omega arith)
all_same-join (c ∷ cs) [] h = absurd (omega arith)
all_same-join (same ∷ cs) (same ∷ ds) h = all_same-join cs ds (omega arith)
all_same-join (same ∷ cs) (becomes d ∷ ds) h = sym (and-false (all_same cs))
  where
    and-false : (b : Bool) → (b && false) ≡ false
    and-false true = refl
    and-false false = refl
all_same-join (becomes c ∷ cs) (same ∷ ds) h = refl
all_same-join (becomes c ∷ cs) (becomes d ∷ ds) h = refl

module _ (m n : ℕ) where
  same_in-join :
      (c d : List Change) → length d ≡ length c
      → same_in m n (join c d) ≡ (same_in m n c && same_in m n d)
  same_in-join c d h =
      ap (λ l. all_same (take n l)) (drop-join m c d)
      ∙ ap all_same (take-join n (drop m c) (drop m d))
      ∙ all_same-join (take n (drop m c)) (take n (drop m d))
      (omega (
        arith,
        length-take n (drop m c),
        length-take n
            (drop m d),
        length-drop m c,
        length-drop m d,
      ))

  same_in-joins :
      (ds : List (List Change)) (c : List Change) → Whole c → AllByRecursion Whole ds
      → same_in m n (fold join c ds) ≡ (same_in m n c && list_all (same_in m n) ds)
  same_in-joins [] c h all = sym (and-true (same_in m n c))
  same_in-joins (d ∷ ds) c h all =
      same_in-joins ds (join c d) (length-join c d ∙ h) all.1
      ∙ ap (λ b. b && list_all (same_in m n) ds) (same_in-join c d (all.0 ∙ sym h))
      ∙ and_assoc (same_in m n c) (same_in m n d) (list_all (same_in m n) ds)

  same_in-blank : same_in m n blank ≡ true
  same_in-blank =
      ap (λ l. all_same (take n l)) (drop-replicate m field_limit same) ∙ all-same n
      (field_limit - m)
    where
      all-same : (n k : ℕ) → all_same (take n (replicate k same)) ≡ true
      all-same zero k = refl
      all-same (suc n) zero = refl
      all-same (suc n) (suc k) = all-same n k

  -- places that are same in the join are same in each delta, and conversely
  pub same_in-joined :
      (t : ℕ) (l : List Pair) → list_all may_wait l ≡ true
      → same_in m n (joined t l) ≡ list_all (same_in m n) (waiting_for t l)
  same_in-joined t l e =
      same_in-joins (waiting_for t l) blank refl (whole-deltas t l e)
      ∙ ap (λ b. b && list_all (same_in m n) (waiting_for t l)) (same_in-blank)

-- where a join is blank and all pairs may wait, no pair is for the tap
none-for :
    (t : ℕ) (l : List Pair) → list_all may_wait l ≡ true
    → list_all (same_in 0 field_limit) (waiting_for t l) ≡ true
    → list_all (λ p. not (is_for t p)) l ≡ true
none-for t [] e = λ _. refl
none-for t (p ∷ l) e =
    let w = waits p l e in
    let all : List Pair → Bool = λ x. list_all (same_in 0 field_limit) (map (λ q. q.delta) x) in
    cond_both (is_for t p) (p ∷ filter (is_for t) l) (filter (is_for t) l)
    (λ x. all x ≡ true → list_all (λ p. not (is_for t p)) (p ∷ l) ≡ true)
    (λ own f. let same = (and_parts (same_in 0 field_limit p.delta) _ f).0 in
    absurd (both_ways (all_same p.delta) w.changing
    (sym (ap all_same (take_all field_limit p.delta (omega (arith, w.long)))) ∙ same)))
    (λ other f. and_from _ _ (not_from_false (is_for t p) other) (none-for t l w.rest f))

pub none-for-blank :
    (t : ℕ) (l : List Pair) → list_all may_wait l ≡ true → joined t l ≡ blank
    → list_all (λ p. not (is_for t p)) l ≡ true
none-for-blank t l e b =
    none-for t l e (sym (same_in-joined 0 field_limit t l e) ∙ ap (same_in 0 field_limit) b)

-- a test that each change that waits passes, is passed by each that waits then
module _ (q : Change → Bool) where
  pub all-drop :
      (l : List Pair) → list_all q (deltas l) ≡ true → list_all q (deltas (drop 1 l)) ≡ true
  all-drop [] e = e
  all-drop (p ∷ l) e = (parts-deltas q p l e).1

  pub all-without :
      (t : ℕ) (l : List Pair) → list_all q (deltas l) ≡ true
      → list_all q (deltas (without t l)) ≡ true
  all-without t [] e = e
  all-without t (p ∷ l) e =
      let h = parts-deltas q p l e in
      let rest = all-without t l h.1 in
      cond_both (not (is_for t p)) (p ∷ without t l) (without t l)
      (λ x. list_all q (deltas x) ≡ true) (λ _. all-deltas q p (without t l) h.0 rest) (λ _. rest)
