-- What waits by rows of memory, and what becomes of it when a row is replaced.
use Rattle.std.proofs.Common.{◌≡◌, ℕ, zero, suc, ◌+◌, ◌-◌, ◌*◌, ◌<◌, ◌≤◌, Bool, true, false, not}
use Rattle.std.proofs.Common.{List, [], ◌∷◌, ◌++◌, map, length, take, drop, replicate, cond, Ok}
use Rattle.std.proofs.Common.{Err, subst, sym, refl, ap, ◌∙◌, append_assoc, arith}
use Rattle.std.specs.Prelude.{flat_map, nat_lt, nat_le}
use Rattle.std.specs.List.{list_all, range_with_len}
use Rattle.std.proofs.lemmas.Bool.{and_from, and_parts, cond-true, cond-false, eq-eqb, lt-ltb}
use Rattle.std.proofs.lemmas.Bool.{le-ltb, le-leb, leb-true, ltb-true}
use Rattle.std.proofs.Math.Nat.{add-zero}
use Rattle.std.proofs.lemmas.List.{append-nil, length-map, length-take-le, map-append}
use Rattle.std.proofs.lemmas.List.{nil_from_length, take-append-drop, take-append-le}
use Rattle.std.proofs.lemmas.List.{drop-append-le, take_at, drop_at, drop-drop}
use Rattle.row.specs.Canonical.{canonical-map}
use Rattle.row.specs.Faults.{refusal}
use Rattle.row.specs.declared.fault.Fault.TheVariants.{Absent}
use Rattle.row.specs.Kinds.{Kind, Lawful}
use Rattle.row.specs.Limits.{field_limit, tap_limit, cell_limit}
use Rattle.row.specs.Records.{canonical, change_of, change_record, joined_changes}
use Rattle.row.specs.Rows as rows
use Rattle.row.specs.Rows.{same, over, join, all_same, row_at, with_row}
use Rattle.row.specs.Taps.{is_tap, tap_numbered}
use Rattle.row.specs.declared.change.Change.{Change}
use Rattle.waiting.specs.Lists.{Pair, pair, is_for, joined, without, pair_of_changes}
use Rattle.waiting.specs.ListsLaws.{filter_keep, filter_skip, join-onto, join-changing, blank-from}
use Rattle.waiting.specs.ListsLaws.{joined-other, pair_cases, flat_map-range}
use Rattle.waiting.specs.Marks.{rising, marked, marks_in, marks_of, tap_rows}
use Rattle.waiting.specs.MarksLaws.{joined-above, joined-own, not_for, others_above, rising-less}
use Rattle.waiting.specs.MarksLaws.{rising-parts, marks-rising, length-rest, length-first}
use Rattle.waiting.specs.Layouts.{Exact}
use Rattle.waiting.specs.Policies.{first}
use Rattle.waiting.specs.Rows.{has_row}
use Rattle.row.proofs.Places.{length-row, length-with, with_row-own}
use Rattle.waiting.proofs.Canonical.{length-joined_changes, canonical-with_row, canonical-joined}
use Rattle.waiting.proofs.Canonical.{joined-means}

-- what waits for lower taps in front
abbrev below : ℕ → List Pair → Bool
below t = list_all (λ p. nat_lt p.tap t)

marked-past :
    (t : ℕ) (d : List rows.Change) (front l : List Pair) → below t front ≡ true
    → marked (front ++ l) t d ≡ front ++ marked l t d
marked-past t d [] l e = refl
marked-past t d (p ∷ front) l e =
    let h = and_parts (nat_lt p.tap t) _ e in
    let lower = ltb-true p.tap t h.0 in
    cond-false (is_for t p) _ _ (not_for t p (λ q. absurd (omega arith)))
    ∙ cond-false (nat_lt t p.tap) _ _ (le-ltb t p.tap (omega arith))
    ∙ ap (λ x. p ∷ x) (marked-past t d front l h.1)

without-past :
    (t : ℕ) (front l : List Pair) → below t front ≡ true
    → without t (front ++ l) ≡ front ++ without t l
without-past t [] l e = refl
without-past t (p ∷ front) l e =
    let h = and_parts (nat_lt p.tap t) _ e in
    let lower = ltb-true p.tap t h.0 in
    filter_keep (λ q. not (is_for t q)) p (front ++ l)
    (ap not (not_for t p (λ q. absurd (omega arith))))
    ∙ ap (λ x. p ∷ x) (without-past t front l h.1)

module _ (t : ℕ) (l : List Pair) (above : rising t l ≡ true) where
  without-first : (x : List rows.Change) → without t (pair t x ∷ l) ≡ l
  without-first x =
      filter_skip (λ q. not (is_for t q)) (pair t x) l (ap not (eq-eqb t t refl))
      ∙ others_above t t l (omega arith) above

  without-here : (x : List rows.Change) → without t (pair_of_changes t x ++ l) ≡ l
  without-here x =
      pair_cases t x l (λ y. without t y ≡ l) (λ _. others_above t t l (omega arith) above)
      (λ _. without-first x)

  marked-front :
      (d : List rows.Change) (m : List Pair) → m ≡ l → marked m t d ≡ pair_of_changes t d ++ m
  marked-front d [] e = sym (append-nil (pair_of_changes t d))
  marked-front d (p ∷ m) e =
      let (higher, _) = rising-parts t p m (ap (rising t) e ∙ above) in
      cond-false (is_for t p) _ _ (not_for t p (λ q. absurd (omega arith))) ∙ cond-true
      (nat_lt t p.tap) _ _ (lt-ltb t p.tap higher)

  marked-here :
      (x d : List rows.Change) → length x ≡ length d
      → marked (pair_of_changes t x ++ l) t d ≡ pair_of_changes t (join x d) ++ l
  marked-here x d h =
      pair_cases t x l (λ y. marked y t d ≡ pair_of_changes t (join x d) ++ l)
      (λ e. marked-front d l refl ∙ ap (λ y. pair_of_changes t y ++ l) (sym (join-onto x d e h)))
      (λ e. cond-true (is_for t (pair t x)) _ _ (eq-eqb t t refl)
      ∙ ap (λ y. y ++ l) (sym (cond-false (all_same (join x d)) _ _ (join-changing x d e))))

-- removing the first pair's tap removes that pair
first-removed :
    (n t : ℕ) (x : List rows.Change) (l : List Pair) → rising n l ≡ true → first l ≡ Ok (pair t x)
    → without t l ≡ drop 1 l
first-removed n t x [] e f = cc
first-removed n t x (p ∷ l) e f =
    let same : p ≡ pair t x = cc in
    let above : rising t l ≡ true = rising-less t p.tap l (omega (arith, ap (λ q. q.tap) same))
    (rising-parts n p l e).1 in
    ap (λ q. without t (q ∷ l)) same ∙ without-first t l above x

pub numbered : (t n : ℕ) → Ok t ≡ tap_numbered n → t ≡ n
numbered t n = from (is_tap n)
  where
    from : (b : Bool) → Ok t ≡ cond b (Ok n) (Err (refusal Absent 0)) → t ≡ n
    from true e = cc
    from false e = cc

-- a tap's place among all
pub tap_place : (t i : ℕ) → is_tap t ≡ true → i ≡ t - 1 → (i < tap_limit) × (1 + i ≡ t)
tap_place t i known e =
    let h = and_parts (nat_le 1 t) _ known in
    let low = leb-true 1 t h.0 in
    let high = leb-true t tap_limit h.1 in (omega arith, omega arith)

module _ {R : Type 0} (k : Kind R) where
  abbrev means : List (Change R) → List rows.Change
  means cs = map (change_of k) cs

  marks-below : (n t u : ℕ) (cs : List (Change R)) → t + n ≤ u → below u (marks_in k n t cs) ≡ true
  marks-below zero t u cs h = refl
  marks-below (suc n) t u cs h =
      let rest = marks-below n (t + 1) u (drop field_limit cs) (omega arith) in
      pair_cases t (means (take field_limit cs)) _ (λ l. below u l ≡ true) (λ _. rest)
      (λ _. and_from _ _ (lt-ltb t u (omega arith)) rest)

  marks-layout :
      (n t : ℕ) (cs : List (Change R)) → length cs ≡ field_limit * n
      → flat_map (λ u. joined u (marks_in k n t cs)) (range_with_len t n) ≡ means cs
  marks-layout zero t cs long = ap means (sym (nil_from_length cs (omega arith)))
  marks-layout (suc n) t cs long =
      let x = means (take field_limit cs) in
      let rest = marks_in k n (t + 1) (drop field_limit cs) in
      let l = pair_of_changes t x ++ rest in
      let above : rising t rest ≡ true = marks-rising k n t (t + 1) _ (omega arith) in
      let here : joined t l ≡ x =
      pair_cases t x rest (λ y. joined t y ≡ x)
      (λ e. joined-above t t rest (omega arith) above ∙ blank-from x (length-first k n cs long) e)
      (λ _. joined-own t x rest (length-first k n cs long) above) in
      let others : (u : ℕ) → t + 1 ≤ u → joined u l ≡ joined u rest =
      λ u h. pair_cases t x rest (λ y. joined u y ≡ joined u rest) (λ _. refl)
      (λ _. joined-other u (pair t x) rest (not_for u (pair t x) (λ q. absurd (omega arith)))) in
      (λ i. here i ++ (flat_map-range (λ u. joined u l) (λ u. joined u rest) (t + 1) n others
      ∙ marks-layout n (t + 1) (drop field_limit cs) (length-rest k n cs long)) i)
      ∙ sym (map-append (change_of k) (take field_limit cs) (drop field_limit cs))
      ∙ ap means (take-append-drop field_limit cs)

  -- some rows and then others
  marks-append :
      (i m n t : ℕ) (front back : List (Change R)) → n ≡ i + m → length front ≡ field_limit * i
      → marks_in k n t (front ++ back) ≡ marks_in k i t front ++ marks_in k m (t + i) back
  marks-append zero m n t front back e long =
      let same : n ≡ m = omega arith in
      let none : front ≡ [] = nil_from_length front (omega arith) in
      (λ j. marks_in k (same j) (sym (add-zero t) j) (none j ++ back))
  marks-append (suc i) m n t front back e long =
      let same : n ≡ suc (i + m) = omega arith in
      let next : t + 1 + i ≡ t + suc i = omega arith in
      let rest = drop field_limit front in
      ap (λ j. marks_in k j t (front ++ back)) same
      ∙ (λ j. pair_of_changes t (means
      (take-append-le field_limit front back (omega arith) j)) ++ marks_in k (i + m) (t + 1)
      (drop-append-le field_limit front back (omega arith) j))
      ∙ ap (λ l. pair_of_changes t (means (take field_limit front)) ++ l)
      (marks-append i m (i + m) (t + 1) rest back refl (length-rest k i front long) ∙ ap
      (λ u. marks_in k i (t + 1) rest ++ marks_in k m u back) next)
      ∙ sym (append_assoc (pair_of_changes t (means (take field_limit front)))
      (marks_in k i (t + 1) rest) (marks_in k m (t + suc i) back))

  module _ (n t i : ℕ) (cs : List (Change R)) (inside : i < n) (long : length cs ≡ field_limit * n) where
    abbrev front : List Pair
    front = marks_in k i t (take (field_limit * i) cs)

    abbrev back : List Pair
    back = marks_in k (n - (i + 1)) (t + i + 1) (drop (field_limit * i + field_limit) cs)

    front-below : below (t + i) front ≡ true
    front-below = marks-below i t (t + i) (take (field_limit * i) cs) (omega arith)

    back-rising : rising (t + i) back ≡ true
    back-rising =
        marks-rising k (n - (i + 1)) (t + i) (t + i + 1) (drop (field_limit * i + field_limit) cs)
        (omega arith)

    -- what waits before a row, for it and behind it
    marks-split :
        (row : List (Change R)) → length row ≡ field_limit
        → marks_in k n t (with_row i row cs)
        ≡ front ++ (pair_of_changes (t + i) (means row) ++ back)
    marks-split row h =
        let rest = drop (field_limit * i + field_limit) cs in
        marks-append i (suc (n - (i + 1))) n t (take (field_limit * i) cs) (row ++ rest)
        (omega arith) (length-take-le (field_limit * i) cs (omega arith))
        ∙ (λ j. front ++ (pair_of_changes (t + i)
        (means (take_at row rest field_limit h j)) ++ marks_in k (n - (i + 1)) (t + i + 1)
        (drop_at row rest field_limit h j)))

    long-row : length (row_at i cs) ≡ field_limit
    long-row = length-row i cs (omega arith)

    marks-was : marks_in k n t cs ≡ front ++ (pair_of_changes (t + i) (means (row_at i cs)) ++ back)
    marks-was = ap (marks_in k n t) (sym (with_row-own i cs)) ∙ marks-split (row_at i cs) long-row

    marks-joined :
        (row : List (Change R)) (d : List rows.Change) → length row ≡ field_limit
        → length d ≡ field_limit → means row ≡ join (means (row_at i cs)) d
        → marks_in k n t (with_row i row cs) ≡ marked (marks_in k n t cs) (t + i) d
    marks-joined row d h l e =
        let old = means (row_at i cs) in
        let same : length old ≡ length d = length-map (row_at i cs) (change_of k) ∙ long-row
        ∙ sym l in
        marks-split row h
        ∙ ap (λ x. front ++ (pair_of_changes (t + i) x ++ back)) e
        ∙ sym (ap (λ x. marked x (t + i) d) marks-was
        ∙ marked-past (t + i) d front (pair_of_changes (t + i) old ++ back) front-below
        ∙ ap (λ x. front ++ x) (marked-here (t + i) back back-rising old d same))

    marks-cleared :
        (row : List (Change R)) → length row ≡ field_limit → all_same (means row) ≡ true
        → marks_in k n t (with_row i row cs) ≡ without (t + i) (marks_in k n t cs)
    marks-cleared row h e =
        let old = means (row_at i cs) in
        marks-split row h
        ∙ ap (λ x. front ++ (x ++ back)) (cond-true (all_same (means row)) _ _ e)
        ∙ sym (ap (without (t + i)) marks-was
        ∙ without-past (t + i) front (pair_of_changes (t + i) old ++ back) front-below
        ∙ ap (λ x. front ++ x) (without-here (t + i) back back-rising old))

    -- one row further
    marks-next :
        marks_in k (n - i) (t + i) (drop (field_limit * i) cs)
        ≡ pair_of_changes (t + i) (means (row_at i cs)) ++ marks_in k (n - (i + 1)) (t + (i + 1))
        (drop (field_limit * (i + 1)) cs)
    marks-next =
        let e : n - i ≡ suc (n - (i + 1)) = omega arith in
        let u : t + i + 1 ≡ t + (i + 1) = omega arith in
        let v : field_limit * i + field_limit ≡ field_limit * (i + 1) = omega arith in
        let w : drop field_limit (drop (field_limit * i) cs) ≡ drop (field_limit * (i + 1)) cs =
        drop-drop field_limit (field_limit * i) cs ∙ ap (λ j. drop j cs) v in
        ap (λ j. marks_in k j (t + i) (drop (field_limit * i) cs)) e
        ∙ (λ j. pair_of_changes (t + i) (means (row_at i cs)) ++ marks_in k (n - (i + 1)) (u j)
        (w j))

  -- what waits for the taps behind the first i
  abbrev pub marks_from : ℕ → List (Change R) → List Pair
  marks_from i cs = marks_in k (tap_limit - i) (1 + i) (drop (field_limit * i) cs)

  -- b answers whether the row with index i is only same
  module _ (i : ℕ) (cs : List (Change R)) (b : Bool) (inside : i < tap_limit) (long : length cs ≡ cell_limit) (row : List (Change R)) (is : row ≡ row_at i cs) (test : b ≡ all_same (means row)) where
    row-test : all_same (means (row_at i cs)) ≡ b
    row-test = sym (test ∙ ap (λ r. all_same (means r)) is)

    pub marks_skip : b ≡ true → marks_from i cs ≡ marks_from (i + 1) cs
    marks_skip e =
        marks-next tap_limit 1 i cs inside long ∙ ap (λ l. l ++ marks_from (i + 1) cs)
        (cond-true (all_same (means (row_at i cs))) _ _ (row-test ∙ e))

    pub marks_some :
        b ≡ false → marks_from i cs ≡ pair (i + 1) (means (row_at i cs)) ∷ marks_from (i + 1) cs
    marks_some e =
        let u : 1 + i ≡ i + 1 = omega arith in
        marks-next tap_limit 1 i cs inside long
        ∙ ap (λ l. l ++ marks_from (i + 1) cs)
        (cond-false (all_same (means (row_at i cs))) _ _ (row-test ∙ e))
        ∙ ap (λ t. pair t (means (row_at i cs)) ∷ marks_from (i + 1) cs) u

  pub marks_all : (i : ℕ) (cs : List (Change R)) → tap_limit ≤ i → marks_from i cs ≡ []
  marks_all i cs h =
      let e : tap_limit - i ≡ 0 = omega arith in ap
      (λ n. marks_in k n (1 + i) (drop (field_limit * i) cs)) e

  -- the kind keeps the records of what each change means, and no more is asked
  marks-exact :
      (cs : List (Change R)) → length cs ≡ cell_limit → cs ≡ map (canonical k) cs
      → Exact k tap_rows cs (marks_of k cs)
  marks-exact cs long e =
      e ∙ canonical-map k cs ∙ ap (map (change_record k)) (sym (marks-layout tap_limit 1 cs long))

  pub exact-canonical :
      (cs : List (Change R)) → length cs ≡ cell_limit → Exact k tap_rows cs (marks_of k cs)
      → cs ≡ map (canonical k) cs
  exact-canonical cs long h =
      h ∙ ap (map (change_record k)) (marks-layout tap_limit 1 cs long) ∙ sym (canonical-map k cs)

  -- the pair that is shown
  pub shown :
      (cs : List (Change R)) (i t : ℕ) (l : List Pair) → Ok t ≡ tap_numbered (i + 1)
      → first l ≡ Ok (pair (i + 1) (means (row_at i cs))) → (row : List (Change R))
      → row ≡ row_at i cs → Ok (pair t (means row)) ≡ first l
  shown cs i t l e found row is =
      (λ j. Ok (pair (numbered t (i + 1) e j) (means (is j)))) ∙ sym found

  -- the rows of all taps after another row is put
  module _ (cs new row : List (Change R)) (i : ℕ) (long : length cs ≡ cell_limit) (inside : i < tap_limit) (put : new ≡ with_row i row cs) (whole : length row ≡ field_limit) where
    row-exact :
        row ≡ map (canonical k) row → Exact k tap_rows cs (marks_of k cs)
        → Exact k tap_rows new (marks_of k new)
    row-exact e h =
        subst (λ x. Exact k tap_rows x (marks_of k x)) (sym put)
        (marks-exact (with_row i row cs) (length-with i row cs whole (omega arith) ∙ long)
        (canonical-with_row k i row cs e (exact-canonical cs long h)))

    row-cleared : all_same (means row) ≡ true → marks_of k new ≡ without (1 + i) (marks_of k cs)
    row-cleared e = ap (marks_of k) put ∙ marks-cleared tap_limit 1 i cs inside long row whole e

    row-joined :
        (d : List rows.Change) → length d ≡ field_limit → means row ≡ join (means (row_at i cs)) d
        → marks_of k new ≡ marked (marks_of k cs) (1 + i) d
    row-joined d l e =
        ap (marks_of k) put ∙ marks-joined tap_limit 1 i cs inside long row d whole l e

  module _ (cs new : List (Change R)) (i : ℕ) (long : length cs ≡ cell_limit) (inside : i < tap_limit) where
    -- after `clear_row`
    module _ (cleared_if : new ≡ cond (has_row i cs) (with_row i (replicate field_limit (change_record k same)) cs) cs) where
      put : new ≡ with_row i (replicate field_limit (change_record k same)) cs
      put =
          cleared_if ∙ cond-true (has_row i cs) _ cs
          (le-leb (field_limit * i + field_limit) (length cs) (omega arith))

      pub cleared-exact :
          Exact k tap_rows cs (marks_of k cs) → Exact k tap_rows new (marks_of k new)
      cleared-exact =
          row-exact cs new (replicate field_limit
          (change_record k same)) i long inside put refl refl

      pub cleared : (t : ℕ) → 1 + i ≡ t → marks_of k new ≡ without t (marks_of k cs)
      cleared t e =
          row-cleared cs new (replicate field_limit
          (change_record k same)) i long inside put refl refl ∙ ap
          (λ u. without u (marks_of k cs)) e

      pub cleared-first :
          first (marks_of k cs) ≡ Ok (pair (i + 1) (means (row_at i cs)))
          → marks_of k new ≡ drop 1 (marks_of k cs)
      cleared-first f =
          cleared (i + 1) (omega arith)
          ∙ first-removed 0 (i + 1) (means (row_at i cs)) (marks_of k cs)
          (marks-rising k tap_limit 0 1 cs (omega arith)) f

    -- after `join_row`
    module _ (law : Lawful k) (delta : List (Change R)) (whole : length delta ≡ field_limit) (put : new ≡ with_row i (joined_changes k (row_at i cs) delta) cs) where
      long-joined : length (joined_changes k (row_at i cs) delta) ≡ field_limit
      long-joined = length-joined_changes k (row_at i cs) delta ∙ length-row i cs (omega arith)

      pub joined-exact : Exact k tap_rows cs (marks_of k cs) → Exact k tap_rows new (marks_of k new)
      joined-exact =
          row-exact cs new (joined_changes k (row_at i cs) delta) i long inside put long-joined
          (canonical-joined k law (row_at i cs) delta)

      pub joined-list :
          (t : ℕ) → 1 + i ≡ t → marks_of k new ≡ marked (marks_of k cs) t (means delta)
      joined-list t e =
          row-joined cs new (joined_changes k (row_at i cs) delta) i long inside put long-joined
          (means delta) (length-map delta (change_of k) ∙ whole)
          (joined-means k law (row_at i cs) delta)
          ∙ ap (λ u. marked (marks_of k cs) u (means delta)) e
