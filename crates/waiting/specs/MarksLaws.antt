-- The laws of marks.
use Rattle.std.specs.Prelude.{◌≡◌, ◌≢◌, ℕ, zero, suc, ◌+◌, ◌*◌, ◌<◌, ◌≤◌, Bool, true, false, not}
use Rattle.std.specs.Prelude.{cond, List, [], ◌∷◌, ◌++◌, map, length, take, drop, fold, filter}
use Rattle.std.specs.Prelude.{nat_lt, nat_le}
use Rattle.std.proofs.Common.{sym, refl, ap, ◌∙◌, arith}
use Rattle.std.specs.List.{list_all}
use Rattle.std.proofs.lemmas.Bool.{and_from, and_parts, cond_both, cond-true, eq-eqb, eqb-true}
use Rattle.std.proofs.lemmas.Bool.{eqb-false, ne_eqb, lt-ltb, ltb-true, ltb-false, leb-true, le-leb}
use Rattle.std.proofs.lemmas.List.{append-nil, length-drop, length-map, length-take-le}
use Rattle.row.specs.Kinds.{Kind}
use Rattle.row.specs.Limits.{field_limit, tap_limit, cell_limit}
use Rattle.row.specs.Records.{change_of}
use Rattle.row.specs.declared.change.Change as records
use Rattle.row.specs.Rows.{Change, join, blank, all_same}
use Rattle.row.specs.Taps.{is_tap}
use Rattle.waiting.specs.Lists.{Pair, pair, is_for, may_wait, joined, without, deltas}
use Rattle.waiting.specs.Lists.{change_allowed, pair_of_changes}
use Rattle.waiting.specs.ListsLaws.{length-join, join-same, join-blank, join-changing, filter_keep}
use Rattle.waiting.specs.ListsLaws.{filter_skip, list_all-filter, pair_cases, joined-cons}
use Rattle.waiting.specs.ListsLaws.{joined-other, waits, may_wait-from, all-deltas, parts-deltas}
use Rattle.waiting.specs.ListsLaws.{all-join, all-pair}
use Rattle.waiting.specs.Marks.{rising, marked, marks, marks_in, marks_of}
use Rattle.waiting.specs.Policies.{Lawful, KeepsValues, after_drop}

pub not_for : (t : ℕ) (p : Pair) → p.tap ≢ t → is_for t p ≡ false
not_for t p ne = ne_eqb p.tap t ne

-- where a delta goes among what waits
marked_cases :
    (p : Pair) (l : List Pair) (t : ℕ) (d : List Change) (P : List Pair → Type 0)
    → (p.tap ≡ t → P (pair t (join p.delta d) ∷ l)) → (t < p.tap → P (pair_of_changes t d ++ p ∷ l))
    → (p.tap < t → P (p ∷ marked l t d)) → P (marked (p ∷ l) t d)
marked_cases p l t d P own before behind =
    cond_both (is_for t p) _ _ P (λ e. own (eqb-true p.tap t e))
    (λ ne. cond_both (nat_lt t p.tap) _ _ P (λ e. before (ltb-true t p.tap e))
    (λ ge. behind (omega (arith, ltb-false t p.tap ge, eqb-false p.tap t ne))))

pub rising-cons :
    (n : ℕ) (p : Pair) (l : List Pair) → n < p.tap → rising p.tap l ≡ true → rising n (p ∷ l) ≡ true
rising-cons n p l h e = and_from _ _ (lt-ltb n p.tap h) e

pub rising-parts :
    (n : ℕ) (p : Pair) (l : List Pair) → rising n (p ∷ l) ≡ true
    → (n < p.tap) × (rising p.tap l ≡ true)
rising-parts n p l e = let h = and_parts (nat_lt n p.tap) _ e in (ltb-true n p.tap h.0, h.1)

pub rising-less : (m n : ℕ) (l : List Pair) → m ≤ n → rising n l ≡ true → rising m l ≡ true
rising-less m n [] h e = refl
rising-less m n (p ∷ l) h e =
    let (above, rest) = rising-parts n p l e in rising-cons m p l (omega arith) rest

rising-filter :
    (q : Pair → Bool) (n : ℕ) (l : List Pair) → rising n l ≡ true → rising n (filter q l) ≡ true
rising-filter q n [] e = refl
rising-filter q n (p ∷ l) e =
    let (above, rest) = rising-parts n p l e in
    cond_both (q p) _ _ (λ x. rising n x ≡ true)
    (λ _. rising-cons n p (filter q l) above (rising-filter q p.tap l rest))
    (λ _. rising-filter q n l (rising-less n p.tap l (omega arith) rest))

-- above a tap there is none of its own
none_above : (t n : ℕ) (l : List Pair) → t ≤ n → rising n l ≡ true → filter (is_for t) l ≡ []
none_above t n [] h e = refl
none_above t n (p ∷ l) h e =
    let (above, rest) = rising-parts n p l e in
    filter_skip (is_for t) p l (not_for t p (λ q. absurd (omega arith))) ∙ none_above t p.tap l
    (omega arith) rest

pub others_above : (t n : ℕ) (l : List Pair) → t ≤ n → rising n l ≡ true → without t l ≡ l
others_above t n [] h e = refl
others_above t n (p ∷ l) h e =
    let (above, rest) = rising-parts n p l e in
    filter_keep (λ q. not (is_for t q)) p l (ap not (not_for t p (λ q. absurd (omega arith))))
    ∙ ap (λ x. p ∷ x) (others_above t p.tap l (omega arith) rest)

pub joined-above : (t n : ℕ) (l : List Pair) → t ≤ n → rising n l ≡ true → joined t l ≡ blank
joined-above t n l h e = ap (λ x. fold join blank (map (λ q. q.delta) x)) (none_above t n l h e)

-- a tap's only pair
pub joined-own :
    (t : ℕ) (d : List Change) (l : List Pair) → length d ≡ field_limit → rising t l ≡ true
    → joined t (pair t d ∷ l) ≡ d
joined-own t d l h e =
    joined-cons t (pair t d) l (eq-eqb t t refl)
    ∙ ap (λ x. fold join (join blank d) (map (λ q. q.delta) x)) (none_above t t l (omega arith) e)
    ∙ join-blank d h

pair-is : (p : Pair) (t : ℕ) → p.tap ≡ t → p ≡ pair t p.delta
pair-is p t e = ap (λ u. pair u p.delta) e

module _ (t : ℕ) (d : List Change) (long : length d ≡ field_limit) where
  joins-before :
      (l : List Pair) → rising t l ≡ true
      → joined t (pair_of_changes t d ++ l) ≡ join (joined t l) d
  joins-before l e =
      pair_cases t d l (λ x. joined t x ≡ join (joined t l) d)
      (λ s. sym (join-same (joined t l) d s))
      (λ _. joined-own t d l long e ∙ sym
      (ap (λ x. join x d) (joined-above t t l (omega arith) e) ∙ join-blank d long))

  joins :
      (n : ℕ) (l : List Pair) → rising n l ≡ true → list_all may_wait l ≡ true
      → joined t (marked l t d) ≡ join (joined t l) d
  joins n [] e w = ap (joined t) (sym (append-nil (pair_of_changes t d))) ∙ joins-before [] refl
  joins n (p ∷ l) e w =
      let (above, rest) = rising-parts n p l e in
      let m = waits p l w in
      marked_cases p l t d (λ x. joined t x ≡ join (joined t (p ∷ l)) d)
      (λ own. let behind : rising t l ≡ true = rising-less t p.tap l (omega arith) rest in
      joined-own t (join p.delta d) l (length-join p.delta d ∙ m.long) behind
      ∙ sym (ap (λ x. join x d) (ap (λ q. joined t (q ∷ l)) (pair-is p t own)
      ∙ joined-own t p.delta l m.long behind)))
      (λ before. joins-before (p ∷ l) (rising-cons t p l before rest))
      (λ behind. let other = not_for t p (λ q. absurd (omega arith)) in
      joined-other t p (marked l t d) other ∙ joins p.tap l rest m.rest ∙ sym
      (ap (λ x. join x d) (joined-other t p l other)))

  -- marks of a tap stay what they are to the others
  leaves-others :
      (u : ℕ) → u ≢ t → (l : List Pair) → filter (is_for u) (marked l t d) ≡ filter (is_for u) l
  leaves-others u ne [] =
      cond_both (all_same d) _ _ (λ x. filter (is_for u) x ≡ []) (λ _. refl)
      (λ _. filter_skip (is_for u) (pair t d) [] (not_for u (pair t d) (λ q. ne (sym q))))
  leaves-others u ne (p ∷ l) =
      marked_cases p l t d (λ x. filter (is_for u) x ≡ filter (is_for u) (p ∷ l))
      (λ own. filter_skip (is_for u) (pair t (join p.delta d)) l
      (not_for u (pair t d) (λ q. ne (sym q))) ∙ sym
      (filter_skip (is_for u) p l (not_for u p (λ q. ne (sym q ∙ own)))))
      (λ before. pair_cases t d (p ∷ l) (λ x. filter (is_for u) x ≡ filter (is_for u) (p ∷ l))
      (λ _. refl) (λ _. filter_skip (is_for u) (pair t d) (p ∷ l)
      (not_for u (pair t d) (λ q. ne (sym q)))))
      (λ behind. ap (λ x. cond (is_for u p) (p ∷ x) x) (leaves-others u ne l))

  grows : (l : List Pair) → length (marked l t d) ≤ length l + 1
  grows [] = cond_both (all_same d) _ _ (λ x. length x ≤ 1) (λ _. omega arith) (λ _. omega arith)
  grows (p ∷ l) =
      marked_cases p l t d (λ x. length x ≤ length (p ∷ l) + 1) (λ _. omega arith)
      (λ _. pair_cases t d (p ∷ l) (λ x. length x ≤ length (p ∷ l) + 1) (λ _. omega arith)
      (λ _. omega arith))
      (λ _. omega (arith, grows l))

  passes-same : all_same d ≡ true → (l : List Pair) → marked l t d ≡ l
  passes-same e [] = cond-true (all_same d) _ _ e
  passes-same e (p ∷ l) =
      marked_cases p l t d (λ x. x ≡ p ∷ l)
      (λ own. ap (λ x. pair t x ∷ l) (join-same p.delta d e) ∙ ap (λ q. q ∷ l)
      (sym (pair-is p t own)))
      (λ _. ap (λ x. x ++ p ∷ l) (cond-true (all_same d) _ _ e))
      (λ _. ap (λ x. p ∷ x) (passes-same e l))

  stays-rising :
      (n : ℕ) → n < t → (l : List Pair) → rising n l ≡ true → rising n (marked l t d) ≡ true
  stays-rising n h [] e =
      cond_both (all_same d) _ _ (λ x. rising n x ≡ true) (λ _. refl)
      (λ _. rising-cons n (pair t d) [] h refl)
  stays-rising n h (p ∷ l) e =
      let (above, rest) = rising-parts n p l e in
      marked_cases p l t d (λ x. rising n x ≡ true)
      (λ own. rising-cons n (pair t (join p.delta d)) l h
      (rising-less t p.tap l (omega arith) rest))
      (λ before. pair_cases t d (p ∷ l) (λ x. rising n x ≡ true) (λ _. e)
      (λ _. rising-cons n (pair t d) (p ∷ l) h (rising-cons t p l before rest)))
      (λ behind. rising-cons n p (marked l t d) above (stays-rising p.tap behind l rest))

  stays-waiting :
      is_tap t ≡ true → (l : List Pair) → list_all may_wait l ≡ true
      → list_all may_wait (marked l t d) ≡ true
  stays-waiting known [] e =
      cond_both (all_same d) _ _ (λ x. list_all may_wait x ≡ true) (λ _. refl)
      (λ o. and_from _ _ (may_wait-from t d known long o) refl)
  stays-waiting known (p ∷ l) e =
      let m = waits p l e in
      marked_cases p l t d (λ x. list_all may_wait x ≡ true)
      (λ _. and_from _ _ (may_wait-from t (join p.delta d) known (length-join p.delta d ∙ m.long)
      (join-changing p.delta d m.changing)) m.rest)
      (λ _. pair_cases t d (p ∷ l) (λ x. list_all may_wait x ≡ true) (λ _. e)
      (λ o. and_from _ _ (may_wait-from t d known long o) e))
      (λ _. and_from _ _ m.first (stays-waiting known l m.rest))

-- what passes a test before, and in the delta, passes it once the delta is put
all-marked :
    (q : Change → Bool) (t : ℕ) (d : List Change) (l : List Pair) → list_all q (deltas l) ≡ true
    → list_all q d ≡ true → list_all q (deltas (marked l t d)) ≡ true
all-marked q t d [] e f =
    cond_both (all_same d) _ _ (λ x. list_all q (deltas x) ≡ true) (λ _. refl)
    (λ _. all-deltas q (pair t d) [] f refl)
all-marked q t d (p ∷ l) e f =
    let h = parts-deltas q p l e in
    marked_cases p l t d (λ x. list_all q (deltas x) ≡ true)
    (λ _. all-deltas q (pair t (join p.delta d)) l (all-join q p.delta d h.0 f) h.1)
    (λ _. all-pair q t d (p ∷ l) f e)
    (λ _. all-deltas q p (marked l t d) h.0 (all-marked q t d l h.1 f))

pub marks-lawful : Lawful marks
marks-lawful = record {
  empty-takes = λ m t none known. refl;
  own-join =
      λ m t d h. let w = and_parts (rising 0 m) _ h.holdable in joins t d h.whole 0 m w.0 w.1;
  other-joins =
      λ m t d h u ne. ap (λ x. fold join blank (map (λ q. q.delta) x))
      (leaves-others t d h.whole u ne m);
  grows = λ m t d h. grows t d h.whole m;
  passes-same = λ m t d h e. passes-same t d h.whole e m;
  may-wait = λ m e. (and_parts (rising 0 m) _ e).1;
  empty-holds = refl;
  put-holds = λ m t d h. let w = and_parts (rising 0 m) _ h.holdable in
      and_from _ _ (stays-rising t d h.whole 0
      (leb-true 1 t (and_parts _ (nat_le t tap_limit) h.known).0) m w.0)
      (stays-waiting t d h.whole h.known m w.1);
  drop-holds = dropped;
  forget-holds =
      λ m t e. let w = and_parts (rising 0 m) _ e in and_from _ _ (rising-filter _ 0 m w.0)
      (list_all-filter may_wait _ m w.1);
}
  where
    dropped : (l : List Pair) → marks.holds l ≡ true → marks.holds (after_drop l) ≡ true
    dropped [] e = refl
    dropped (p ∷ l) e =
        let w = and_parts (rising 0 (p ∷ l)) _ e in
        and_from _ _ (rising-less 0 p.tap l (omega arith) (rising-parts 0 p l w.0).1)
        (waits p l w.1).rest

pub marks-values : (allowed : List ℕ → Bool) → KeepsValues allowed marks
marks-values allowed m t d h e f = all-marked (change_allowed allowed) t d m e f

-- what waits in the memory of marks
module _ {R : Type 0} (k : Kind R) where
  pub marks-rising :
      (n m t : ℕ) (cs : List (records.Change R)) → m < t → rising m (marks_in k n t cs) ≡ true
  marks-rising zero m t cs h = refl
  marks-rising (suc n) m t cs h =
      let x = map (change_of k) (take field_limit cs) in
      let rest = marks_in k n (t + 1) (drop field_limit cs) in
      pair_cases t x rest (λ l. rising m l ≡ true) (λ _. marks-rising n m (t + 1) _ (omega arith))
      (λ _. rising-cons m (pair t x) rest h (marks-rising n t (t + 1) _ (omega arith)))

  -- the rows behind the first
  pub length-rest :
      (n : ℕ) (cs : List (records.Change R)) → length cs ≡ field_limit * suc n
      → length (drop field_limit cs) ≡ field_limit * n
  length-rest n cs h = length-drop field_limit cs ∙ omega arith

  pub length-first :
      (n : ℕ) (cs : List (records.Change R)) → length cs ≡ field_limit * suc n
      → length (map (change_of k) (take field_limit cs)) ≡ field_limit
  length-first n cs h =
      length-map (take field_limit cs) (change_of k) ∙ length-take-le field_limit cs (omega arith)

  pub marks-wait :
      (n t : ℕ) (cs : List (records.Change R)) → 1 ≤ t → t + n ≤ tap_limit + 1
      → length cs ≡ field_limit * n → list_all may_wait (marks_in k n t cs) ≡ true
  marks-wait zero t cs low high long = refl
  marks-wait (suc n) t cs low high long =
      let x = map (change_of k) (take field_limit cs) in
      let rest = marks-wait n (t + 1) (drop field_limit cs) (omega arith) (omega arith)
      (length-rest n cs long) in
      pair_cases t x _ (λ l. list_all may_wait l ≡ true) (λ _. rest)
      (λ e. and_from _ _ (may_wait-from t x
      (and_from _ _ (le-leb 1 t low) (le-leb t tap_limit (omega arith)))
      (length-first n cs long) e) rest)

  pub marks-hold :
      (cs : List (records.Change R)) → length cs ≡ cell_limit → marks.holds (marks_of k cs) ≡ true
  marks-hold cs long =
      and_from _ _ (marks-rising tap_limit 0 1 cs (omega arith))
      (marks-wait tap_limit 1 cs (omega arith) (omega arith) long)
