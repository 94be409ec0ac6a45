-- A queue keeps the laws of a waiting buffer.
use Rattle.std.specs.Prelude.{◌≡◌, ◌≢◌, ℕ, ◌*◌, ◌≤◌, Bool, true, cond, not, List, [], ◌∷◌, ◌++◌}
use Rattle.std.specs.Prelude.{map, length, fold, filter, nat_le, refl}
use Rattle.std.proofs.Common.{zero, suc, take, drop, not-suc-le-zero, sym, ap, ◌∙◌, arith}
use Rattle.std.specs.List.{list_all}
use Rattle.std.proofs.lemmas.Bool.{and_parts, and_from, cond_both, cond-true, eq-eqb, ne_eqb}
use Rattle.std.proofs.lemmas.Bool.{le-leb, leb-true, lt-ltb, ltb-true, not-true}
use Rattle.std.proofs.lemmas.List.{append-nil, length-append, map-append, length-drop, length-map}
use Rattle.std.proofs.lemmas.List.{length-take, length-take-le, take-append-drop}
use Rattle.std.proofs.lemmas.List.Elements.{filter-append}
use Rattle.std.proofs.lemmas.List.Folds.{list_all-append}
use Rattle.std.proofs.lemmas.List.Sums.{fold-append, length-filter, count_by-le-length}
use Rattle.row.specs.Kinds.{Kind}
use Rattle.row.specs.Limits.{field_limit}
use Rattle.row.specs.Records.{change_of}
use Rattle.row.specs.declared.change.Change as records
use Rattle.row.specs.Rows.{Change, join, blank, all_same}
use Rattle.row.specs.Taps.{is_tap}
use Rattle.waiting.specs.Limits.{pair_limit, queue_limit}
use Rattle.waiting.specs.Lists.{Pair, pair, is_for, may_wait, waiting_for, joined, deltas, without}
use Rattle.waiting.specs.Lists.{change_allowed, pair_of_changes}
use Rattle.waiting.specs.ListsLaws.{join-same, list_all-filter, may_wait-from, all-deltas}
use Rattle.waiting.specs.ListsLaws.{parts-deltas}
use Rattle.waiting.specs.Policies.{Put, Lawful, KeepsValues, after_drop}
use Rattle.waiting.specs.Queues.{queue, queue_of, pairs_in}
use Rattle.waiting.specs.Rows.{rows_wait}

joined-append :
    (t : ℕ) (l m : List Pair) → joined t (l ++ m) ≡ fold join (joined t l) (waiting_for t m)
joined-append t l m =
    ap (λ ps. fold join blank (map (λ p. p.delta) ps)) (filter-append (is_for t) l m)
    ∙ ap (fold join blank) (map-append (λ p. p.delta) (filter (is_for t) l) (filter (is_for t) m))
    ∙ fold-append join blank (waiting_for t l) (waiting_for t m)

-- the pair of a delta, joined to what waits
pair-own :
    (t : ℕ) (x d : List Change) → fold join x (waiting_for t (pair_of_changes t d)) ≡ join x d
pair-own t x d =
    cond_both (all_same d) [] (pair t d ∷ []) (λ m. fold join x (waiting_for t m) ≡ join x d)
    (λ e. sym (join-same x d e))
    (λ _. ap (λ b. fold join x (map (λ p. p.delta) (cond b (pair t d ∷ []) []))) (eq-eqb t t refl))

-- and to what waits for another tap
pair-other :
    (t u : ℕ) (x d : List Change) → u ≢ t → fold join x (waiting_for u (pair_of_changes t d)) ≡ x
pair-other t u x d ne =
    cond_both (all_same d) [] (pair t d ∷ []) (λ m. fold join x (waiting_for u m) ≡ x) (λ _. refl)
    (λ _. ap (λ b. fold join x (map (λ p. p.delta) (cond b (pair t d ∷ []) [])))
    (ne_eqb t u (λ e. ne (sym e))))

length-pair : (t : ℕ) (d : List Change) → length (pair_of_changes t d) ≤ 1
length-pair t d =
    cond_both (all_same d) [] (pair t d ∷ []) (λ m. length m ≤ 1) (λ _. omega arith)
    (λ _. omega arith)

-- it may wait, if there is one
pair-waits :
    (t : ℕ) (d : List Change) → is_tap t ≡ true → length d ≡ field_limit
    → list_all may_wait (pair_of_changes t d) ≡ true
pair-waits t d tap whole =
    cond_both (all_same d) [] (pair t d ∷ []) (λ m. list_all may_wait m ≡ true) (λ _. refl)
    (λ e. and_from _ _ (may_wait-from t d tap whole e) refl)

-- a list without some elements is no longer
fewer : {X : Type 0} (q : X → Bool) (xs : List X) → length (filter q xs) ≤ length xs
fewer q xs = omega (arith, length-filter q xs, count_by-le-length q xs)

-- what passes a test before, and in the delta, passes it with the delta's pair at the end
all-end :
    (q : Change → Bool) (t : ℕ) (d : List Change) (l : List Pair) → list_all q (deltas l) ≡ true
    → list_all q d ≡ true → list_all q (deltas (l ++ pair_of_changes t d)) ≡ true
all-end q t d [] e f =
    cond_both (all_same d) [] (pair t d ∷ []) (λ x. list_all q (deltas x) ≡ true) (λ _. refl)
    (λ _. all-deltas q (pair t d) [] f refl)
all-end q t d (p ∷ l) e f =
    let h = parts-deltas q p l e in all-deltas q p (l ++ pair_of_changes t d) h.0
    (all-end q t d l h.1 f)

module _ (limit : ℕ) (some : 1 ≤ limit) where
  holds-parts :
      (l : List Pair) → (queue_of limit).holds l ≡ true
      → (length l ≤ limit) × (list_all may_wait l ≡ true)
  holds-parts l e =
      let h = and_parts (nat_le (length l) limit) (list_all may_wait l) e in
      (leb-true (length l) limit h.0, h.1)

  holds-from :
      (l : List Pair) → length l ≤ limit → list_all may_wait l ≡ true
      → (queue_of limit).holds l ≡ true
  holds-from l few waits = and_from _ _ (le-leb (length l) limit few) waits

  put-held :
      (l : List Pair) (t : ℕ) (d : List Change) → Put (queue_of limit) l t d
      → (queue_of limit).holds (l ++ pair_of_changes t d) ≡ true
  put-held l t d p =
      let h = holds-parts l p.holdable in
      let room = ltb-true (length l) limit p.taken in
      holds-from (l ++ pair_of_changes t d)
      (omega (arith, length-append l (pair_of_changes t d), length-pair t d))
      (list_all-append may_wait l (pair_of_changes t d) ∙ and_from _ _ h.1
      (pair-waits t d p.known p.whole))

  pub queue_of-lawful : Lawful (queue_of limit)
  queue_of-lawful = record {
    empty-takes = λ m t none known. lt-ltb (length m) limit (omega (arith, ap length none));
    own-join = λ m t d p. joined-append t m (pair_of_changes t d) ∙ pair-own t (joined t m) d;
    other-joins =
        λ m t d p u ne. joined-append u m (pair_of_changes t d) ∙ pair-other t u (joined u m) d ne;
    grows = λ m t d p. omega (arith, length-append m (pair_of_changes t d), length-pair t d);
    passes-same =
        λ m t d p e. ap (λ l. m ++ l) (cond-true (all_same d) [] (pair t d ∷ []) e) ∙ append-nil m;
    may-wait = λ m e. (holds-parts m e).1;
    empty-holds = holds-from [] (omega arith) refl;
    put-holds = put-held;
    drop-holds = drop-held;
    forget-holds = λ m t e.
        let h = holds-parts m e in
        holds-from (without t m) (omega (arith, h.0, fewer (λ p. not (is_for t p)) m))
        (list_all-filter may_wait (λ p. not (is_for t p)) m h.1);
  }
    where
      drop-held :
          (l : List Pair) → (queue_of limit).holds l ≡ true
          → (queue_of limit).holds (after_drop l) ≡ true
      drop-held [] e = e
      drop-held (p ∷ l) e =
          let h = holds-parts (p ∷ l) e in holds-from l (omega (arith, h.0))
          (and_parts (may_wait p) (list_all may_wait l) h.1).1

pub queue-lawful : Lawful queue
queue-lawful = queue_of-lawful pair_limit (omega arith)

pub queue_of-values : (limit : ℕ) (allowed : List ℕ → Bool) → KeepsValues allowed (queue_of limit)
queue_of-values limit allowed m t d p e f = all-end (change_allowed allowed) t d m e f

pub queue-values : (allowed : List ℕ → Bool) → KeepsValues allowed queue
queue-values = queue_of-values pair_limit

-- what waits in the memory of a queue
module _ {R : Type 0} (k : Kind R) where
  pub rows-less :
      (m n : ℕ) (cs : List (records.Change R)) → m ≤ n → rows_wait k n cs ≡ true
      → rows_wait k m cs ≡ true
  rows-less zero n cs h e = refl
  rows-less (suc m) zero cs h e = absurd (not-suc-le-zero h)
  rows-less (suc m) (suc n) cs h e =
      let w = and_parts _ (rows_wait k n (drop field_limit cs)) e in
      and_from _ _ w.0 (rows-less m n (drop field_limit cs) (omega arith) w.1)

  pairs-wait :
      (ts : List ℕ) (cs : List (records.Change R)) → field_limit * length ts ≤ length cs
      → list_all is_tap ts ≡ true → rows_wait k (length ts) cs ≡ true
      → list_all may_wait (pairs_in k ts cs) ≡ true
  pairs-wait [] cs inside known busy = refl
  pairs-wait (t ∷ ts) cs inside known busy =
      let row = take field_limit cs in
      let taps = and_parts (is_tap t) (list_all is_tap ts) known in
      let rows = and_parts (not (all_same (map (change_of k) row)))
      (rows_wait k (length ts) (drop field_limit cs)) busy in
      let whole : length (map (change_of k) row) ≡ field_limit = length-map row (change_of k)
      ∙ length-take-le field_limit cs (omega arith) in
      and_from _ _ (may_wait-from t (map (change_of k) row) taps.0 whole (not-true _ rows.0))
      (pairs-wait ts (drop field_limit cs)
      (omega (arith, length-drop field_limit cs)) taps.1 rows.1)

  length-pairs :
      (ts : List ℕ) (cs : List (records.Change R)) → length (pairs_in k ts cs) ≡ length ts
  length-pairs [] cs = refl
  length-pairs (t ∷ ts) cs = ap suc (length-pairs ts (drop field_limit cs))

  -- it is one that a queue of so many pairs can hold
  pub pairs-hold :
      (limit : ℕ) (ts : List ℕ) (cs : List (records.Change R)) → length ts ≤ limit
      → field_limit * length ts ≤ length cs → list_all is_tap ts ≡ true
      → rows_wait k (length ts) cs ≡ true → (queue_of limit).holds (pairs_in k ts cs) ≡ true
  pairs-hold limit ts cs few inside known busy =
      and_from _ _ (le-leb _ limit (omega (arith, length-pairs ts cs)))
      (pairs-wait ts cs inside known busy)

  pub queue-hold :
      (len : ℕ) (taps : List ℕ) (cs : List (records.Change R)) → len ≤ pair_limit
      → length cs ≡ queue_limit → list_all is_tap taps ≡ true → rows_wait k len cs ≡ true
      → queue.holds (pairs_in k (take len taps) cs) ≡ true
  queue-hold len taps cs few whole known busy =
      let ts = take len taps in
      let short : length ts ≤ len = omega (arith, length-take len taps) in
      let taps-known = (and_parts _ _
      (sym (list_all-append is_tap ts (drop len taps)) ∙ ap (list_all is_tap)
      (take-append-drop len taps) ∙ known)).0 in
      pairs-hold pair_limit ts cs (omega arith) (omega arith) taps-known
      (rows-less (length ts) len cs short busy)
