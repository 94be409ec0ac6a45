-- The pairs of a ring, by the taps and rows that a queue would have from where it stands.
use Rattle.std.proofs.Common.{◌≡◌, ◌⊎◌, inl, inr, ⊎_elim, ℕ, zero, suc, ◌+◌, ◌-◌, ◌*◌, ◌%◌, ◌<◌}
use Rattle.std.proofs.Common.{◌≤◌, true, false, cond, ◌&&◌, List, [], ◌∷◌, ◌++◌, map}
use Rattle.std.proofs.Common.{length, take, drop, not, nat_le, subst, append_assoc, slice_set}
use Rattle.std.proofs.Common.{get_or, Ok, sym, refl, ap, ◌∙◌, arith, not-suc-le-zero}
use Rattle.std.specs.Prelude.{◌==◌}
use Rattle.std.proofs.lemmas.Bool.{and_from, and_parts, cases_lt, cond-true, eq-eqb, le-leb}
use Rattle.std.proofs.lemmas.List.{length-drop, length-take-le, take-append-le, drop-drop}
use Rattle.std.proofs.lemmas.List.{drop_more, take_more}
use Rattle.std.proofs.lemmas.List.Elements.{filter-append}
use Rattle.row.specs.Kinds.{Kind}
use Rattle.row.specs.Limits.{field_limit}
use Rattle.row.specs.Records.{change_of}
use Rattle.row.specs.Rows.{all_same, row_at, with_row}
use Rattle.row.specs.Taps.{is_tap}
use Rattle.row.specs.declared.change.Change.{Change}
use Rattle.waiting.specs.Limits.{pair_limit, queue_limit}
use Rattle.waiting.specs.Lists.{Pair, pair, is_for, without}
use Rattle.waiting.specs.ListsLaws.{waits}
use Rattle.waiting.specs.Policies.{first}
use Rattle.waiting.specs.QueueLaws.{rows-less}
use Rattle.waiting.specs.Queues.{pairs_in, queue}
use Rattle.waiting.specs.Rows.{has_row, rows_wait}
use Rattle.waiting.proofs.QueueRows.{queue-pushed, queue-removed, rows-pushed, rows-removed}
use Rattle.buffers.specs.Rings.{length-turned}
use Rattle.buffers.specs.Turning.{turned}
use Rattle.buffers.proofs.Turns.{turned-put, turned-next, put-own, set-is, one-at}

-- where a pair that is put behind the last stands
around :
    (s l i w : ℕ) → s < pair_limit → l < pair_limit → i ≡ (s + l) % pair_limit
    → ((i ≡ s + l) × (i + 1 ≤ pair_limit)) ⊎ ((i + pair_limit ≡ s + l) × (i + 1 ≤ s))
around s l i w hs hl e =
    ⊎_elim (λ h. inl (omega (arith, e, h), omega (arith, e, h)))
    (λ h. inr (omega (arith, e, h), omega (arith, e, h))) (cases_lt (s + l) pair_limit)

rows-around :
    (s l i : ℕ) → ((i ≡ s + l) × (i + 1 ≤ pair_limit)) ⊎ ((i + pair_limit ≡ s + l) × (i + 1 ≤ s))
    → ((field_limit * i ≡ field_limit * s + field_limit * l) ×
    (field_limit * i + field_limit ≤ queue_limit))
    ⊎ ((field_limit * i + queue_limit ≡ field_limit * s + field_limit * l) ×
    (field_limit * i + field_limit ≤ field_limit * s))
rows-around s l i =
    ⊎_elim (λ h. inl (omega (arith, h.0), omega (arith, h.1)))
    (λ h. inr (omega (arith, h.0), omega (arith, h.1)))

after :
    (s next : ℕ) → s < pair_limit → next ≡ (s + 1) % pair_limit
    → ((next ≡ s + 1) × (s + 1 ≤ pair_limit)) ⊎ ((next ≡ 0) × (s + 1 ≡ pair_limit))
after s next hs e =
    ⊎_elim (λ h. inl (omega (arith, e, h), omega (arith, h)))
    (λ h. inr (omega (arith, e, h, hs), omega (arith, h, hs))) (cases_lt (s + 1) pair_limit)

rows-after :
    (s next : ℕ) → ((next ≡ s + 1) × (s + 1 ≤ pair_limit)) ⊎ ((next ≡ 0) × (s + 1 ≡ pair_limit))
    → ((field_limit * next ≡ field_limit * s + field_limit) ×
    (field_limit * s + field_limit ≤ queue_limit))
    ⊎ ((field_limit * next ≡ 0) × (field_limit * s + field_limit ≡ queue_limit))
rows-after s next =
    ⊎_elim (λ h. inl (omega (arith, h.0), omega (arith, h.1)))
    (λ h. inr (omega (arith, h.0), omega (arith, h.1)))

module _ {R : Type 0} (k : Kind R) (s l : ℕ) (taps : List ℕ) (cs : List (Change R)) (inside : s < pair_limit) (many : length taps ≡ pair_limit) (long : length cs ≡ queue_limit) where
  module _ (i t : ℕ) (row : List (Change R)) (room : l < pair_limit) (at : i ≡ (s + l) % pair_limit) (whole : length row ≡ field_limit) where
    taps-put : turned s (slice_set taps i t) ≡ slice_set (turned s taps) l t
    taps-put =
        let h = around s l i 1 inside room at in
        ap (turned s) (set-is taps i t (omega (arith, at, many)))
        ∙ turned-put s l i 1 pair_limit taps (t ∷ []) many refl (omega arith)
        (⊎_elim (λ e. inl (e.0, e.1)) (λ e. inr (e.0, e.1)) h)
        ∙ sym (set-is (turned s taps) l t (omega (arith, length-turned s taps, many)))

    rows-put :
        turned (field_limit * s) (with_row i row cs) ≡ with_row l row (turned (field_limit * s) cs)
    rows-put =
        ap (λ x. turned (field_limit * s) (take (field_limit * i) cs ++ (row ++ x)))
        (sym (drop-drop field_limit (field_limit * i) cs))
        ∙ turned-put (field_limit * s) (field_limit * l)
        (field_limit * i) field_limit queue_limit cs row long whole (omega arith)
        (rows-around s l i (around s l i 1 inside room at))
        ∙ ap (λ x. take (field_limit * l) (turned (field_limit * s) cs) ++ (row ++ x))
        (drop-drop field_limit (field_limit * l) (turned (field_limit * s) cs))

    -- the pairs behind a push
    pub ring-pushed :
        pairs_in k (take (l + 1) (turned s (slice_set taps i t)))
        (turned (field_limit * s) (with_row i row cs))
        ≡ pairs_in k (take l (turned s taps)) (turned (field_limit * s) cs) ++ pair t
        (map (change_of k) row) ∷ []
    ring-pushed =
        let ts = length-turned s taps in
        let rs = length-turned (field_limit * s) cs in
        ap (λ ts. pairs_in k (take (l + 1) ts)
        (turned (field_limit * s) (with_row i row cs))) taps-put
        ∙ queue-pushed k l t (turned s taps) (turned (field_limit * s) cs) row _
        (omega (arith, ts, many)) (omega (arith, rs, long)) whole rows-put

    pub ring-busy :
        rows_wait k l (turned (field_limit * s) cs) ≡ true
        → all_same (map (change_of k) row) ≡ false
        → rows_wait k (l + 1) (turned (field_limit * s) (with_row i row cs)) ≡ true
    ring-busy busy some =
        ap (rows_wait k (l + 1)) rows-put ∙ rows-pushed k l row (turned (field_limit * s) cs) whole
        (omega (arith, length-turned (field_limit * s) cs, long)) busy some

    pub ring-still-busy :
        rows_wait k l (turned (field_limit * s) cs) ≡ true
        → all_same (map (change_of k) row) ≡ false
        → rows_wait k l (turned (field_limit * s) (with_row i row cs)) ≡ true
    ring-still-busy busy some = rows-less k l (l + 1) _ (omega arith) (ring-busy busy some)

  module _ (next : ℕ) (some : 0 < l) (few : l ≤ pair_limit) (at : next ≡ (s + 1) % pair_limit) where
    taps-next : turned next taps ≡ drop 1 (turned s taps) ++ get_or taps s 0 ∷ []
    taps-next =
        ap (turned next) (sym (put-own s 1 taps))
        ∙ turned-next s 1 pair_limit next taps (take 1 (drop s taps)) many
        (length-take-le 1 (drop s taps) (omega (arith, length-drop s taps, many)))
        (after s next inside at)
        ∙ ap (λ l. drop 1 (turned s taps) ++ l) (one-at taps s 0 (omega (arith, many)))

    rows-next :
        turned (field_limit * next) cs
        ≡ drop field_limit (turned (field_limit * s) cs) ++ take field_limit
        (drop (field_limit * s) cs)
    rows-next =
        ap (turned (field_limit * next)) (sym (put-own (field_limit * s) field_limit cs))
        ∙ turned-next (field_limit * s) field_limit queue_limit (field_limit * next) cs
        (take field_limit (drop (field_limit * s) cs)) long
        (length-take-le field_limit (drop (field_limit * s) cs)
        (omega (arith, length-drop (field_limit * s) cs, long)))
        (rows-after s next (after s next inside at))

    -- the pairs behind a pop
    pub ring-popped :
        pairs_in k (take (l - 1) (turned next taps)) (turned (field_limit * next) cs)
        ≡ drop 1 (pairs_in k (take l (turned s taps)) (turned (field_limit * s) cs))
    ring-popped =
        queue-removed k l 0 (get_or taps s 0) (turned s taps) (turned next taps)
        (turned (field_limit * s) cs) (turned (field_limit * next) cs)
        (take field_limit (drop (field_limit * s) cs)) some
        (omega (arith, length-turned s taps, many))
        (omega (arith, length-turned (field_limit * s) cs, long)) taps-next rows-next

    pub ring-popped-busy :
        rows_wait k l (turned (field_limit * s) cs) ≡ true
        → rows_wait k (l - 1) (turned (field_limit * next) cs) ≡ true
    ring-popped-busy busy =
        ap (rows_wait k (l - 1)) rows-next ∙ rows-removed k l 0 (turned (field_limit * s) cs)
        (take field_limit (drop (field_limit * s) cs)) some
        (omega (arith, length-turned (field_limit * s) cs, long)) busy

-- the first pair
pub ring-first :
    {R : Type 0} (k : Kind R) (s l : ℕ) (taps : List ℕ) (cs : List (Change R)) → s < pair_limit
    → length taps ≡ pair_limit → length cs ≡ queue_limit → 0 < l
    → first (pairs_in k (take l (turned s taps)) (turned (field_limit * s) cs))
    ≡ Ok (pair (get_or taps s 0) (map (change_of k) (row_at s cs)))
ring-first k s zero taps cs inside many long some = absurd (not-suc-le-zero some)
ring-first k s (suc l) taps cs inside many long some =
    ap (λ ts. first (pairs_in k (take (suc l) (ts ++ take s taps)) (turned (field_limit * s) cs)))
    (drop_more taps s 0 (omega (arith, many)))
    ∙ ap (λ row. Ok (pair (get_or taps s 0) (map (change_of k) row)))
    (take-append-le field_limit (drop (field_limit * s) cs) (take (field_limit * s) cs)
    (omega (arith, length-drop (field_limit * s) cs, long)))

-- what `store_row` leaves, where memory has the row
pub row-stored :
    {X : Type 0} (i : ℕ) (cs row new : List X) → field_limit * i + field_limit ≤ length cs
    → length row ≡ field_limit
    → new ≡ cond (has_row i cs && length row == field_limit) (with_row i row cs) cs
    → new ≡ with_row i row cs
row-stored i cs row new inside whole e =
    let has = le-leb (field_limit * i + field_limit) (length cs) inside in
    e ∙ cond-true (has_row i cs && length row == field_limit) (with_row i row cs) cs
    (and_from _ _ has (eq-eqb (length row) field_limit whole))

-- the first pair may wait
pub first-waits :
    (l : List Pair) (p : Pair) → queue.holds l ≡ true → first l ≡ Ok p
    → (is_tap p.tap ≡ true) × (all_same p.delta ≡ false)
first-waits [] p e f = absurd cc
first-waits (q ∷ l) p e f =
    let is : q ≡ p = cc in
    let w = waits q l (and_parts (nat_le (length (q ∷ l)) pair_limit) _ e).1 in
    subst (λ x. (is_tap x.tap ≡ true) × (all_same x.delta ≡ false)) is (w.known, w.changing)

-- the list once its first n pairs went behind the others, or went for good
abbrev pub without-turned : ℕ → ℕ → List Pair → List Pair
without-turned t n l = drop n l ++ without t (take n l)

pub without-next :
    (t n : ℕ) (l : List Pair) → n < length l
    → drop 1 (without-turned t n l) ++ without t (take 1 (without-turned t n l))
    ≡ without-turned t (n + 1) l
without-next t n [] h = absurd (not-suc-le-zero h)
without-next t n (q ∷ l) h =
    let all = q ∷ l in
    let p = get_or all n q in
    let first : without-turned t n all ≡ p ∷ (drop (n + 1) all ++ without t (take n all)) =
    ap (λ x. x ++ without t (take n all)) (drop_more all n q h) in
    ap (λ x. drop 1 x ++ without t (take 1 x)) first
    ∙ append_assoc (drop (n + 1) all) (without t (take n all)) (without t (p ∷ []))
    ∙ ap (λ x. drop (n + 1) all ++ x)
    (sym (filter-append (λ r. not (is_for t r)) (take n all) (p ∷ [])))
    ∙ ap (λ x. drop (n + 1) all ++ without t x) (sym (take_more all n q h))
