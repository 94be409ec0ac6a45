-- The ring: a queue whose rows stay where they are, read from the row where it stands.
use Rattle.std.specs.Prelude.{◌≡◌, ℕ, ◌*◌, ◌≤◌, true, List, length, take, drop}
use Rattle.std.specs.List.{list_all}
use Rattle.std.proofs.Common.{arith, sym, ap, ◌∙◌}
use Rattle.std.proofs.lemmas.Bool.{and_from, and_parts}
use Rattle.std.proofs.lemmas.List.{length-append, length-drop, length-take, take-append-drop}
use Rattle.std.proofs.lemmas.List.Folds.{list_all-append}
use Rattle.row.specs.Kinds.{Kind}
use Rattle.row.specs.Limits.{field_limit}
use Rattle.row.specs.Taps.{is_tap}
use Rattle.row.specs.declared.change.Change.{Change}
use Rattle.waiting.specs.Limits.{pair_limit, queue_limit}
use Rattle.waiting.specs.Lists.{Pair}
use Rattle.waiting.specs.QueueLaws.{queue-hold}
use Rattle.waiting.specs.Queues.{queue, pairs_in}
use Rattle.waiting.specs.Rows.{rows_wait}
use Rattle.buffers.specs.Turning.{turned}
use Rattle.buffers.specs.declared.ring.Ring.{Ring}

-- what waits in a ring: what would in a queue, had it the taps and rows from where the ring stands
abbrev pub ringed : {R : Type 0} {g : _} → Kind R → Ring R g → List Pair
ringed k r =
    pairs_in k (take r.len (turned r.start r.taps)) (turned (field_limit * r.start) r.changes.now)

pub length-turned : {X : Type 0} (n : ℕ) (xs : List X) → length (turned n xs) ≡ length xs
length-turned n xs =
    omega (arith, length-append (drop n xs) (take n xs), length-drop n xs, length-take n xs)

pub all-turned :
    (n : ℕ) (taps : List ℕ) → list_all is_tap taps ≡ true → list_all is_tap (turned n taps) ≡ true
all-turned n taps e =
    let h = and_parts (list_all is_tap (take n taps)) (list_all is_tap (drop n taps))
    (sym (list_all-append is_tap (take n taps) (drop n taps)) ∙ ap (list_all is_tap)
    (take-append-drop n taps) ∙ e) in
    list_all-append is_tap (drop n taps) (take n taps) ∙ and_from _ _ h.1 h.0

pub ring-holds :
    {R : Type 0} (k : Kind R) (start len : ℕ) (taps : List ℕ) (cs : List (Change R))
    → len ≤ pair_limit → length cs ≡ queue_limit → list_all is_tap taps ≡ true
    → rows_wait k len (turned (field_limit * start) cs) ≡ true
    → queue.holds (pairs_in k (take len (turned start taps)) (turned (field_limit * start) cs))
    ≡ true
ring-holds k start len taps cs few whole known busy =
    queue-hold k len (turned start taps) (turned (field_limit * start) cs) few
    (length-turned (field_limit * start) cs ∙ whole) (all-turned start taps known) busy
