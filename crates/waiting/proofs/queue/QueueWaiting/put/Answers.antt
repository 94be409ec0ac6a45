use Rattle.std.proofs.Common.{◌≡◌, ◌+◌, ◌++◌, ◌∷◌, [], ◌&&◌, false, slice_set, nat_le, map, take}
use Rattle.std.proofs.Common.{length, nat_lt, sym, ap, ◌∙◌, arith, subst}
use Rattle.std.proofs.lemmas.Bool.{and_from, cond-true, cond-false, ltb-true}
use Rattle.std.proofs.lemmas.List.{length-map}
use Rattle.row.specs.Limits.{field_limit}
use Rattle.row.specs.Records.{change_of, change_record}
use Rattle.row.specs.Rows.{all_same, blank, with_row}
use Rattle.row.specs.Taps.{is_tap}
use Rattle.waiting.specs.Layouts.{Exact}
use Rattle.waiting.specs.Limits.{pair_limit}
use Rattle.waiting.specs.Lists.{pair}
use Rattle.waiting.specs.ListsLaws.{length-join}
use Rattle.waiting.specs.QueueLaws.{queue-hold}
use Rattle.waiting.specs.Rows.{rows_wait}
use Rattle.waiting.specs.Queues.{queue, queue_rows, pairs_in, queued}
use Rattle.waiting.proofs.Canonical.{length-widened, put-joined, widened, widened_changes}
use Rattle.waiting.proofs.Canonical.{widened-means, widened-parts, widened-stored}
use Rattle.waiting.proofs.QueueRows.{length-taken, room, list_all-set, queue-pushed, exact-pushed}
use Rattle.waiting.proofs.QueueRows.{rows-pushed}
use Rattle.waiting.proofs.Putting.{put_same}
use Rattle.waiting.proofs.queue.QueueWaiting.put.Goals as goal

pub bounds-self-i : goal.bounds-self-i
bounds-self-i g c =
    let q = c.args.self.now in
    room g.R.Value.kind q.len pair_limit q.taps q.changes.now (omega arith)
    (sym c.if-not-takes.ensures)

pub invariant_of-self-clause-known : goal.invariant_of-self-clause-known
invariant_of-self-clause-known g c =
    let q = c.args.self.now in
    list_all-set is_tap q.taps q.len c.number.result q.known
    (ap is_tap c.number.ensures ∙ c.args.tap.known)

pub invariant_of-self-clause-few : goal.invariant_of-self-clause-few
invariant_of-self-clause-few g c =
    let q = c.args.self.now in
    omega (
      arith,
      room g.R.Value.kind q.len pair_limit q.taps q.changes.now (omega arith)
          (sym c.if-not-takes.ensures),
    )

pub invariant_of-self-clause-busy : goal.invariant_of-self-clause-busy
invariant_of-self-clause-busy g c =
    let q = c.args.self.now in
    let k = g.R.Value.kind in
    let ds = c.args.delta.now in
    let w = widened-parts k ds c.in_ok-whole.whole c.filled.result c.filled.ensures
    c.in_ok-whole.was in
    let short = room k q.len pair_limit q.taps q.changes.now (omega arith)
    (sym c.if-not-takes.ensures) in
    let stored = widened-stored k q.len q.changes.now ds c.in_ok-whole.whole
    c.store_row.new.changes w.1 (omega (arith, short)) c.store_row.ensures.changes in
    let some : all_same (map (change_of k) (widened_changes k ds)) ≡ false = ap
    (λ r. all_same (map (change_of k) r)) (sym w.1) ∙ sym c.if-all_same.ensures in
    ap (rows_wait k (q.len + 1)) stored ∙ rows-pushed k q.len (widened_changes k ds) q.changes.now
    (length-widened k ds) (omega (arith, short)) q.busy some

-- the pair that was put stands at the end
pushed :
    (g : _) (c : goal.After-self-1 g)
    → pairs_in g.R.Value.kind (take (c.args.self.now.len + 1)
    (slice_set c.args.self.now.taps c.args.self.now.len c.number.result))
    c.store_row.new.changes
    ≡ queued g.R.Value.kind c.args.self.now ++ pair c.args.tap.number
    (widened (map (change_of g.R.Value.kind) c.args.delta.now)) ∷ []
pushed g c =
    let q = c.args.self.now in
    let k = g.R.Value.kind in
    let ds = c.args.delta.now in
    let w = widened-parts k ds c.in_ok-whole.whole c.filled.result c.filled.ensures
    c.in_ok-whole.was in
    let short = room k q.len pair_limit q.taps q.changes.now (omega arith)
    (sym c.if-not-takes.ensures) in
    let stored = widened-stored k q.len q.changes.now ds c.in_ok-whole.whole
    c.store_row.new.changes w.1 (omega (arith, short)) c.store_row.ensures.changes in
    queue-pushed k q.len c.number.result q.taps q.changes.now (widened_changes k ds)
    c.store_row.new.changes (omega (arith, short)) (omega (arith, short))
    (length-widened k ds) stored
    ∙ (λ i. queued k q ++ pair (c.number.ensures i)
    (widened-means k g.met.R.Value.lawful ds i) ∷ [])

pub returns-then-all_same-clause-meaning : goal.returns-then-all_same-clause-meaning
returns-then-all_same-clause-meaning g c =
    let k = g.R.Value.kind in
    put_same k c.args.delta.now c.in_ok-whole.whole c.filled.result pair_limit
    (queued k c.args.self.now) c.args.tap.number c.filled.ensures c.in_ok-whole.was
    c.if-all_same.ensures

pub returns-clause-meaning : goal.returns-clause-meaning
returns-clause-meaning g c =
    let q = c.args.self.now in
    let k = g.R.Value.kind in
    let ds = c.args.delta.now in
    let t = c.args.tap.number in
    let d = widened (map (change_of k) ds) in
    let l = queued k q in
    let w = widened-parts k ds c.in_ok-whole.whole c.filled.result c.filled.ensures
    c.in_ok-whole.was in
    let few = ap (λ n. nat_le n field_limit) (length-map ds (change_of k)) ∙ w.0 in
    let some : all_same d ≡ false = ap all_same
    (sym (widened-means k g.met.R.Value.lawful ds) ∙ ap (map (change_of k)) (sym w.1)) ∙ sym
    c.if-all_same.ensures in
    pushed g c
    ∙ ap (λ m. l ++ m) (sym (cond-false (all_same d) [] (pair t d ∷ []) some))
    ∙ sym (cond-true (nat_le (length (map (change_of k) ds)) field_limit && nat_lt
    (length l) pair_limit) (queue.after l t d) l
    (and_from _ _ few (sym c.if-not-takes.ensures)))
    ∙ sym (put-joined queue l t (map (change_of k) ds))

pub returns-clause-exact : goal.returns-clause-exact
returns-clause-exact g c = λ old.
    let q = c.args.self.now in
    let k = g.R.Value.kind in
    let ds = c.args.delta.now in
    let d = widened (map (change_of k) ds) in
    let l = queued k q in
    let listed = queue-hold k q.len q.taps q.changes.now q.few q.whole q.known q.busy in
    let w = widened-parts k ds c.in_ok-whole.whole c.filled.result c.filled.ensures
    c.in_ok-whole.was in
    let short = room k q.len pair_limit q.taps q.changes.now (omega arith)
    (sym c.if-not-takes.ensures) in
    let stored = widened-stored k q.len q.changes.now ds c.in_ok-whole.whole
    c.store_row.new.changes w.1 (omega (arith, short)) c.store_row.ensures.changes in
    let next = exact-pushed k q.changes.now l listed old c.args.tap.number d
    (ltb-true (length l) pair_limit (sym c.if-not-takes.ensures))
    (length-join blank (map (change_of k) ds)) in
    let moved : c.store_row.new.changes ≡ with_row (length l)
    (map (change_record k) d) q.changes.now =
    stored ∙ ap (λ n. with_row n (map (change_record k) d) q.changes.now)
    (sym (length-taken k q.len q.taps q.changes.now (omega arith))) in
    subst (Exact k queue_rows c.store_row.new.changes) (sym (pushed g c))
    (subst (λ cs. Exact k queue_rows cs (l ++ pair c.args.tap.number d ∷ [])) (sym moved) next)
