-- Putting a delta that leaves each cell as it is.
use Rattle.std.proofs.Common.{◌≡◌, ℕ, true, cond, nat_le, Bool, List, [], ◌∷◌, ◌++◌, map, length}
use Rattle.std.proofs.Common.{Ok, Err}
use Rattle.std.proofs.Common.{Result, sym, refl, ap, ◌∙◌}
use Rattle.std.proofs.lemmas.List.{append-nil}
use Rattle.std.proofs.lemmas.Bool.{cond_both, cond-true}
use Rattle.row.specs.Kinds.{Kind}
use Rattle.row.specs.Limits.{field_limit}
use Rattle.row.specs.Records.{change_of, change_record, memory_refusal}
use Rattle.row.specs.Rows as rows
use Rattle.row.specs.Rows.{all_same, becomes, null, same, value}
use Rattle.row.specs.declared.change.Change.{Change}
use Rattle.row.specs.declared.fault.Refusal.{Refusal}
use Rattle.waiting.specs.Lists.{Pair, pair, pair_of_changes}
use Rattle.waiting.specs.Policies.{after_put}
use Rattle.waiting.specs.Queues.{queue_of}
use Rattle.waiting.specs.Rows.{filled_changes}
use Rattle.waiting.proofs.Canonical.{put-joined, widened, widened-parts}

-- the records of changes are same where the changes are
same-records :
    {R : Type 0} (k : Kind R) (d : List rows.Change)
    → all_same (map (change_of k) (map (change_record k) d)) ≡ all_same d
same-records k [] = refl
same-records k (same ∷ d) = same-records k d
same-records k (becomes null ∷ d) = refl
same-records k (becomes (value t) ∷ d) = refl

-- a delta that leaves each cell as it is leaves a queue as it is
pub put_same :
    {R : Type 0} (k : Kind R) (ds w : List (Change R)) (r : Result (List (Change R)) Refusal)
    (limit : ℕ) (l : List Pair) (t : ℕ)
    → r ≡ cond (nat_le (length ds) field_limit) (Ok (filled_changes k ds)) (Err memory_refusal)
    → r ≡ Ok w → true ≡ all_same (map (change_of k) w)
    → l ≡ after_put (queue_of limit) l t (map (change_of k) ds)
put_same k ds w r limit l t e was all =
    let d = widened (map (change_of k) ds) in
    let is = (widened-parts k ds w r e was).1 in
    let none : all_same d ≡ true = sym (same-records k d) ∙ ap (λ x. all_same (map (change_of k) x))
    (sym is) ∙ sym all in
    cond_both _ (l ++ pair_of_changes t d) l (λ x. l ≡ x)
    (λ _. sym (ap (λ m. l ++ m) (cond-true (all_same d) [] (pair t d ∷ []) none) ∙ append-nil l))
    (λ _. refl)
    ∙ sym (put-joined (queue_of limit) l t (map (change_of k) ds))
