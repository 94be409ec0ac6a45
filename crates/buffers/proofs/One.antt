-- A list of one pair, and the memory that holds it.
use Rattle.std.proofs.Common.{◌≡◌, ℕ, true, false, not, cond, nat_le, List, [], ◌∷◌, ◌++◌, map}
use Rattle.std.proofs.Common.{length, take, Option, Some, None, Ok, Err, Result, sym, refl, ap, ◌∙◌}
use Rattle.std.proofs.Common.{arith}
use Rattle.std.specs.Prelude.{◌==◌}
use Rattle.std.specs.Option.{option_to_list}
use Rattle.std.proofs.lemmas.List.{append-nil, take_all, length-map}
use Rattle.std.proofs.lemmas.Bool.{and_from, cond_both, cond-false, cond-true, eq-eqb}
use Rattle.row.specs.Kinds.{Kind, Lawful}
use Rattle.row.specs.Limits.{field_limit}
use Rattle.row.specs.Records.{change_of, change_record, memory_refusal}
use Rattle.row.specs.Rows as rows
use Rattle.row.specs.Rows.{all_same, becomes, null, same, value}
use Rattle.row.specs.declared.change.Change.{Change}
use Rattle.row.specs.declared.fault.Refusal.{Refusal}
use Rattle.waiting.specs.Layouts.{Exact}
use Rattle.waiting.specs.Lists.{Pair, pair, pair_of_changes}
use Rattle.waiting.specs.Policies.{after_put}
use Rattle.waiting.specs.Queues.{queue_of, rows_of, pairs_in}
use Rattle.waiting.specs.Rows.{filled_changes, rows_wait}
use Rattle.waiting.proofs.Canonical.{length-widened, put-joined, widened, widened_changes}
use Rattle.waiting.proofs.Canonical.{widened-means, widened-parts}

module _ {R : Type 0} (k : Kind R) (law : Lawful k) (ds w cs new : List (Change R)) (is : w ≡ widened_changes k ds) (one : length cs ≡ field_limit) (copied : new ≡ cond (length w == length cs) w cs) where
  -- the memory is the row that was put
  new-is : new ≡ widened_changes k ds
  new-is =
      copied ∙ cond-true (length w == length cs) w cs
      (eq-eqb (length w) (length cs) (ap length is ∙ length-widened k ds ∙ sym one)) ∙ is

  row-is : take field_limit new ≡ widened_changes k ds
  row-is =
      ap (take field_limit) new-is ∙ take_all field_limit (widened_changes k ds)
      (omega (arith, length-widened k ds))

  row-means : map (change_of k) (take field_limit new) ≡ widened (map (change_of k) ds)
  row-means = ap (map (change_of k)) row-is ∙ widened-means k law ds

  -- memory where one pair waits
  pub exact-one : (t : ℕ) → Exact k (rows_of 1) new (pairs_in k (t ∷ []) new)
  exact-one t =
      let e = map (change_of k) (take field_limit new) in
      new-is ∙ ap (map (change_record k))
      (sym row-means ∙ sym (append-nil e) ∙ sym (append-nil (e ++ [])))

  -- the list where nothing waited, and now one pair does
  pub put-one :
      (old : Option ℕ) (t : ℕ) → nat_le (length ds) field_limit ≡ true
      → (queue_of 1).takes (pairs_in k (option_to_list old) cs) t ≡ true
      → all_same (map (change_of k) w) ≡ false
      → pairs_in k (t ∷ []) new
      ≡ after_put (queue_of 1) (pairs_in k (option_to_list old) cs) t (map (change_of k) ds)
  put-one None t few taken changes =
      let d = widened (map (change_of k) ds) in
      let some : all_same d ≡ false = ap all_same
      (sym (widened-means k law ds) ∙ ap (map (change_of k)) (sym is)) ∙ changes in
      ap (λ e. pair t e ∷ []) row-means
      ∙ sym (cond-true _ _ _ (and_from _ _
      (ap (λ n. nat_le n field_limit) (length-map ds (change_of k)) ∙ few) refl) ∙ cond-false
      (all_same d) [] (pair t d ∷ []) some)
      ∙ sym (put-joined (queue_of 1) [] t (map (change_of k) ds))
  put-one (Some u) t few taken changes = absurd cc

  -- its row has a change that is not same
  pub busy-one : all_same (map (change_of k) w) ≡ false → rows_wait k 1 new ≡ true
  busy-one changes =
      and_from _ true (ap (λ r. not (all_same (map (change_of k) r))) (row-is ∙ sym is)
      ∙ ap not changes) refl
