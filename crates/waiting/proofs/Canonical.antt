-- Changes by the records of their meaning.
use Rattle.std.proofs.Common.{◌≡◌, ℕ, ◌+◌, ◌*◌, ◌≤◌, Bool, true, false, cond, nat_le, Ok, Err}
use Rattle.std.proofs.Common.{Result, List, [], ◌∷◌, ◌++◌, map, length, take, drop, replicate, sym}
use Rattle.std.proofs.Common.{refl, ap, ◌∙◌, arith}
use Rattle.std.specs.Prelude.{◌==◌, ◌&&◌}
use Rattle.std.proofs.lemmas.Bool.{and_from, and_parts, cond_both, cond-true, cond-false, eq-eqb}
use Rattle.std.proofs.lemmas.Bool.{le-leb}
use Rattle.std.proofs.lemmas.Bool.{leb-true}
use Rattle.std.proofs.lemmas.List.{length-map, map-append, drop-map, drop-replicate}
use Rattle.row.specs.Canonical.{canonical-map, later-means, means-canonical}
use Rattle.row.specs.Kinds.{Kind, Lawful}
use Rattle.row.specs.Limits.{field_limit}
use Rattle.row.specs.Records.{canonical, change_of, change_record, joined_changes, memory_refusal}
use Rattle.row.specs.Rows as deltas
use Rattle.row.specs.Rows.{same, blank, filled, join, with_row}
use Rattle.row.proofs.Places.{map-with}
use Rattle.row.specs.declared.change.Change.{Change}
use Rattle.row.specs.declared.fault.Refusal.{Refusal}
use Rattle.waiting.specs.ListsLaws.{length-join, filled-join}
use Rattle.waiting.specs.Policies.{Meaning, Policy, after_put}
use Rattle.waiting.specs.Rows.{has_row, filled_changes}

-- a delta in all the places of a row, as a join
abbrev pub widened : List deltas.Change → List deltas.Change
widened d = join blank d

abbrev pub widened_changes : {R : Type 0} → Kind R → List (Change R) → List (Change R)
widened_changes k ds = map (change_record k) (widened (map (change_of k) ds))

module _ {R : Type 0} (k : Kind R) where
  -- the records of rows and of what is around them
  pub canonical-with_row :
      (i : ℕ) (row cs : List (Change R)) → row ≡ map (canonical k) row → cs ≡ map (canonical k) cs
      → with_row i row cs ≡ map (canonical k) (with_row i row cs)
  canonical-with_row i row cs e f =
      (λ j. with_row i (e j) (f j)) ∙ sym (map-with (canonical k) i row cs)

  module _ (law : Lawful k) where
    -- the records of a join mean the join
    pub joined-means :
        (cs ds : List (Change R))
        → map (change_of k) (joined_changes k cs ds)
        ≡ join (map (change_of k) cs) (map (change_of k) ds)
    joined-means [] ds = refl
    joined-means (c ∷ cs) [] =
        ap (map (change_of k)) (sym (canonical-map k (c ∷ cs))) ∙ means-canonical k law (c ∷ cs)
    joined-means (c ∷ cs) (d ∷ ds) = λ i. later-means k law c d i ∷ joined-means cs ds i

    -- and they are canonical
    pub canonical-joined :
        (cs ds : List (Change R))
        → joined_changes k cs ds ≡ map (canonical k) (joined_changes k cs ds)
    canonical-joined cs ds =
        ap (map (change_record k)) (sym (joined-means cs ds)) ∙ sym
        (canonical-map k (joined_changes k cs ds))

    pub widened-means :
        (ds : List (Change R))
        → map (change_of k) (widened_changes k ds) ≡ widened (map (change_of k) ds)
    widened-means = joined-means (replicate field_limit (change_record k same))

  pub length-joined_changes :
      (cs ds : List (Change R)) → length (joined_changes k cs ds) ≡ length cs
  length-joined_changes cs ds =
      length-map (join (map (change_of k) cs) (map (change_of k) ds)) (change_record k)
      ∙ length-join (map (change_of k) cs) (map (change_of k) ds)
      ∙ length-map cs (change_of k)

  pub length-widened : (ds : List (Change R)) → length (widened_changes k ds) ≡ field_limit
  length-widened = length-joined_changes (replicate field_limit (change_record k same))

  -- a delta with same behind it, by the record of each change
  pub filled-records :
      (ds : List (Change R)) → length ds ≤ field_limit
      → map (canonical k) (ds ++ drop (length ds) (replicate field_limit (change_record k same)))
      ≡ filled_changes k ds
  filled-records ds few =
      let d = map (change_of k) ds in
      let records = replicate field_limit (change_record k same) in
      let behind : map (change_of k) (drop (length ds) records) ≡ drop (length d) blank =
      sym (drop-map (change_of k) (length ds) records) ∙ ap (λ n. drop n blank)
      (sym (length-map ds (change_of k))) in
      canonical-map k (ds ++ drop (length ds) records)
      ∙ ap (map (change_record k)) (map-append (change_of k) ds (drop (length ds) records)
      ∙ ap (λ l. d ++ l) (behind ∙ drop-replicate (length d) field_limit same))

-- in all the places of a row, where there are no more: the same by a join
module _ {X : Type 0} (f : List deltas.Change → X) (other : X) (d : List deltas.Change) where
  pub either-joined :
      (b : Bool)
      → cond (nat_le (length d) field_limit && b) (f (filled d)) other
      ≡ cond (nat_le (length d) field_limit && b) (f (widened d)) other
  either-joined b =
      cond_both (nat_le (length d) field_limit && b) (f (filled d)) other
      (λ x. x ≡ cond (nat_le (length d) field_limit && b) (f (widened d)) other)
      (λ e. ap f (filled-join d (leb-true (length d) field_limit (and_parts _ _ e).0)) ∙ sym (cond-true _ _ _ e))
      (λ e. sym (cond-false _ _ _ e))

pub put-joined :
    (b : Policy) (m : Meaning) (t : ℕ) (d : List deltas.Change)
    → after_put b m t d
    ≡ cond (nat_le (length d) field_limit && b.takes m t) (b.after m t (widened d)) m
put-joined b m t d = either-joined (b.after m t) m d (b.takes m t)

-- what `filled` hands out where it accepts
pub widened-parts :
    {R : Type 0} (k : Kind R) (ds w : List (Change R)) (r : Result (List (Change R)) Refusal)
    → r ≡ cond (nat_le (length ds) field_limit) (Ok (filled_changes k ds)) (Err memory_refusal)
    → r ≡ Ok w → (nat_le (length ds) field_limit ≡ true) × (w ≡ widened_changes k ds)
widened-parts k ds w r e f = parts (nat_le (length ds) field_limit) refl (sym f ∙ e)
  where
    parts :
        (b : Bool) → nat_le (length ds) field_limit ≡ b
        → Ok w ≡ cond b (Ok (filled_changes k ds)) (Err memory_refusal)
        → (b ≡ true) × (w ≡ widened_changes k ds)
    parts true few e =
        let d = map (change_of k) ds in
        let short = leb-true (length ds) field_limit few in
        let is : w ≡ filled_changes k ds = cc in
        (refl, is ∙ ap (map (change_record k)) (filled-join d (omega (arith, length-map ds (change_of k)))))
    parts false few e = cc

-- what `store_row` leaves of it, where memory has the row
pub widened-stored :
    {R : Type 0} (k : Kind R) (i : ℕ) (cs ds w new : List (Change R)) → w ≡ widened_changes k ds
    → field_limit * i + field_limit ≤ length cs
    → new ≡ cond (has_row i cs && length w == field_limit) (with_row i w cs) cs
    → new ≡ with_row i (widened_changes k ds) cs
widened-stored k i cs ds w new is inside e =
    let row = le-leb (field_limit * i + field_limit) (length cs) inside in
    let whole = eq-eqb (length w) field_limit (ap length is ∙ length-widened k ds) in
    e ∙ cond-true (has_row i cs && length w == field_limit) (with_row i w cs) cs
    (and_from _ _ row whole) ∙ ap (λ r. with_row i r cs) is
