-- What the canonical records of changes and cells mean.
use Rattle.std.specs.Prelude.{◌≡◌, Bool, true, false, List, map, refl}
use Rattle.std.proofs.Common.{sym, ap, ◌∙◌}
use Rattle.std.proofs.lemmas.Simd.{map-map}
use Rattle.row.specs.Kinds.{Kind, Lawful}
use Rattle.row.specs.Records.{canonical, canonical_cell, cell_of, change_of, change_record, later}
use Rattle.row.specs.Records.{changed_cell, wholly}
use Rattle.row.specs.Rows.{becomes, change_cell, join_change, value}
use Rattle.row.specs.declared.change.Cell.{Cell}
use Rattle.row.specs.declared.change.Change.{Change}
use Rattle.row.specs.declared.change.Mark.{Mark}
use Rattle.row.specs.declared.change.Mark.TheVariants.{Same, Null, Value}

module _ {R : Type 0} (k : Kind R) where
  pub canonical-map :
      (cs : List (Change R)) → map (canonical k) cs ≡ map (change_record k) (map (change_of k) cs)
  canonical-map cs = sym (map-map (change_record k) (change_of k) cs)

  module _ (law : Lawful k) where
    -- the record of the text that a record means has that text
    text-same : (r : R) → k.text (k.raw (k.text r)) ≡ k.text r
    text-same r = law.text-raw (k.text r) (law.text-allowed r)

    change-by :
        (m : Mark) (r : R)
        → change_of k (canonical k (record { mark = m; raw = r }))
        ≡ change_of k (record { mark = m; raw = r })
    change-by Same r = refl
    change-by Null r = refl
    change-by Value r = ap (λ t. becomes (value t)) (text-same r)

    cell-by :
        (n : Bool) (r : R)
        → cell_of k (canonical_cell k (record { null = n; raw = r }))
        ≡ cell_of k (record { null = n; raw = r })
    cell-by true r = refl
    cell-by false r = ap value (text-same r)

    -- the canonical record means the same as the one that it was made of
    pub means-same : (c : Change R) → change_of k (canonical k c) ≡ change_of k c
    means-same c = change-by c.mark c.raw

    pub cell-same : (c : Cell R) → cell_of k (canonical_cell k c) ≡ cell_of k c
    cell-same c = cell-by c.null c.raw

    changed_cell-by :
        (c : Cell R) (m : Mark) (r : R)
        → let d : Change R = record { mark = m; raw = r } in
        cell_of k (changed_cell k c d) ≡ change_cell (cell_of k c) (change_of k d)
    changed_cell-by c Same r = cell-same c
    changed_cell-by c Null r = refl
    changed_cell-by c Value r = ap value (text-same r)

    -- what changing and joining leave in a place means what they make of the texts
    pub changed_cell-means :
        (c : Cell R) (d : Change R)
        → cell_of k (changed_cell k c d) ≡ change_cell (cell_of k c) (change_of k d)
    changed_cell-means c d = changed_cell-by c d.mark d.raw

    later-by :
        (c : Change R) (m : Mark) (r : R)
        → let d : Change R = record { mark = m; raw = r } in
        change_of k (later k c d) ≡ join_change (change_of k c) (change_of k d)
    later-by c Same r = means-same c
    later-by c Null r = refl
    later-by c Value r = ap (λ t. becomes (value t)) (text-same r)

    pub later-means :
        (c d : Change R) → change_of k (later k c d) ≡ join_change (change_of k c) (change_of k d)
    later-means c d = later-by c d.mark d.raw

    wholly-by :
        (n : Bool) (r : R)
        → let c : Cell R = record { null = n; raw = r } in
        change_of k (wholly k c) ≡ becomes (cell_of k c)
    wholly-by true r = refl
    wholly-by false r = ap (λ t. becomes (value t)) (text-same r)

    pub wholly-means : (c : Cell R) → change_of k (wholly k c) ≡ becomes (cell_of k c)
    wholly-means c = wholly-by c.null c.raw

    pub means-canonical :
        (cs : List (Change R)) → map (change_of k) (map (canonical k) cs) ≡ map (change_of k) cs
    means-canonical cs =
        map-map (change_of k) (canonical k) cs ∙ (λ i. map (λ c. means-same c i) cs)

    pub canonical-canonical :
        (cs : List (Change R)) → map (canonical k) cs ≡ map (canonical k) (map (canonical k) cs)
    canonical-canonical cs =
        canonical-map cs ∙ ap (map (change_record k)) (sym (means-canonical cs))
        ∙ sym (canonical-map (map (canonical k) cs))
