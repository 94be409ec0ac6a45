-- Which values come into a viewer's cells: those of the kind.
use Rattle.std.proofs.Common.{◌≡◌, ℕ, zero, suc, ◌+◌, ◌*◌, ◌≤◌, Bool, List, [], ◌∷◌, ◌++◌, take}
use Rattle.std.proofs.Common.{drop}
use Rattle.std.proofs.Common.{replicate, Ok, Err}
use Rattle.std.specs.Prelude.{nat_le}
use Rattle.std.specs.List.{AllByRecursion}
use Rattle.std.proofs.ByRecursion.{All-append, All-take, All-drop}
use Rattle.std.proofs.lemmas.Bool.{cond_both, leb-true}
use Rattle.row.specs.Limits.{field_limit}
use Rattle.row.specs.Rows.{Cell, Change, same, becomes, change_cell, changed, row_at, with_row}
use Rattle.row.specs.Rows.{filled}
use Rattle.tlcp.specs.Lists.{Allowed, Means, Row, unchanged, run, nothing, empty, content, done}
use Rattle.tlcp.specs.Lists.{next, read_list, values, read_values, uncovered}
use Rattle.tlcp.proofs.Reading.{refused}
use Rattle.tlcp.proofs.Spelling.{reads-spelled}
use Rattle.viewer.specs.Laws.{HoldAllowed}

module _ (allowed : List ℕ → Bool) where
  sames-allowed : (n : ℕ) → AllByRecursion (Allowed allowed) (replicate n same)
  sames-allowed zero = tt
  sames-allowed (suc n) = (tt, sames-allowed n)

  means-allowed :
      {v : List ℕ} {d : List Change} → Means allowed v d → AllByRecursion (Allowed allowed) d
  means-allowed unchanged = (tt, tt)
  means-allowed (run {n} low high) = sames-allowed n
  means-allowed nothing = (tt, tt)
  means-allowed (empty is) = (is, tt)
  means-allowed (content a b c decodes is) = (is, tt)

  values-allowed :
      {vs : List (List ℕ)} {d : List Change} → Row allowed vs d → AllByRecursion (Allowed allowed) d
  values-allowed done = tt
  values-allowed (next {d = d} {e = e} m r) =
      All-append (Allowed allowed) d e (means-allowed m) (values-allowed r)

  few-fields :
      (n : ℕ) (s : List ℕ) (d : List Change) → read_list allowed n s ≡ Ok d → n ≤ field_limit
  few-fields n s d =
      let all = read_values allowed 0 n (values s) in
      cond_both (nat_le n field_limit) all (Err uncovered) (λ r. r ≡ Ok d → n ≤ field_limit)
      (λ few _. leb-true n field_limit few) (λ _ e. refused e)

  -- a list that is read holds values of the kind
  pub read-allowed :
      (n : ℕ) (s : List ℕ) (d : List Change) → read_list allowed n s ≡ Ok d
      → AllByRecursion (Allowed allowed) d
  read-allowed n s d read =
      values-allowed ((reads-spelled allowed n s d (few-fields n s d read)).0 read).0.means

  pub filled-allowed :
      (d : List Change) → AllByRecursion (Allowed allowed) d
      → AllByRecursion (Allowed allowed) (filled d)
  filled-allowed d is = All-append (Allowed allowed) d _ is (sames-allowed _)

  cell-changed :
      (c : Cell) (d : Change) → Allowed allowed (becomes c) → Allowed allowed d
      → Allowed allowed (becomes (change_cell c d))
  cell-changed c same is by = is
  cell-changed c (becomes d) is by = by

  pub changed-allowed :
      (cs : List Cell) (ds : List Change) → HoldAllowed allowed cs
      → AllByRecursion (Allowed allowed) ds → HoldAllowed allowed (changed cs ds)
  changed-allowed [] ds is by = tt
  changed-allowed (c ∷ cs) [] is by = is
  changed-allowed (c ∷ cs) (d ∷ ds) is by =
      (cell-changed c d is.0 by.0, changed-allowed cs ds is.1 by.1)

  abbrev CellAllowed : Cell → Type 0
  CellAllowed c = Allowed allowed (becomes c)

  pub row-allowed :
      (i : ℕ) (cs : List Cell) → HoldAllowed allowed cs → HoldAllowed allowed (row_at i cs)
  row-allowed i cs is =
      let n = field_limit * i in
      All-take CellAllowed field_limit (drop n cs) (All-drop CellAllowed n cs is)

  pub with-allowed :
      (i : ℕ) (r cs : List Cell) → HoldAllowed allowed cs → HoldAllowed allowed r
      → HoldAllowed allowed (with_row i r cs)
  with-allowed i r cs is row =
      let n = field_limit * i in
      let rest = drop (n + field_limit) cs in
      All-append CellAllowed (take n cs) (r ++ rest) (All-take CellAllowed n cs is)
      (All-append CellAllowed r rest row (All-drop CellAllowed (n + field_limit) cs is))
