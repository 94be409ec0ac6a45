-- What memory holds, for a kind that lays out its list there.
use Rattle.std.specs.Prelude.{◌≡◌, List, map}
use Rattle.row.specs.Kinds.{Kind}
use Rattle.row.specs.Records.{change_record}
use Rattle.row.specs.Rows.{Change}
use Rattle.row.specs.declared.change.Change as records
use Rattle.waiting.specs.Lists.{Pair}

-- exactly the records of what the kind lays out for its list
abbrev pub Exact :
    {R : Type 0} → Kind R → (List Pair → List Change) → List (records.Change R) → List Pair → Type 0
Exact k layout memory l = memory ≡ map (change_record k) (layout l)
