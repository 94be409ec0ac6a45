-- Which entry a line speaks to.
use Rattle.std.specs.Prelude.{ℕ, Bool, ◌&&◌, List, Some, None, Option, ◌==◌, get_or, is_some}
use Rattle.std.specs.Prelude.{position}
use Rattle.std.specs.Option.{option_map}
use Rattle.viewer.specs.declared.entry.Entry.{Entry}

-- an entry with this ID
abbrev pub has_id : ℕ → Entry → Bool
has_id id e = e.id == id

-- an open entry with this ID
abbrev pub open_with : ℕ → Entry → Bool
open_with id e = has_id id e && is_some e.fields

-- the index of the first entry that fits
abbrev pub find_entry : (Entry → Bool) → List Entry → Option ℕ
find_entry = position

-- an entry as SUBOK and UNSUB leave it
abbrev pub opened : ℕ → ℕ → Entry
opened id n = record { id = id; fields = Some n }

abbrev pub closed : Entry
closed = record { id = 0; fields = None }

-- an entry that holds an ID, closed
abbrev pub closed_with : ℕ → Entry
closed_with id = record { id = id; fields = None }

-- an entry's index and its field count, if it is open
abbrev pub with_count : List Entry → Option ℕ → Option (ℕ × ℕ)
with_count es None = None
with_count es (Some i) = option_map (λ n. (i, n)) (get_or es i closed).fields

-- the index of the first open entry with an ID, and its field count: a closed entry has none
abbrev pub find_open : ℕ → List Entry → Option (ℕ × ℕ)
find_open id es = with_count es (find_entry (open_with id) es)
