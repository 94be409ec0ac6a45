-- Laws of hearing, in the subject's words: which entry and which row a line changes, and how. They
-- are stated of texts, for every kind of value, every line and every viewer of eight entries.
use Rattle.std.specs.Prelude.{◌≡◌, ◌≢◌, ℕ, ◌+◌, ◌-◌, ◌*◌, ◌<◌, ◌≤◌, Bool, List, [], ◌∷◌, ◌++◌}
use Rattle.std.specs.Prelude.{length}
use Rattle.std.specs.Prelude.{get_or, replicate, Some, None, Ok, Err, Result, IsOkAnd, IsSome}
use Rattle.std.specs.List.{AllByRecursion}
use Rattle.row.specs.Faults.{moved}
use Rattle.row.specs.Limits.{field_limit, tap_limit, cell_limit}
use Rattle.row.specs.RowLaws.{cell_at}
use Rattle.row.specs.Rows.{Cell, Change, null, same, becomes, blank, changed, row_at, with_row}
use Rattle.row.specs.declared.fault.Refusal.{Refusal}
use Rattle.tlcp.specs.Lines.{Argument, Message, numbered, listed, read_line, Says}
use Rattle.tlcp.specs.Lists.{Allowed, read_list, Spells}
use Rattle.tlcp.specs.Parts.{Piece}
use Rattle.tlcp.specs.declared.tag.Tag.{Tag}
use Rattle.tlcp.specs.declared.tag.Tag.TheVariants.{U, Unsub, Subok}
use Rattle.viewer.specs.Effects.{Effect, opens, closes, updates, nothing}
use Rattle.viewer.specs.Entries.{closed}
use Rattle.viewer.specs.Hearing.{View, hear, after_lines}
use Rattle.viewer.specs.declared.entry.Entry.{Entry}
use Rattle.viewer.specs.declared.hear.Heard.{Heard}
use Rattle.viewer.specs.declared.hear.Heard.TheVariants.{Taken, Passed}

abbrev pub message : Tag → Piece → List Argument → Message
message t name args = record { tag = t; name = name; args = args }

-- what a line asks, by the grammar of lines
pub data Asks (line : List ℕ) : Effect → Type 0 where
  -- SUBOK: a subscription ID, the item count and a field count
  subok :
      {name p q r : Piece} {id items n : ℕ}
      → Says line (message Subok name (numbered p id ∷ numbered q items ∷ numbered r n ∷ []))
      → Asks line (opens id n)
  -- UNSUB: a subscription ID
  unsub :
      {name p : Piece} {id : ℕ} → Says line (message Unsub name (numbered p id ∷ []))
      → Asks line (closes id)
  -- U: a subscription ID, the item and a value list
  update :
      {name p q list : Piece} {id item : ℕ}
      → Says line (message U name (numbered p id ∷ numbered q item ∷ listed list ∷ []))
      → Asks line (updates id list)
  -- any other message
  other :
      {m : Message} → Says line m → m.tag ≢ Subok → m.tag ≢ Unsub → m.tag ≢ U
      → Asks line nothing

-- each line that is read asks one thing
abbrev pub AsksOne : Type 0
AsksOne =
    (line : List ℕ) (m : Message) → read_line line ≡ Ok m → (asked : Effect) × Asks line asked

abbrev pub entry_at : List Entry → ℕ → Entry
entry_at es i = get_or es i closed

-- an entry that a line speaks to: for SUBOK and UNSUB one with its ID, for U an open one with it
abbrev pub Fits : Effect → Entry → Type 0
Fits (opens id n) e = e.id ≡ id
Fits (closes id) e = e.id ≡ id
Fits (updates id list) e = (e.id ≡ id) × IsSome e.fields
Fits nothing e = ⊥

abbrev pub NoneFits : Effect → List Entry → Type 0
NoneFits asked es = (i : ℕ) → i < length es → Fits asked (entry_at es i) → ⊥

-- the entry with index i is the first that fits
pub record First (asked : Effect) (es : List Entry) (i : ℕ) : Type 0 where
  pub inside : i < length es
  pub here : Fits asked (entry_at es i)
  pub none-before : (j : ℕ) → j < i → Fits asked (entry_at es j) → ⊥

-- cells that hold no values but those of the kind
abbrev pub HoldAllowed : (List ℕ → Bool) → List Cell → Type 0
HoldAllowed allowed cs = AllByRecursion (λ c. Allowed allowed (becomes c)) cs

module _ (es : List Entry) (cs : List Cell) where
  -- the entry with index j and its row are as they were
  abbrev pub Stays : ℕ → View → Type 0
  Stays j v = (entry_at v.entries j ≡ entry_at es j) × (row_at j v.cells ≡ row_at j cs)

  -- the entry with index i is e now, its row is r, and the line brought the delta d; the other
  -- entries and rows are as they were
  pub record Sets (i : ℕ) (e : Entry) (r : List Cell) (d : List Change) (v : View) : Type 0 where
    pub entry : entry_at v.entries i ≡ e
    pub row : row_at i v.cells ≡ r
    pub brought : v.brought ≡ d
    pub taken : v.answer ≡ Taken
    pub others : (j : ℕ) → j ≢ i → Stays j v

  -- all is as it was, and the line brought nothing
  pub record Unchanged (a : Heard) (v : View) : Type 0 where
    pub entries : v.entries ≡ es
    pub cells : v.cells ≡ cs
    pub brought : v.brought ≡ blank
    pub answer : v.answer ≡ a

  module _ (allowed : List ℕ → Bool) (line : List ℕ) where
    abbrev told : Result View Refusal
    told = hear allowed es cs line

    pub record KeepsLaws : Type 0 where
      -- after SUBOK the first entry with its ID is open with the field count and its row null,
      -- whether it was open before or not
      pub subok :
          (id n i : ℕ) → Asks line (opens id n) → First (opens id n) es i
          → IsOkAnd told
          (Sets i (record { id = id; fields = Some n }) (replicate field_limit null) blank)
      -- after UNSUB the first entry with its ID has the ID 0 and is closed, and its row is null
      pub unsub :
          (id i : ℕ) → Asks line (closes id) → First (closes id) es i
          → IsOkAnd told
          (Sets i (record { id = 0; fields = None }) (replicate field_limit null) blank)
      -- after U the row of the first open entry with its ID is changed by the delta that the list
      -- spells, one change for each of the entry's fields, and that delta was brought, with same
      -- behind it
      pub update :
          (id n i : ℕ) (list : Piece) (d : List Change) → Asks line (updates id list)
          → First (updates id list) es i → (entry_at es i).fields ≡ Some n → n ≤ field_limit
          → Spells allowed list.text d → length d ≡ n
          → IsOkAnd told
          (Sets i (entry_at es i) (changed (row_at i cs) d)
          (d ++ replicate (field_limit - n) same))
      -- where its list is refused for that many fields, U is refused, with the list's fault
      -- at its place in the line
      pub unspelled :
          (id n i : ℕ) (list : Piece) (r : Refusal) → Asks line (updates id list)
          → First (updates id list) es i → (entry_at es i).fields ≡ Some n
          → read_list allowed n list.text ≡ Err r → told ≡ Err (moved list.at r)
      -- where no entry fits, such a line is accepted and passed over, whatever its list is
      pub passed :
          (asked : Effect) → Asks line asked → asked ≢ nothing → NoneFits asked es
          → IsOkAnd told (Unchanged Passed)
      -- and no other line is
      pub passed-only :
          (asked : Effect) (v : View) → Asks line asked → told ≡ Ok v → v.answer ≡ Passed
          → (asked ≢ nothing) × NoneFits asked es
      -- any other line changes nothing
      pub idle : Asks line nothing → IsOkAnd told (Unchanged Taken)
      -- a line that is no message is refused, with the reader's fault
      pub unread : (r : Refusal) → read_line line ≡ Err r → told ≡ Err r
      -- an entry that a line does not speak to stays, and so does its row
      pub others :
          (asked : Effect) (v : View) (j : ℕ) → Asks line asked → told ≡ Ok v
          → (Fits asked (entry_at es j) → ⊥) → Stays j v
      -- and a line changes no more than one entry and its row
      pub one : (v : View) → told ≡ Ok v → (i : ℕ) × ((j : ℕ) → j ≢ i → Stays j v)
      pub lengths :
          (v : View) → told ≡ Ok v
          → (length v.entries ≡ length es) × (length v.cells ≡ length cs)
      -- what comes into the cells, and what a line brings, are values of the kind
      pub values :
          (v : View) → told ≡ Ok v → HoldAllowed allowed cs
          → HoldAllowed allowed v.cells × AllByRecursion (Allowed allowed) v.brought

abbrev pub HearingLaws : Type 0
HearingLaws =
    (allowed : List ℕ → Bool) (es : List Entry) (cs : List Cell) (line : List ℕ)
    → length es ≡ tap_limit → length cs ≡ cell_limit → KeepsLaws es cs allowed line

-- lines are heard one after another, and a refused one changes nothing
pub record LinesLaws : Type 0 where
  pub none :
      (allowed : List ℕ → Bool) (v : List Entry × List Cell) → after_lines allowed v [] ≡ v
  pub accepted :
      (allowed : List ℕ → Bool) (es : List Entry) (cs : List Cell) (line : List ℕ)
      (lines : List (List ℕ)) (v : View) → hear allowed es cs line ≡ Ok v
      → after_lines allowed (es, cs) (line ∷ lines) ≡ after_lines allowed (v.entries, v.cells) lines
  pub refused :
      (allowed : List ℕ → Bool) (es : List Entry) (cs : List Cell) (line : List ℕ)
      (lines : List (List ℕ)) (r : Refusal) → hear allowed es cs line ≡ Err r
      → after_lines allowed (es, cs) (line ∷ lines) ≡ after_lines allowed (es, cs) lines

-- rows of two taps share no cell
pub record RowsApart : Type 0 where
  -- the field f of the row with index i, both counted from 0, is the cell 12 * i + f
  pub place :
      (cs : List Cell) (i f : ℕ) → f < field_limit
      → cell_at (row_at i cs) f ≡ cell_at cs (field_limit * i + f)
  -- no other field of any row is that cell
  pub apart :
      (i j f g : ℕ) → f < field_limit → g < field_limit
      → field_limit * i + f ≡ field_limit * j + g → (i ≡ j) × (f ≡ g)
  -- a row that was set is there, and every other row is as it was
  pub set :
      (cs r : List Cell) (i : ℕ) → length cs ≡ cell_limit → length r ≡ field_limit → i < tap_limit
      → row_at i (with_row i r cs) ≡ r
  pub others :
      (cs r : List Cell) (i j : ℕ) → length cs ≡ cell_limit → length r ≡ field_limit
      → i < tap_limit → j ≢ i → row_at j (with_row i r cs) ≡ row_at j cs
