-- What reading a list leaves in memory: the delta's changes, as records of a kind of value, in all
-- the places of a row.
use Rattle.std.specs.Prelude.{ℕ, ◌-◌, List, [], ◌++◌, map, length, replicate, Ok, Err, Result}
use Rattle.row.specs.Kinds.{Kind}
use Rattle.row.specs.Limits.{field_limit}
use Rattle.row.specs.Records as records
use Rattle.row.specs.Records.{memory_refusal}
use Rattle.row.specs.Rows as rows
use Rattle.row.specs.Rows.{filled}
use Rattle.row.specs.declared.change.Change.{Change}
use Rattle.row.specs.declared.fault.Refusal.{Refusal}
use Rattle.tlcp.specs.Lists.{Meant, sames, one}

module _ {R : Type 0} (k : Kind R) where
  -- the change of the first field that a value speaks of, which was c
  abbrev pub slot_after : Result Meant Refusal → Change R → Change R
  slot_after (Ok (sames n)) c = c
  slot_after (Ok (one d)) c = records.change_record k d
  slot_after (Err r) c = c

  abbrev pub held_delta : Result (List rows.Change) Refusal → List (Change R)
  held_delta (Ok d) = map (records.change_record k) (filled d)
  held_delta (Err r) = map (records.change_record k) (filled [])

abbrev pub answer_of : Result (List rows.Change) Refusal → Result (Unit {0}) Refusal
answer_of (Ok d) = Ok tt
answer_of (Err r) = Err r

-- how many fields a value speaks of
abbrev pub size : Meant → ℕ
size (sames n) = n
size (one c) = 1

abbrev pub size_or : Result Meant Refusal → Result ℕ Refusal
size_or (Ok m) = Ok (size m)
size_or (Err r) = Err r
