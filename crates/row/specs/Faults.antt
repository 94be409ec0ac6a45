-- The number of each refusal, and how a refusal is printed.
use Rattle.std.specs.Prelude.{ℕ, ◌+◌, ◌-◌, ◌^◌, List, ◌∷◌, ◌++◌, Ok, Err, Result, decimal, min}
use Rattle.row.specs.declared.fault.Fault.{Fault}
use Rattle.row.specs.declared.fault.Refusal.{Refusal}
use Rattle.row.specs.declared.fault.Fault.TheVariants.{Memory, Shape, Escape, Number, Unknown}
use Rattle.row.specs.declared.fault.Fault.TheVariants.{Parts, Cover, Value, State, Absent, Order}
use Rattle.row.specs.declared.fault.Fault.TheVariants.{Subscribed, Full, Wire, Nothing, Length}

abbrev pub number_of : Fault → ℕ
number_of Memory = 1
number_of Shape = 2
number_of Escape = 3
number_of Number = 4
number_of Unknown = 5
number_of Parts = 6
number_of Cover = 7
number_of Value = 8
number_of State = 9
number_of Absent = 10
number_of Order = 11
number_of Subscribed = 12
number_of Full = 13
number_of Wire = 14
number_of Nothing = 15
number_of Length = 16

-- a fault at a place of a text, or at 0 where it has no place there
abbrev pub refusal : Fault → ℕ → Refusal
refusal f at = record { fault = f; place = at }

-- an answer by its numbers: what was accepted, or a refusal's number and place
pub data Answer (X : Type 0) : Type 0 where
  accepted : X → Answer X
  refused : ℕ → ℕ → Answer X

abbrev pub by_numbers : {X : Type 0} → Result X Refusal → Answer X
by_numbers (Ok x) = accepted x
by_numbers (Err r) = refused (number_of r.fault) r.place

-- the fault's number, a space and the place
abbrev pub printed : Refusal → List ℕ
printed r = decimal (number_of r.fault) ++ 32 ∷ decimal r.place

-- the refusal of a part that begins at a place of a text, as one of the text
abbrev pub moved : ℕ → Refusal → Refusal
moved start r = refusal r.fault (start + r.place)

-- the same refusal where places count up to what 64 bits hold
abbrev pub saturated : Refusal → Refusal
saturated r = refusal r.fault (min r.place (2 ^ 64 - 1))
