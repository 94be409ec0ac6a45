-- The numbers by which refusals are known, from 1 on, in the order in which the pages list them.
use Rattle.std.specs.Prelude.{◌≡◌, ℕ, false, List, [], ◌∷◌, map, Err}
use Rattle.row.specs.Faults.{accepted, by_numbers, number_of, refusal, refused}
use Rattle.row.specs.Records.{answer_if}
use Rattle.row.specs.Taps.{tap_numbered}
use Rattle.row.specs.declared.fault.Fault.{Fault}
use Rattle.row.specs.declared.fault.Fault.TheVariants.{Memory, Shape, Escape, Number, Unknown}
use Rattle.row.specs.declared.fault.Fault.TheVariants.{Parts, Cover, Value, State, Absent, Order}
use Rattle.row.specs.declared.fault.Fault.TheVariants.{Subscribed, Full, Wire, Nothing, Length}

abbrev pub faults : List Fault
faults =
    Memory ∷ Shape ∷ Escape ∷ Number ∷ Unknown ∷ Parts ∷ Cover ∷ Value ∷ State ∷ Absent ∷ Order ∷
    Subscribed ∷ Full ∷ Wire ∷ Nothing ∷ Length ∷ []

pub record FaultNumbers : Type 0 where
  pub numbers :
      map number_of faults ≡
      1 ∷ 2 ∷ 3 ∷ 4 ∷ 5 ∷ 6 ∷ 7 ∷ 8 ∷ 9 ∷ 10 ∷ 11 ∷ 12 ∷ 13 ∷ 14 ∷ 15 ∷ 16 ∷ []
  -- each is said by its number and its place
  pub each :
      (f : Fault) (at : ℕ) → by_numbers {X = ℕ} (Err (refusal f at)) ≡ refused (number_of f) at
  -- 1 to 8 are taps, and what is none is refused with 10
  pub taps :
      map (λ n. by_numbers (tap_numbered n)) (0 ∷ 1 ∷ 8 ∷ 9 ∷ []) ≡
      refused 10 0 ∷ accepted 1 ∷ accepted 8 ∷ refused 10 0 ∷ []
  -- memory of a wrong length is refused with 1
  pub memory : by_numbers (answer_if false) ≡ refused 1 0
