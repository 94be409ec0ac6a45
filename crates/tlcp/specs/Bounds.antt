-- Bytes up to a limit, and bytes appended to them where there is room.
use Rattle.std.specs.Prelude.{◌≡◌, ℕ, ◌+◌, Bool, cond, List, ◌++◌, length, take, Some, None, Ok}
use Rattle.std.specs.Prelude.{Err, Option, Result, ◌==◌, nat_le}
use Rattle.row.specs.Kinds.{Kind}
use Rattle.row.specs.Limits.{field_limit}
use Rattle.row.specs.Records.{memory_refusal}
use Rattle.row.specs.declared.change.Change.{Change}
use Rattle.row.specs.declared.fault.Fault.TheVariants.{Escape}
use Rattle.row.specs.declared.fault.Refusal.{Refusal}
use Rattle.tlcp.specs.Escapes.{decoded}
use Rattle.row.specs.Faults.{refusal}
use Rattle.tlcp.specs.Lists.{uncovered, written_list}
use Rattle.tlcp.specs.Written.{changes_of, covers, no_room}
use Rattle.tlcp.specs.declared.bounded.Bounded.{Bounded}

abbrev pub bounded_text : {N : ℕ} → Bounded N → List ℕ
bounded_text b = take b.len b.bytes

abbrev pub has_room : ℕ → List ℕ → List ℕ → Bool
has_room limit s t = nat_le (length s + length t) limit

abbrev pub room_answer : ℕ → List ℕ → List ℕ → Result (Unit {0}) Refusal
room_answer limit s t = cond (has_room limit s t) (Ok tt) (Err no_room)

-- s and then t, if there is room for both
abbrev pub extended : ℕ → List ℕ → List ℕ → List ℕ
extended limit s t = cond (has_room limit s t) (s ++ t) s

-- the bytes that a text with escapes stands for, if they are within the limit
abbrev pub within_or : ℕ → List ℕ → Option ℕ → Result (Option (List ℕ)) Refusal
within_or limit t None = Ok (cond (nat_le (length t) limit) (Some t) None)
within_or limit t (Some at) = Err (refusal Escape at)

abbrev pub decoded_within : ℕ → List ℕ → Result (Option (List ℕ)) Refusal
decoded_within limit s = within_or limit (decoded s).bytes (decoded s).fault

-- t was appended to s, which gave u
pub record Adds (s t : List ℕ) (r : Result (Unit {0}) Refusal) (u : List ℕ) : Type 0 where
  pub done : r ≡ Ok tt
  pub text : u ≡ s ++ t

module _ {R : Type 0} (k : Kind R) where
  -- the same of the changes of a delta's first fields, as a list
  abbrev pub list_room_answer : ℕ → List ℕ → List (Change R) → ℕ → Result (Unit {0}) Refusal
  list_room_answer limit s delta fields =
      let answer = room_answer limit s (written_list (changes_of k delta fields)) in
      cond (length delta == field_limit) (cond (covers fields) answer (Err uncovered))
      (Err memory_refusal)

  abbrev pub list_extended : ℕ → List ℕ → List (Change R) → ℕ → List ℕ
  list_extended limit s delta fields =
      let longer = extended limit s (written_list (changes_of k delta fields)) in
      cond (length delta == field_limit) (cond (covers fields) longer s) s
