-- Which numbers are a tap's.
use Rattle.std.specs.Prelude.{ℕ, Bool, cond, ◌&&◌, nat_le, Result, Ok, Err}
use Rattle.row.specs.Faults.{refusal}
use Rattle.row.specs.Limits.{tap_limit}
use Rattle.row.specs.declared.fault.Fault.TheVariants.{Absent}
use Rattle.row.specs.declared.fault.Refusal.{Refusal}

abbrev pub is_tap : ℕ → Bool
is_tap n = nat_le 1 n && nat_le n tap_limit

-- a number, if it is a tap's
abbrev pub tap_numbered : ℕ → Result ℕ Refusal
tap_numbered n = cond (is_tap n) (Ok n) (Err (refusal Absent 0))
