-- A refusal moved to where its part stands, with no place beyond what 64 bits hold.
use Rattle.std.proofs.Common.{◌≡◌, ℕ, ◌+◌, ◌-◌, ◌^◌, ◌≤◌, min, ap, arith}
use Rattle.row.specs.declared.fault.Refusal.{Refusal}
use Rattle.row.specs.Faults.{moved, refusal, saturated}

pub saturated-exact : (n : ℕ) (r : Refusal) → n + r.place ≤ 2 ^ 64 - 1
    → saturated (moved n r) ≡ moved n r
saturated-exact n r h =
    ap (refusal r.fault) (let e : min (n + r.place) (2 ^ 64 - 1) ≡ n + r.place = omega arith in e)
