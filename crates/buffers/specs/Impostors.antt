-- Kinds that the laws refuse.
use Rattle.std.specs.Prelude.{◌≡◌, ℕ, true, false, List, replicate, refl}
use Rattle.std.proofs.Common.{sym, ap, ◌∙◌}
use Rattle.std.proofs.lemmas.Bool.{both_ways}
use Rattle.row.specs.Limits.{field_limit}
use Rattle.row.specs.Rows.{Change, becomes, null, all_same}
use Rattle.row.specs.Taps.{is_tap}
use Rattle.waiting.specs.Lists.{joined}
use Rattle.waiting.specs.Policies.{Policy, Meaning, Put, Lawful, nothing_waits, listed}

-- what is put and taken leaves the list as it is
abbrev pub DropsAll : Policy → Type 0
DropsAll b =
    (m : Meaning) (t : ℕ) (d : List Change) → Put b m t d → listed (b.after m t d) ≡ listed m

-- nothing is ever taken, for any tap
abbrev pub RefusesAll : Policy → Type 0
RefusesAll b = (m : Meaning) (t : ℕ) → is_tap t ≡ true → b.takes m t ≡ false

pub not-dropping : (b : Policy) → DropsAll b → ¬ (Lawful b)
not-dropping b drops law =
    let d = replicate field_limit (becomes null) in
    let taken = law.empty-takes nothing_waits 1 refl refl in
    let put : Put b nothing_waits 1 d =
    record { holdable = law.empty-holds; known = refl; whole = refl; taken = taken } in
    both_ways false refl (sym (ap all_same
    (sym (ap (joined 1) (drops nothing_waits 1 d put)) ∙ law.own-join nothing_waits 1 d put)))

pub not-refusing : (b : Policy) → RefusesAll b → ¬ (Lawful b)
not-refusing b refuses law =
    both_ways (b.takes nothing_waits 1) (refuses nothing_waits 1 refl)
    (law.empty-takes nothing_waits 1 refl refl)
