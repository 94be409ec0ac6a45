-- One turn of the list reader: the next value, and what it leaves of the row.
use Rattle.std.proofs.Common.{◌≡◌, ℕ, suc, ◌+◌, ◌-◌, ◌<◌, ◌≤◌, Bool, eqb, leb, List, [], ◌∷◌, ◌++◌}
use Rattle.std.proofs.Common.{map, length, get_or, set, replicate, Ok, Err, Result, sym, refl, ap}
use Rattle.std.proofs.Common.{◌∙◌, append_assoc, arith}
use Rattle.std.proofs.lemmas.List.{append-nil, set-get_or, length-append, length-replicate}
use Rattle.std.proofs.lemmas.List.{length_push, map-set, set_at, replicate-append-replicate}
use Rattle.std.proofs.lemmas.Bool.{cond-true, cond-false, ne_eqb, le-leb, lt-leb}
use Rattle.row.specs.Kinds.{Kind}
use Rattle.row.specs.Limits.{field_limit}
use Rattle.row.specs.Records.{change_record}
use Rattle.row.specs.Rows.{Change, same}
use Rattle.row.specs.declared.change.Change as memory
use Rattle.row.specs.declared.fault.Refusal.{Refusal}
use Rattle.row.specs.Rows.{filled}
use Rattle.tlcp.specs.Held.{size, size_or, slot_after}
use Rattle.row.specs.Faults.{moved}
use Rattle.tlcp.specs.Lists.{Meant, sames, one, values, read_value, read_values, take_meant, ahead}
use Rattle.tlcp.specs.Lists.{uncovered}
use Rattle.tlcp.proofs.Reading.{refused}
use Rattle.tlcp.proofs.Spelling.{meant_changes}

pub ahead-ahead :
    (d e : List Change) (r : Result (List Change) Refusal) → ahead (d ++ e) r ≡ ahead d (ahead e r)
ahead-ahead d e (Ok c) = ap Ok (append_assoc d e c)
ahead-ahead d e (Err r) = refl

pub length-changes : (m : Meant) → length (meant_changes m) ≡ size m
length-changes (sames n) = length-replicate n same
length-changes (one c) = refl

module _ (allowed : List ℕ → Bool) (at left : ℕ) (v : List ℕ) (vs : List (List ℕ)) (some : 0 < left) where
  abbrev others : ℕ → Result (List Change) Refusal
  others n = read_values allowed (at + length v + 1) n vs

  some_left :
      read_values allowed at left (v ∷ vs) ≡ take_meant left at others (read_value allowed v)
  some_left = cond-false (eqb left 0) (Err uncovered) _ (ne_eqb left 0 (λ z. omega arith))

  pub value-refused :
      (r : Refusal) → read_value allowed v ≡ Err r
      → read_values allowed at left (v ∷ vs) ≡ Err (moved at r)
  value-refused r e = some_left ∙ ap (take_meant left at others) e

  pub value_taken :
      (m : Meant) → read_value allowed v ≡ Ok m → size m ≤ left
      → read_values allowed at left (v ∷ vs)
      ≡ ahead (meant_changes m) (read_values allowed (at + length v + 1) (left - size m) vs)
  value_taken (sames n) e h =
      some_left ∙ ap (take_meant left at others) e ∙ cond-true (leb n left) _ _ (le-leb n left h)
  value_taken (one c) e h = some_left ∙ ap (take_meant left at others) e

  pub value-past :
      (m : Meant) → read_value allowed v ≡ Ok m → left < size m
      → read_values allowed at left (v ∷ vs) ≡ Err uncovered
  value-past (sames n) e h =
      some_left ∙ ap (take_meant left at others) e ∙ cond-false (leb n left) _ _ (lt-leb n left h)
  value-past (one c) e h = absurd (omega arith)

pub size_ok :
    (n : ℕ) (r : Result Meant Refusal) → Ok n ≡ size_or r → (m : Meant) × (r ≡ Ok m) × (n ≡ size m)
size_ok n (Ok m) e = (m, refl, cc)
size_ok n (Err x) e = refused (sym e)

pub size-err : (x : Refusal) (r : Result Meant Refusal) → Err x ≡ size_or r → r ≡ Err x
size-err x (Ok m) e = refused e
size-err x (Err y) e = cc

-- the delta's places after a value that speaks of the fields behind d, the first of which had x
pub slot-taken :
    {R : Type 0} (k : Kind R) (m : Meant) (d : List Change) (x : memory.Change R)
    → length d + size m ≤ field_limit → x ≡ get_or (map (change_record k) (filled d)) (length d) x
    → set (map (change_record k) (filled d)) (length d) (slot_after k (Ok m) x)
    ≡ map (change_record k) (filled (d ++ meant_changes m))
slot-taken k (sames n) d x room read =
    let l = length-append d (replicate n same) ∙ ap (λ j. length d + j) (length-replicate n same) in
    let more : field_limit - length d ≡ n + (field_limit - length (d ++ replicate n same)) = omega arith in
    ap (set (map (change_record k) (filled d)) (length d)) read
    ∙ set-get_or (map (change_record k) (filled d)) (length d) x
    ∙ ap (map (change_record k))
    (ap (λ j. d ++ replicate j same) more
    ∙ ap (λ y. d ++ y) (sym (replicate-append-replicate n (field_limit - length (d ++ replicate n same)) same))
    ∙ sym (append_assoc d (replicate n same) _))
slot-taken k (one c) d x room read =
    let l = length_push d c in
    let more : field_limit - length d ≡ suc (field_limit - length (d ++ c ∷ [])) = omega arith in
    sym (map-set (change_record k) (filled d) (length d) c)
    ∙ ap (map (change_record k))
    (ap (λ j. set (d ++ replicate j same) (length d) c) more
    ∙ set_at d same (replicate (field_limit - length (d ++ c ∷ [])) same) c (length d) refl
    ∙ sym (append_assoc d (c ∷ []) _))

-- the changes read so far, and what is left of the list to say of the other fields
pub record Sofar {R : Type 0} (k : Kind R) (fields : ℕ) (list : List ℕ) (delta : List (memory.Change R)) (covered at : ℕ) (vs : List (List ℕ)) : Type 0 where
  pub changes : List Change
  pub count : covered ≡ length changes
  pub within : covered ≤ fields
  pub holds : delta ≡ map (change_record k) (filled changes)
  pub result :
      read_values k.allowed 0 fields (values list)
      ≡ ahead changes (read_values k.allowed at (fields - covered) vs)

module _ {R : Type 0} (k : Kind R) (fields : ℕ) (list : List ℕ) (delta : List (memory.Change R)) (covered at : ℕ) where
  pub none_left :
      (vs : List (List ℕ)) → Sofar k fields list delta covered at vs → fields ≤ covered
      → 1 ≤ length vs → read_values k.allowed 0 fields (values list) ≡ Err uncovered
  none_left [] s all some = absurd (omega arith)
  none_left (v ∷ vs) s all some =
      let none : fields - covered ≡ 0 = omega arith in
      s.result ∙ ap (λ n. ahead s.changes (read_values k.allowed at n (v ∷ vs))) none

  pub all_read :
      (s : Sofar k fields list delta covered at []) → covered ≡ fields
      → read_values k.allowed 0 fields (values list) ≡ Ok s.changes
  all_read s all =
      let none : fields - covered ≡ 0 = omega arith in
      s.result ∙ ap (λ n. ahead s.changes (read_values k.allowed at n [])) none
      ∙ ap Ok (append-nil s.changes)

  pub not-all :
      Sofar k fields list delta covered at [] → (covered ≡ fields → ⊥)
      → read_values k.allowed 0 fields (values list) ≡ Err uncovered
  not-all s some =
      let h = s.within in
      s.result
      ∙ ap (ahead s.changes) (cond-false (eqb (fields - covered) 0) (Ok []) (Err uncovered) (ne_eqb (fields - covered) 0 (λ z. some (omega arith))))

  -- the next value
  module _ (v : List ℕ) (vs : List (List ℕ)) (s : Sofar k fields list delta covered at (v ∷ vs)) (some : covered < fields) where
    pub next-refused :
        (x : Refusal) → Err x ≡ size_or (read_value k.allowed v)
        → read_values k.allowed 0 fields (values list) ≡ Err (moved at x)
    next-refused x e =
        s.result
        ∙ ap (ahead s.changes) (value-refused k.allowed at (fields - covered) v vs (omega arith) x (size-err x (read_value k.allowed v) e))

    module _ (n : ℕ) (e : Ok n ≡ size_or (read_value k.allowed v)) where
      pub next_past :
          fields - covered < n → read_values k.allowed 0 fields (values list) ≡ Err uncovered
      next_past over =
          let m = size_ok n (read_value k.allowed v) e in
          let is = m.2 in
          s.result
          ∙ ap (ahead s.changes) (value-past k.allowed at (fields - covered) v vs (omega arith) m.0 m.1 (omega arith))

      pub next-taken :
          (x y : memory.Change R) → fields ≤ field_limit → n ≤ fields - covered
          → x ≡ get_or delta covered x → y ≡ slot_after k (read_value k.allowed v) x
          → Sofar k fields list (set delta covered y) (covered + n) (at + length v + 1) vs
      next-taken x y small fits read after =
          let m = size_ok n (read_value k.allowed v) e in
          let is = m.2 in
          let long = length-append s.changes (meant_changes m.0) in
          let short = length-changes m.0 in
          let count = s.count in
          let left : fields - covered - size m.0 ≡ fields - (covered + n) = omega arith in
          let there : x ≡ get_or (map (change_record k) (filled s.changes)) (length s.changes) x = read ∙ (λ i. get_or (s.holds i) (count i) x) in
          record {
            changes = s.changes ++ meant_changes m.0;
            count = omega arith;
            within = omega arith;
            holds =
                (λ i. set (s.holds i) (count i) (after i))
                ∙ (λ i. set (map (change_record k) (filled s.changes)) (length s.changes) (slot_after k (m.1 i) x))
                ∙ slot-taken k m.0 s.changes x (omega arith) there;
            result =
                s.result
                ∙ ap (ahead s.changes) (value_taken k.allowed at (fields - covered) v vs (omega arith) m.0 m.1 (omega arith))
                ∙ ap (λ j. ahead s.changes (ahead (meant_changes m.0) (read_values k.allowed (at + length v + 1) j vs))) left
                ∙ sym (ahead-ahead s.changes (meant_changes m.0) (read_values k.allowed (at + length v + 1) (fields - (covered + n)) vs));
          }
