-- Value lists: between the pipes of a list stand its values, and the reader takes exactly those
-- that mean changes.
use Rattle.std.proofs.Common.{◌≡◌, ℕ, ◌+◌, ◌-◌, ◌≤◌, Bool, true, false, ◌&&◌, eqb, leb, List, []}
use Rattle.std.proofs.Common.{◌∷◌, ◌++◌, length, replicate, Some, None, Ok, Err, decimal, Option}
use Rattle.std.proofs.Common.{Result, sym, refl, ap, ◌∙◌, subst, arith, lit<}
use Rattle.std.proofs.lemmas.List.{length-append, length-replicate, nil_from_length}
use Rattle.std.proofs.lemmas.Bool.{cond_both, cond-true, cond-false, and_parts, eqb-true, eqb-false}
use Rattle.std.proofs.lemmas.Bool.{ne_eqb, leb-true, le-leb}
use Rattle.row.specs.Limits.{field_limit}
use Rattle.row.specs.Rows.{Change, same, becomes, null, value}
use Rattle.row.specs.declared.fault.Refusal.{Refusal}
use Rattle.tlcp.specs.Escapes.{decoded}
use Rattle.tlcp.specs.Lists.{values, Meant, sames, one, read_text, text_or, caret_or, read_value}
use Rattle.tlcp.specs.Lists.{take_meant, ahead, read_values, Means, unchanged, run, nothing, empty}
use Rattle.tlcp.specs.Lists.{content, Row, done, next, ReadsLists}
use Rattle.tlcp.specs.Parts.{is_nil}
use Rattle.tlcp.specs.Numbers.{read_number}
use Rattle.tlcp.proofs.Dividing.{divided-joined, divided-some, divided-apart, joined-divided}
use Rattle.tlcp.proofs.Numerals.{reads-decimal}
use Rattle.tlcp.proofs.Reading.{ahead-ok, refused, same-from-ok}
use Rattle.tlcp.proofs.Unescaped.{reads-escapes}

-- the changes that a value means
abbrev pub meant_changes : Meant → List Change
meant_changes (sames n) = replicate n same
meant_changes (one c) = c ∷ []

module _ (allowed : List ℕ → Bool) where
  -- a value that is read as m means what m says
  abbrev Faithful : List ℕ → Result Meant Refusal → Type 0
  Faithful v r = (m : Meant) → r ≡ Ok m → Means allowed v (meant_changes m)

  faithful-ok : {v : List ℕ} {m : Meant} → Means allowed v (meant_changes m) → Faithful v (Ok m)
  faithful-ok {v} h n e = subst (λ k. Means allowed v (meant_changes k)) (same-from-ok e) h

  faithful-text :
      {v t : List ℕ} → (allowed t ≡ true → Means allowed v (becomes (value t) ∷ []))
      → Faithful v (read_text allowed t)
  faithful-text {v} {t} h =
      cond_both (allowed t) _ _ (Faithful v) (λ e. faithful-ok (h e)) (λ _ _ e. refused e)

  faithful-caret :
      (v : List ℕ) (o : Option ℕ) → read_number 1 field_limit v ≡ o → Faithful (94 ∷ v) (caret_or o)
  faithful-caret v None is = λ _ e. refused e
  faithful-caret v (Some n) is =
      let h = (reads-decimal 1 field_limit n v (lit< tt)).0 is in
      faithful-ok (rw h.0 (run h.1 h.2))

  faithful-content :
      {b : ℕ} {v : List ℕ} → eqb b 94 ≡ false → (eqb b 35 && is_nil v) ≡ false
      → (eqb b 36 && is_nil v) ≡ false → (o : Option ℕ) → (decoded (b ∷ v)).fault ≡ o
      → Faithful (b ∷ v) (text_or allowed (decoded (b ∷ v)).bytes o)
  faithful-content caret hash dollar (Some at) is = λ _ e. refused e
  faithful-content {b} {v} caret hash dollar None is =
      let t = (decoded (b ∷ v)).bytes in
      faithful-text (content caret hash dollar ((reads-escapes (b ∷ v) t).0 (λ i. record { bytes = t; fault = is i })))

  -- the value is the byte x alone
  alone :
      {b x : ℕ} {v : List ℕ} {d : List Change} → (eqb b x && is_nil v) ≡ true
      → Means allowed (x ∷ []) d → Means allowed (b ∷ v) d
  alone {b} {x} {v} is h =
      let two = and_parts (eqb b x) (is_nil v) is in
      rw (eqb-true b x two.0, nil_from_length v (eqb-true (length v) 0 two.1)) h

  faithful : (v : List ℕ) → Faithful v (read_value allowed v)
  faithful [] = faithful-ok unchanged
  faithful (b ∷ v) =
      cond_both (eqb b 94) _ _ (Faithful (b ∷ v))
      (λ is. rw (eqb-true b 94 is) (faithful-caret v (read_number 1 field_limit v) refl))
      (λ caret.
      cond_both (eqb b 35 && is_nil v) _ _ (Faithful (b ∷ v))
      (λ is. faithful-ok (alone is nothing))
      (λ hash.
      cond_both (eqb b 36 && is_nil v) _ _ (Faithful (b ∷ v))
      (λ is. faithful-text (λ e. alone is (empty e)))
      (λ dollar. faithful-content caret hash dollar (decoded (b ∷ v)).fault refl)))

  -- a value that means d is read as something that says d
  read :
      {v : List ℕ} {d : List Change} → Means allowed v d
      → (m : Meant) × (read_value allowed v ≡ Ok m) × (meant_changes m ≡ d)
  read unchanged = (sames 1, refl, refl)
  read (run {n =
      n} low high) = (sames n, ap caret_or ((reads-decimal 1 field_limit n (decimal n) (lit< tt)).1 refl low high), refl)
  read nothing = (one (becomes null), refl, refl)
  read (empty e) = (one (becomes (value [])), cond-true (allowed []) _ _ e, refl)
  read (content {b = b} {v = v} {t = t} caret hash dollar h e) = (
    one (becomes (value t)),
    cond-false (eqb b 94) _ _ caret
        ∙ cond-false (eqb b 35 && is_nil v) _ _ hash
        ∙ cond-false (eqb b 36 && is_nil v) _ _ dollar
        ∙ ap (λ d. text_or allowed d.bytes d.fault) ((reads-escapes (b ∷ v) t).1 h)
        ∙ cond-true (allowed t) _ _ e,
    refl,
  )

  -- the values mean d, and d has so many changes
  abbrev Covers : List (List ℕ) → ℕ → List Change → Type 0
  Covers vs n d = Row allowed vs d × (length d ≡ n)

  -- one value more, which means c
  covers-next :
      {v : List ℕ} {vs : List (List ℕ)} {c d : List Change} {n left : ℕ}
      (r : Result (List Change) Refusal)
      → Means allowed v c → length c ≡ n → n ≤ left
      → ((e : List Change) → r ≡ Ok e → Covers vs (left - n) e) → ahead c r ≡ Ok d
      → Covers (v ∷ vs) left d
  covers-next {v} {vs} {c} {d} {n} {left} r h size room rest is =
      let f = ahead-ok c d r is in
      let more = rest f.0 f.1 in
      let long : length (c ++ f.0) ≡ left = length-append c f.0 ∙ omega (arith, more.1) in
      subst (Covers (v ∷ vs) left) f.2 (next h more.0, long)

  covers-taken :
      {v : List ℕ} {vs : List (List ℕ)} {d : List Change} (left at : ℕ)
      (rest : ℕ → Result (List Change) Refusal) (r : Result Meant Refusal)
      → eqb left 0 ≡ false → Faithful v r
      → ((n : ℕ) (e : List Change) → rest n ≡ Ok e → Covers vs n e)
      → take_meant left at rest r ≡ Ok d → Covers (v ∷ vs) left d
  covers-taken left at rest (Err r) some h more = λ is. refused is
  covers-taken {v} {vs} {d} left at rest (Ok (sames n)) some h more =
      cond_both (leb n left) _ _ (λ r. r ≡ Ok d → Covers (v ∷ vs) left d)
      (λ room. covers-next (rest (left - n)) (h (sames n) refl) (length-replicate n same) (leb-true n left room) (more (left - n)))
      (λ _ is. refused is)
  covers-taken left at rest (Ok (one c)) some h more =
      let left_one : 1 ≤ left = omega (arith, eqb-false left 0 some) in
      covers-next (rest (left - 1)) (h (one c) refl) refl left_one (more (left - 1))

  covers :
      (vs : List (List ℕ)) (at left : ℕ) (d : List Change) → read_values allowed at left vs ≡ Ok d
      → Covers vs left d
  covers [] at left d =
      cond_both (eqb left 0) _ _ (λ r. r ≡ Ok d → Covers [] left d)
      (λ is e. subst (Covers [] left) (same-from-ok e) (done, sym (eqb-true left 0 is)))
      (λ _ e. refused e)
  covers (v ∷ vs) at left d =
      let rest = λ (n : ℕ). read_values allowed (at + length v + 1) n vs in
      cond_both (eqb left 0) _ _ (λ r. r ≡ Ok d → Covers (v ∷ vs) left d)
      (λ _ e. refused e)
      (λ some. covers-taken left at rest (read_value allowed v) some (faithful v) (covers vs (at + length v + 1)))

  -- the changes of m and then e are as many as were to be covered
  takes :
      (m : Meant) (e : List Change) (at left : ℕ) (rest : ℕ → Result (List Change) Refusal)
      → left ≡ length (meant_changes m ++ e) → rest (length e) ≡ Ok e
      → take_meant left at rest (Ok m) ≡ Ok (meant_changes m ++ e)
  takes (sames n) e at left rest size is =
      let long = length-append (replicate n same) e in
      let run_long = length-replicate n same in
      let room : left - n ≡ length e = omega arith in
      cond-true (leb n left) _ _ (le-leb n left (omega arith))
      ∙ ap (ahead (replicate n same)) (ap rest room ∙ is)
  takes (one c) e at left rest size is =
      let room : left - 1 ≡ length e = omega arith in
      ap (ahead (c ∷ [])) (ap rest room ∙ is)

  means-some : {v : List ℕ} {d : List Change} → Means allowed v d → 1 ≤ length d
  means-some unchanged = omega arith
  means-some (run {n = n} low high) = rw length-replicate low
  means-some nothing = omega arith
  means-some (empty e) = omega arith
  means-some (content caret hash dollar h e) = omega arith

  reads-row :
      {vs : List (List ℕ)} {d : List Change} → Row allowed vs d → (at : ℕ)
      → read_values allowed at (length d) vs ≡ Ok d
  reads-row done at = refl
  reads-row (next {v = v} {vs = vs} {d = d} {e = e} h r) at =
      let rest = λ (n : ℕ). read_values allowed (at + length v + 1) n vs in
      let m = read h in
      let some : eqb (length (d ++ e)) 0 ≡ false = ne_eqb (length (d ++ e)) 0 (λ z. omega (arith, means-some h, length-append d e)) in
      cond-false (eqb (length (d ++ e)) 0) _ _ some
      ∙ ap (take_meant (length (d ++ e)) at rest) m.1
      ∙ takes m.0 e at (length (d ++ e)) rest (ap (λ c. length (c ++ e)) (sym m.2)) (reads-row r (at + length v + 1))
      ∙ ap (λ c. Ok (c ++ e)) m.2

pub reads-spelled : ReadsLists
reads-spelled allowed fields s d few =
    let small = le-leb fields field_limit few in (
      λ is.
          let h = covers allowed (values s) 0 fields d (sym (cond-true (leb fields field_limit) _ _ small) ∙ is) in (
            record {
              parts =
                  values s;
              some = divided-some 124 s;
              apart = divided-apart 124 s;
              whole = sym (joined-divided 124 s);
              means = h.0;
            },
            h.1,
          ),
      λ h long.
          let parts : values s ≡ h.parts = ap values h.whole ∙ divided-joined 124 h.parts h.some h.apart in
          cond-true (leb fields field_limit) _ _ small
          ∙ (λ i. read_values allowed 0 (sym long i) (parts i))
          ∙ reads-row allowed h.means 0,
    )
