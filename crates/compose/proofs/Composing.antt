-- A request composed pair by pair: how far it came, and what is left where it stops.
use Rattle.std.proofs.Common.{◌≡◌, ℕ, ◌+◌, ◌-◌, ◌<◌, ◌≤◌, Bool, true, false, cond, not, ◌&&◌, leb}
use Rattle.std.proofs.Common.{List, [], ◌∷◌, ◌++◌, map, length, replicate, is_some, Ok, Err, Result}
use Rattle.std.proofs.Common.{sym, refl, ap, ◌∙◌, subst, ⊎_elim, append_assoc, arith}
use Rattle.std.proofs.lemmas.List.{append-nil, length-append, length-drop, length-take-le}
use Rattle.std.proofs.lemmas.Bool.{and_cases, and_parts, and_from, and_left, and_right, cond-true}
use Rattle.std.proofs.lemmas.Bool.{cond-false, leb-true, leb-false, le-leb, lt-leb}
use Rattle.std.specs.Result.{result_map_both}
use Rattle.std.specs.Prelude.{is_ok}
use Rattle.std.specs.List.{AllByRecursion}
use Rattle.row.specs.declared.fault.Refusal.{Refusal}
use Rattle.tlcp.specs.Lines.{and_then}
use Rattle.tlcp.specs.Written.{placed, fits, no_room}
use Rattle.requests.specs.Asked.{found}
use Rattle.requests.specs.Limits.{value_limit}
use Rattle.requests.specs.Names.{index_of, is_in, parameter_count, parameters_of}
use Rattle.requests.specs.declared.name.Name.{Name}
use Rattle.compose.specs.Written.{Assignment, given_by, head_text, written}
use Rattle.compose.specs.Drafts.{Draft, unbegun, fresh, begin, is_open, addition, has_room}
use Rattle.compose.specs.Drafts.{with_pair, add_answer, add_to, bytes_or, closed, ending}
use Rattle.compose.specs.Drafts.{request_len, left_by, length_or}
use Rattle.compose.specs.Held.{Holds, finish_answer, finish_bytes}
use Rattle.compose.specs.Composed.{add_all, are_short, composes, compose_answer, composed_or}
use Rattle.compose.specs.Composed.{composing, zeroed_or}
use Rattle.compose.proofs.Holding.{written-push, length-padded, holds-finished, holds-fresh}
use Rattle.compose.proofs.Holding.{holds_more, size-more}

pub length-placed : (at : ℕ) (t xs : List ℕ) → at + length t ≤ length xs
    → length (placed at t xs) ≡ length xs
length-placed at t xs room = let h : at ≤ length xs = omega arith in simp
    (length-append, length-take-le, length-drop) (omega arith)

written-front : (name : Name) (xs ys : List Assignment)
    → length (written name xs) ≤ length (written name (xs ++ ys))
written-front name xs [] = omega (arith, ap (λ l. length (written name l)) (append-nil xs))
written-front name xs (y ∷ ys) =
    let one = ap length (written-push name xs y) ∙ length-append (written name xs) _ in
    omega (
      arith,
      written-front name (xs ++ y ∷ []) ys,
      ap (λ l. length (written name l))
          (append_assoc xs (y ∷ []) ys),
    )

written-head : (name : Name) (xs : List Assignment)
    → length (head_text name) ≤ length (written name xs)
written-head name xs = omega
    (arith, written-front name [] xs, ap length (append-nil (head_text name)))

not_short : (xs : List Assignment) (x : Assignment) (ys : List Assignment)
    → leb (length x.value) value_limit ≡ false → are_short (xs ++ x ∷ ys) ≡ false
not_short [] x ys long = and_left _ _ long
not_short (y ∷ xs) x ys long = and_right (leb (length y.value) value_limit) _
    (not_short xs x ys long)

pub are-short : (xs : List Assignment) → AllByRecursion (λ x. length x.value ≤ value_limit) xs
    → are_short xs ≡ true
are-short [] h = refl
are-short (x ∷ xs) h = and_from _ _ (le-leb (length x.value) value_limit h.0) (are-short xs h.1)

-- a writer that is finished leaves the request, and one that is refused what it would leave anyway
pub closed-left : (d : Draft) (other : List ℕ) → d.kept ≡ false → left_by d ≡ other
    → left_by (closed d) ≡ bytes_or other (ending d)
closed-left d other unkept left = by (request_len d.name d.begun d.len)
  where
    bare : (b : Bool) → cond (b && false) (replicate (length d.bytes) 0) d.bytes ≡ d.bytes
    bare true = refl
    bare false = refl

    by : (r : Result ℕ Refusal)
        → left_by (record d { kept = is_ok (result_map_both {E = Refusal} (λ _. d) (λ e. e) r) })
        ≡ bytes_or other (result_map_both (λ _. d) (λ e. e) r)
    by (Ok n) = bare d.begun
    by (Err e) = ap (λ k. left_by (record d { kept = k })) (sym unkept) ∙ left

-- a pair of a parameter that is open is refused only for want of room
abbrev pub settled : Bool → Result (Unit {0}) Refusal
settled f = cond f (Ok tt) (Err no_room)

module _ (name : Name) (out : List ℕ) where
  -- the answer and the bytes of a request with the pairs xs
  abbrev pub Composed : Result Draft Refusal → List Assignment → Type 0
  Composed r xs = (length_or r ≡ compose_answer name xs out)
      × (bytes_or (zeroed_or name out) r ≡ composed_or name xs out)

  -- a request in these bytes with the pairs xs so far
  pub record Reached (d : Draft) (xs : List Assignment) : Type 0 where
    pub holds : Holds d xs
    pub named : d.name ≡ name
    pub long : length d.bytes ≡ length out
    pub fit : fits 0 (head_text name) out ≡ true

  pub not-composed : (xs : List Assignment) → composes name xs out ≡ false
      → Composed (Err no_room) xs
  not-composed xs never = (sym (cond-false _ _ _ never), sym (cond-false _ _ _ never))

  pub begin-reached : fits 0 (head_text name) out ≡ true → Reached (begin name out) []
  begin-reached fit =
      let room : length (head_text name) ≤ length out = omega (arith, leb-true _ _ fit) in
      let fresh = fresh name (length out) in
      subst (λ d. Reached d []) (sym (cond-true _ _ _ fit))
      (record {
        holds = holds-fresh name (length out) room;
        named = refl;
        long = length-padded
            (length out) (head_text name) room;
        fit = fit;
      })

  -- a name that does not fit is refused before all pairs, whatever they are
  pub begin-refused : (xs : List Assignment) → fits 0 (head_text name) out ≡ false
      → Composed (composing name xs out) xs
  begin-refused xs none =
      let less : length out < 0 + length (written name xs) = omega
      (arith, leb-false _ _ none, written-head name xs) in
      let never = not-composed xs (and_right (are_short xs) _ (lt-leb _ _ less)) in
      subst (λ d. Composed (and_then (add_all d xs) ending) xs) (sym (cond-false _ _ _ none))
      (by xs never)
    where
      by : (ys : List Assignment) → Composed (Err no_room) xs
          → Composed (and_then (add_all (unbegun name out) ys) ending) xs
      by [] never = never
      by (y ∷ ys) never = never

  -- the next pair, of a parameter that the name has and no pair before
  module _ (d : Draft) (xs : List Assignment) (x : Assignment)
      (known : is_in x.parameter (parameters_of name) ≡ true)
      (new : is_some (found (map given_by xs) x.parameter) ≡ false) (h : Reached d xs) where
    opens : is_open d x.parameter ≡ true
    opens = and_from _ _ (ap (λ n. is_in x.parameter (parameters_of n)) h.named ∙ known)
        (ap not (h.holds.tally.added x.parameter ∙ new))

    abbrev fit : Bool
    fit = fits d.len (addition d x) d.bytes

    size : d.len + length (addition d x) ≡ length (written name (xs ++ x ∷ []))
    size = size-more d x xs h.holds.tally ∙ ap (λ m. length (written m (xs ++ x ∷ []))) h.named

    pub answered : add_answer d x ≡ settled (has_room d x)
    answered = cond-true d.begun _ _ h.holds.begun ∙ cond-true _ _ _ opens

    added-to : (b : Bool) → has_room d x ≡ b → add_to d x ≡ cond b (with_pair d x) d
    added-to b is = (λ i. cond (h.holds.begun i && (opens i && is i)) (with_pair d x) d)

    pub add-reached : index_of x.parameter < parameter_count → has_room d x ≡ true
        → Reached (add_to d x) (xs ++ x ∷ [])
    add-reached small room =
        let more = holds_more d x xs h.holds small opens room in
        let long = length-placed d.len (addition d x) d.bytes
        (leb-true _ _ (and_parts _ fit room).1) ∙ h.long in
        subst (λ f. Reached f (xs ++ x ∷ [])) (sym (added-to true room))
        (record { holds = more; named = h.named; long = long; fit = h.fit })

    pub add-refused : (rest : List Assignment) → has_room d x ≡ false
        → Composed (Err no_room) (xs ++ x ∷ rest)
    add-refused rest room =
        let more = written-front name (xs ++ x ∷ []) rest in
        let whole = ap (λ l. length (written name l)) (append_assoc xs (x ∷ []) rest) in
        not-composed (xs ++ x ∷ rest)
        (⊎_elim (λ long. and_left _ _ (not_short xs x rest long))
        (λ full. and_right (are_short (xs ++ x ∷ rest)) _
        (lt-leb _ _ (omega (arith, leb-false _ _ full, size, h.long, more, whole))))
        (and_cases (leb (length x.value) value_limit) fit room))

  reached-left : (d : Draft) (xs : List Assignment) → Reached d xs → left_by d ≡ zeroed_or name out
  reached-left d xs h =
      (λ i. cond (h.holds.begun i && not (h.holds.unkept i)) (replicate (h.long i) 0) d.bytes)
      ∙ sym (cond-true _ _ _ h.fit)

  pub finish-composed : (d : Draft) (xs : List Assignment) → Reached d xs → Composed (ending d) xs
  finish-composed d xs h =
      let (answer, bytes) = holds-finished d xs h.holds in
      let t = written d.name xs in
      let text = ap length h.holds.text
      ∙ length-append t (replicate (length d.bytes - length t) 0) in
      let size : length t ≡ length (written name xs) = ap (λ m. length (written m xs)) h.named in
      let room : 0 + length (written name xs) ≤ length out = omega (arith, h.long, size, text) in
      let fit = and_from (are_short xs) _ (are-short xs h.holds.tally.fit.short)
      (le-leb (0 + length (written name xs)) (length out) room) in (
        answer ∙ ap (λ m. finish_answer m xs) h.named ∙ sym (cond-true _ _ _ fit),
        sym (closed-left d (zeroed_or name out) h.holds.unkept (reached-left d xs h)) ∙ bytes
            ∙ (λ i. finish_bytes (h.named i) xs (h.long i)) ∙ sym (cond-true _ _ _ fit),
      )
