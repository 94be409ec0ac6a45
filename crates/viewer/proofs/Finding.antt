-- The entry that a line speaks to is the one that a search finds.
use Rattle.std.proofs.Common.{◌≡◌, ℕ, zero, suc, ◌+◌, ◌≤◌, ◌<◌, Bool, true, false, not, List, []}
use Rattle.std.proofs.Common.{◌∷◌}
use Rattle.std.proofs.Common.{length, get_or, is_some, Option, Some, None, refl, ap, ◌∙◌, arith}
use Rattle.std.proofs.Common.{⊎_elim, not-suc-le-zero, le_of_suc-le-suc}
use Rattle.std.specs.Prelude.{position, IsSome}
use Rattle.std.specs.List.{position_or_len}
use Rattle.std.proofs.lemmas.Bool.{cases_lt, cond_both, cond-true, cond-false, lt-ltb, le-ltb}
use Rattle.std.proofs.lemmas.Bool.{false_from_ne_true, both_ways, not-true, eqb-true, eq-eqb}
use Rattle.std.proofs.lemmas.Bool.{and_parts, and_from}
use Rattle.std.proofs.lemmas.List.Quantifiers.{position-Some}
use Rattle.viewer.specs.Effects.{Effect, opens, closes, updates, nothing}
use Rattle.viewer.specs.Entries.{has_id, open_with, closed}
use Rattle.viewer.specs.Laws.{Fits, First, NoneFits, entry_at}
use Rattle.viewer.specs.declared.entry.Entry.{Entry}

module _ {X : Type 0} (p : X → Bool) (d : X) where
  -- no element passes a test, or the one that the search finds is the first
  pub data Search (xs : List X) : Type 0 where
    nowhere :
        position p xs ≡ None → ((j : ℕ) → j < length xs → p (get_or xs j d) ≡ false) → Search xs
    at :
        {i : ℕ} → position p xs ≡ Some i → i < length xs → p (get_or xs i d) ≡ true
        → ((j : ℕ) → j < i → p (get_or xs j d) ≡ false) → Search xs

  first_below :
      (xs : List X) (i : ℕ) → i < length xs → p (get_or xs i d) ≡ true → position_or_len p xs ≤ i
  first_below [] i h e = absurd (not-suc-le-zero h)
  first_below (x ∷ xs) zero h e =
      cond_both (not (p x)) (1 + position_or_len p xs) 0 (λ n. n ≤ 0)
      (λ f. absurd (both_ways (p x) (not-true (p x) f) e)) (λ _. omega arith)
  first_below (x ∷ xs) (suc i) h e =
      let below = first_below xs i (le_of_suc-le-suc h) e in
      cond_both (not (p x)) (1 + position_or_len p xs) 0 (λ n. n ≤ suc i)
      (λ _. omega arith) (λ _. omega arith)

  pub search-ends : (xs : List X) → Search xs
  search-ends xs =
      let n = position_or_len p xs in
      ⊎_elim
      (λ (lt : n < length xs).
      let is : position p xs ≡ Some n = cond-true _ (Some n) None (lt-ltb n (length xs) lt) in
      let h = position-Some p xs n d is in
      at is lt h.1 h.2)
      (λ (ge : length xs ≤ n).
      nowhere (cond-false _ (Some n) None (le-ltb n (length xs) ge))
      (λ j h. false_from_ne_true (p (get_or xs j d))
      (λ e. let below = first_below xs j h e in absurd (omega arith))))
      (cases_lt n (length xs))

-- which entries a line fits, as the search tests it
abbrev test : Effect → Entry → Bool
test (opens id n) e = has_id id e
test (closes id) e = has_id id e
test (updates id list) e = open_with id e
test nothing e = false

pub true-some : {X : Type 0} (o : Option X) → IsSome o → (x : X) × (o ≡ Some x)
true-some None e = absurd (both_ways false refl e)
true-some (Some x) e = (x, refl)

fits-true : (asked : Effect) (e : Entry) → Fits asked e → test asked e ≡ true
fits-true (opens id n) e h = eq-eqb e.id id h
fits-true (closes id) e h = eq-eqb e.id id h
fits-true (updates id list) e h = and_from (has_id id e) (is_some e.fields) (eq-eqb e.id id h.0) h.1
fits-true nothing e h = absurd h

true-fits : (asked : Effect) (e : Entry) → test asked e ≡ true → Fits asked e
true-fits (opens id n) e h = eqb-true e.id id h
true-fits (closes id) e h = eqb-true e.id id h
true-fits (updates id list) e h =
    let (is, some) = and_parts (has_id id e) (is_some e.fields) h in
    (eqb-true e.id id is, some)
true-fits nothing e h = absurd (both_ways false refl h)

module _ (asked : Effect) (es : List Entry) where
  abbrev pub found : Option ℕ
  found = position (test asked) es

  false-not : (i : ℕ) → test asked (entry_at es i) ≡ false → Fits asked (entry_at es i) → ⊥
  false-not i e h = both_ways (test asked (entry_at es i)) e (fits-true asked (entry_at es i) h)

  -- no entry fits and none is found, or the first one that fits
  pub data Finds : Type 0 where
    none : found ≡ None → NoneFits asked es → Finds
    one : {i : ℕ} → found ≡ Some i → First asked es i → Finds

  ends-finds : Search (test asked) closed es → Finds
  ends-finds (nowhere is all) = none is (λ i inside. false-not i (all i inside))
  ends-finds (at {i} is inside here before) =
      one is
      (record {
        inside = inside;
        here = true-fits asked (entry_at es i) here;
        none-before = λ j lt. false-not j (before j lt);
      })

  pub finds : Finds
  finds = ends-finds (search-ends (test asked) closed es)

  same-first : (i j : ℕ) → First asked es i → First asked es j → i ≡ j
  same-first i j f g =
      let below : i < j → ⊥ = λ lt. g.none-before i lt f.here in
      let above : j < i → ⊥ = λ lt. f.none-before j lt g.here in
      ⊎_elim (λ lt. absurd (below lt))
      (λ ge.
      ⊎_elim (λ lt. absurd (above lt)) (λ le. let e : i ≡ j = omega arith in e) (cases_lt j i))
      (cases_lt i j)

  found-first : (i : ℕ) → First asked es i → Finds → found ≡ Some i
  found-first i first (none is all) = absurd (all i first.inside first.here)
  found-first i first (one {i = j} is other) = is ∙ ap Some (same-first j i other first)

  found-none : NoneFits asked es → Finds → found ≡ None
  found-none all (none is _) = is
  found-none all (one {i = j} is first) = absurd (all j first.inside first.here)

  pub first-found : (i : ℕ) → First asked es i → found ≡ Some i
  first-found i first = found-first i first finds

  pub none-found : NoneFits asked es → found ≡ None
  none-found all = found-none all finds
