-- Pairs of a name, none of them twice, are refused only for their lengths or the room.
use Rattle.std.proofs.Common.{◌≡◌, ℕ, ◌+◌, ◌≤◌, Bool, true, false, eqb, List, [], ◌∷◌, ◌++◌, map}
use Rattle.std.proofs.Common.{length, is_some, Some, Ok, Err, sym, refl, ap, ◌∙◌, subst}
use Rattle.std.proofs.Common.{append_assoc, arith}
use Rattle.std.specs.List.{AllByRecursion}
use Rattle.std.proofs.lemmas.List.{append-nil}
use Rattle.std.proofs.lemmas.Bool.{and_from, both_ways, cond_both, cond-true, le-leb}
use Rattle.row.specs.Texts.{padded}
use Rattle.tlcp.specs.Lines.{and_then}
use Rattle.tlcp.specs.Written.{fits, no_room}
use Rattle.requests.specs.Asked.{found, Apart}
use Rattle.requests.specs.Names.{index_of, is_in, needs, parameters_of}
use Rattle.requests.specs.declared.name.Form.{Form}
use Rattle.requests.specs.declared.name.Form.TheVariants.{Create, Bind, Add, Delete, ForceRebind}
use Rattle.requests.specs.declared.name.Name.{Name}
use Rattle.requests.specs.declared.name.Parameter.{Parameter}
use Rattle.requests.proofs.Pairing.{index-small}
use Rattle.compose.specs.Composed.{ComposesAll, add_all, composing, zeroed_or}
use Rattle.compose.specs.Drafts.{Draft, add_to, begin, bytes_or, ending, has_room, length_or}
use Rattle.compose.specs.Held.{none_or}
use Rattle.compose.specs.ReadBack.{Keeps, value_in}
use Rattle.compose.specs.Written.{Assignment, given_by, head_text, written}
use Rattle.compose.proofs.ReadingBack.{keeps-fit}
use Rattle.compose.proofs.Composing.{Composed, Reached, add-reached, add-refused, answered}
use Rattle.compose.proofs.Composing.{are-short, begin-reached, begin-refused, finish-composed}
use Rattle.compose.proofs.Composing.{settled}
use Rattle.compose.proofs.Holding.{eqb-turned}

-- a pair is found, whatever stands before and behind it
found-amid : (xs : List Assignment) (y : Assignment) (ys : List Assignment) (p : Parameter)
    → eqb (index_of p) (index_of y.parameter) ≡ true
    → is_some (found (map given_by (xs ++ y ∷ ys)) p) ≡ true
found-amid [] y ys p is = ap is_some (cond-true _ _ _ is)
found-amid (x ∷ xs) y ys p is =
    cond_both (eqb (index_of p) (index_of x.parameter)) (Some x.value)
    (found (map given_by (xs ++ y ∷ ys)) p) (λ o. is_some o ≡ true) (λ _. refl)
    (λ _. found-amid xs y ys p is)

-- where no pair stands twice, none before y is of its parameter
new-amid : (xs : List Assignment) (y : Assignment) (ys : List Assignment)
    → Apart (map given_by (xs ++ y ∷ ys)) → is_some (found (map given_by xs) y.parameter) ≡ false
new-amid [] y ys apart = refl
new-amid (x ∷ xs) y ys apart =
    cond_both (eqb (index_of y.parameter) (index_of x.parameter)) (Some x.value)
    (found (map given_by xs) y.parameter) (λ o. is_some o ≡ false)
    (λ same. absurd (both_ways _ (ap is_some apart.0)
    (found-amid xs y ys x.parameter (eqb-turned _ _ ∙ same)))) (λ _. new-amid xs y ys apart.1)

module _ (name : Name) (out : List ℕ) where
  abbrev Known : List Assignment → Type 0
  Known = AllByRecursion (λ x. is_in x.parameter (parameters_of name) ≡ true)

  -- the pairs ys behind the pairs xs
  composes-rest : (d : Draft) (xs ys : List Assignment) → Reached name out d xs → Known ys
      → Apart (map given_by (xs ++ ys))
      → Composed name out (and_then (add_all d ys) ending) (xs ++ ys)
  composes-rest d xs [] h known apart = finish-composed name out d (xs ++ [])
      (subst (Reached name out d) (sym (append-nil xs)) h)
  composes-rest d xs (y ∷ ys) h known apart =
      let one = append_assoc xs (y ∷ []) ys in
      let new = new-amid xs y ys apart in
      subst (λ r. Composed name out (and_then (and_then r (λ _. add_all (add_to d y) ys)) ending)
      (xs ++ y ∷ ys))
      (sym (answered name out d xs y known.0 new h))
      (by (has_room d y) refl
      (λ room. subst (Composed name out (and_then (add_all (add_to d y) ys) ending)) one
      (composes-rest (add_to d y) (xs ++ y ∷ []) ys
      (add-reached name out d xs y known.0 new h (index-small y.parameter) room) known.1
      (subst (λ l. Apart (map given_by l)) (sym one) apart)))
      (add-refused name out d xs y known.0 new h ys))
    where
      by : (b : Bool) → has_room d y ≡ b
          → (has_room d y ≡ true
          → Composed name out (and_then (add_all (add_to d y) ys) ending) (xs ++ y ∷ ys))
          → (has_room d y ≡ false → Composed name out (Err no_room) (xs ++ y ∷ ys))
          → Composed name out (and_then
          (and_then (settled b) (λ _. add_all (add_to d y) ys)) ending) (xs ++ y ∷ ys)
      by true is more stop = more is
      by false is more stop = stop is

pub composes-all : ComposesAll
composes-all name xs out known apart = by (fits 0 (head_text name) out) refl
  where
    by : (b : Bool) → fits 0 (head_text name) out ≡ b → Composed name out (composing name xs out) xs
    by true fit = composes-rest name out (begin name out) [] xs
        (begin-reached name out fit) known apart
    by false none = begin-refused name out xs none

-- a form needs something, so there is a pair
some-pair : {A : Type 0} (xs : List Assignment) (form : Form) (a b : A)
    → AllByRecursion (λ p. is_some (value_in xs p) ≡ true) (needs form) → none_or xs a b ≡ b
some-pair (x ∷ xs) form a b all = refl
some-pair [] Create a b all = absurd (both_ways false refl all.0)
some-pair [] Bind a b all = absurd (both_ways false refl all.0)
some-pair [] Add a b all = absurd (both_ways false refl all.0)
some-pair [] Delete a b all = absurd (both_ways false refl all.0)
some-pair [] ForceRebind a b all = absurd (both_ways false refl all.0)

-- a request that keeps the rules is composed wherever it fits
pub keeps-composed : {session : ℕ} {name : Name} {form : Form} {xs : List Assignment}
    → Keeps session name form xs → (out : List ℕ) → length (written name xs) ≤ length out
    → (length_or (composing name xs out) ≡ Ok (length (written name xs)))
    × (bytes_or (zeroed_or name out) (composing name xs out)
    ≡ padded (length out) (written name xs))
keeps-composed {name = name} {form = form} {xs = xs} k out room =
    let fit = keeps-fit k in
    let (answer, left) = composes-all name xs out fit.known fit.apart in
    let can = and_from _ _ (are-short xs fit.short)
    (le-leb (0 + length (written name xs)) (length out) (omega (arith, room))) in (
      answer ∙ cond-true _ _ _ can ∙ some-pair xs form _ _ k.all,
      left ∙ cond-true _ _ _ can
          ∙ some-pair xs form _ _ k.all,
    )
