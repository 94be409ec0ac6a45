-- What pairs ask for: the reader of `specs/Requests` against the forms of `specs/Asked`.
use Rattle.std.proofs.Common.{◌≡◌, ℕ, true, false, not, eqb, List, [], ◌∷◌, is_some, Some, None, Ok}
use Rattle.std.proofs.Common.{codes, Option, unwrap_or, sym, refl, ap, ◌∙◌, subst, ⊎_elim, arith}
use Rattle.std.specs.Option.{option_map}
use Rattle.std.specs.List.{AllByRecursion}
use Rattle.std.proofs.lemmas.Bool.{cases_Bool, cond_both, cond-true, cond-false, both_ways, eq-eqb}
use Rattle.std.proofs.lemmas.Bool.{not-false, not_from_true, or_cases, or_from, or_parts}
use Rattle.tlcp.specs.Lines.{and_then}
use Rattle.tlcp.specs.Lines.{same_bytes}
use Rattle.tlcp.proofs.Words.{same_bytes_lem}
use Rattle.requests.specs.Asked.{Formed, Given, Right, adds, binds, creates, deletes, found}
use Rattle.requests.specs.Asked.{rebinds}
use Rattle.requests.specs.Names.{first_needs, index_of, is_in, needs, operation_of, parameters_of}
use Rattle.requests.specs.Names.{takes}
use Rattle.requests.specs.Requests.{Occurrences, Request, check_values, fitting_or, form_of}
use Rattle.requests.specs.Requests.{form_or, is_given, lacks, leftmost, occurrence_of, parameters}
use Rattle.requests.specs.Requests.{read_form, read_named, request_of, given_text, unfit, unfit_of}
use Rattle.requests.specs.Requests.{value_at_of, value_of}
use Rattle.requests.specs.Values.{fitting}
use Rattle.requests.specs.declared.name.Name.{Name}
use Rattle.requests.specs.declared.name.Name.TheVariants.{CreateSession, BindSession, Control}
use Rattle.requests.specs.declared.name.Form.{Form}
use Rattle.requests.specs.declared.name.Form.TheVariants.{Create, Bind, Add, Delete, ForceRebind}
use Rattle.requests.specs.declared.name.Parameter.{Parameter}
use Rattle.requests.specs.declared.name.Parameter.TheVariants.{Operation}
use Rattle.requests.proofs.Fitting.{decides-right, some_is}
use Rattle.requests.proofs.Pairing.{each, given-text, none-parts, ok-unless, ok-where, refused}
use Rattle.requests.proofs.Pairing.{same_index, then_ok}

-- the parameters of a form
in_all : (xs ys : List Parameter) → AllByRecursion (λ q. is_in q ys ≡ true) xs → (p : Parameter)
    → is_in p xs ≡ true → is_in p ys ≡ true
in_all [] ys all p e = cc
in_all (q ∷ xs) ys (here, more) p e =
    ⊎_elim (λ same. subst (λ r. is_in r ys ≡ true) (sym (same_index p q same)) here)
    (in_all xs ys more p) (or_cases (eqb (index_of p) (index_of q)) (is_in p xs) e)

pub takes-in : {n : Name} {op : Option (List ℕ)} {f : Form} → Formed n op f → (p : Parameter)
    → is_in p (takes f) ≡ true → is_in p (parameters_of n) ≡ true
takes-in creates p e = e
takes-in binds p e = e
takes-in adds p e = e
takes-in deletes p e = in_all (takes Delete) (parameters_of Control) (refl, (refl, (refl, tt))) p e
takes-in rebinds p e = in_all (takes ForceRebind) (parameters_of Control) (refl, (refl, tt)) p e

first-needs : (P : Parameter → Type 0) {n : Name} {op : Option (List ℕ)} {f : Form} → Formed n op f
    → AllByRecursion P (needs f) → AllByRecursion P (first_needs n)
first-needs P creates h = h
first-needs P binds h = h
first-needs P adds h = (h.0, (h.1.0, tt))
first-needs P deletes h = (h.0, (h.1.0, tt))
first-needs P rebinds h = h

-- the form of pairs, by their name and operation
operation-read : (at : ℕ) (t : List ℕ) (f : Form) → form_or at (operation_of t) ≡ Ok f
    → Formed Control (Some t) f
operation-read at t f =
    cond_both (same_bytes t (codes "add")) _ _ Reads (λ is. found_as (codes "add") Add is adds)
    (λ _.
    cond_both (same_bytes t (codes "delete")) _ _ Reads
    (λ is. found_as (codes "delete") Delete is deletes)
    (λ _. cond_both (same_bytes t (codes "force_rebind")) _ _ Reads
    (λ is. found_as (codes "force_rebind") ForceRebind is rebinds) (λ _ e. refused e)))
  where
    Reads : Option Form → Type 0
    Reads o = form_or at o ≡ Ok f → Formed Control (Some t) f

    found_as : (word : List ℕ) (g : Form) → same_bytes t word ≡ true → Formed Control (Some word) g
        → Reads (Some g)
    found_as word g is h e =
        let same : g ≡ f = cc in
        subst (λ u. Formed Control (Some u) f) (sym (same_bytes_lem t word is))
        (subst (Formed Control (Some word)) same h)

formed-read : (n : Name) (ps : Occurrences) (f : Form)
    → AllByRecursion (λ p. is_some (given_text p ps) ≡ true) (first_needs n) → form_of n ps ≡ Ok f
    → Formed n (given_text Operation ps) f
formed-read CreateSession ps f h e = let same : Create
    ≡ f = cc in subst (Formed CreateSession (given_text Operation ps)) same creates
formed-read BindSession ps f h e = let same : Bind
    ≡ f = cc in subst (Formed BindSession (given_text Operation ps)) same binds
formed-read Control ps f h e =
    let (t, is) = some_is (given_text Operation ps) h.1.0 in
    subst (λ o. Formed Control o f) (sym is)
    (operation-read (value_at_of Operation ps) t f
    (ap (λ o. form_or (value_at_of Operation ps) (operation_of (unwrap_or o []))) (sym is) ∙ e))

read-formed : {n : Name} {op : Option (List ℕ)} {f : Form} (ps : Occurrences) → Formed n op f
    → given_text Operation ps ≡ op → form_of n ps ≡ Ok f
read-formed ps creates e = refl
read-formed ps binds e = refl
read-formed ps adds e = ap
    (λ o. form_or (value_at_of Operation ps) (operation_of (unwrap_or o []))) e
read-formed ps deletes e = ap
    (λ o. form_or (value_at_of Operation ps) (operation_of (unwrap_or o []))) e
read-formed ps rebinds e = ap
    (λ o. form_or (value_at_of Operation ps) (operation_of (unwrap_or o []))) e

-- none is missing exactly where each has a text
lacks-none : (l : List Parameter) (ps : Occurrences) → lacks l ps ≡ false
    → AllByRecursion (λ p. is_some (given_text p ps) ≡ true) l
lacks-none [] ps e = tt
lacks-none (p ∷ l) ps e =
    let (here, more) = or_parts (not (is_given p ps)) (lacks l ps) e in
    (given-text p ps ∙ not-false (is_given p ps) here, lacks-none l ps more)

none-lacks : (l : List Parameter) (ps : Occurrences)
    → AllByRecursion (λ p. is_some (given_text p ps) ≡ true) l → lacks l ps ≡ false
none-lacks [] ps h = refl
none-lacks (p ∷ l) ps (here, more) = or_from _ _
    (not_from_true (is_given p ps) (sym (given-text p ps) ∙ here)) (none-lacks l ps more)

-- no pair is unfit exactly where all that are not taken have no text
mapped-none : {X Y Z : Type 0} (f : X → Y) (g : X → Z) (o : Option X) → option_map f o ≡ None
    → option_map g o ≡ None
mapped-none f g None e = refl
mapped-none f g (Some x) e = cc

leftmost-none : (a b : Option ℕ) → leftmost a b ≡ None → (a ≡ None) × (b ≡ None)
leftmost-none a b e = grind (arith)

abbrev Untaken : List Parameter → (Parameter → Option (List ℕ)) → Parameter → Type 0
Untaken taken look p = is_in p taken ≡ false → look p ≡ None

unfit-none : (taken : List Parameter) (ps : Occurrences) (l : List Parameter)
    → unfit taken ps l ≡ None → AllByRecursion (Untaken taken (λ p. given_text p ps)) l
unfit-none taken ps [] e = tt
unfit-none taken ps (p ∷ l) e =
    let (here, more) = leftmost-none (unfit_of taken ps p) (unfit taken ps l) e in (
      λ out. mapped-none (λ x. x.at) (λ x. x.text) (occurrence_of p ps)
          (sym (cond-false _ None _ out) ∙ here),
      unfit-none taken ps l more,
    )

none-unfit : (taken : List Parameter) (ps : Occurrences) (l : List Parameter)
    → ((p : Parameter) → Untaken taken (λ q. given_text q ps) p) → unfit taken ps l ≡ None
none-unfit taken ps [] h = refl
none-unfit taken ps (p ∷ l) h = grind (
  arith,
  h p,
  none-unfit taken ps l h,
  mapped-none (λ x. x.text) (λ x. x.at)
      (occurrence_of p ps),
)

-- the same of pairs in a row
pub only-found : (taken : List Parameter) (gs : List Given)
    → ((p : Parameter) → Untaken taken (found gs) p)
    → AllByRecursion (λ g. is_in g.parameter taken ≡ true) gs
only-found taken [] h = tt
only-found taken (g ∷ gs) h =
    let here = λ (out : is_in g.parameter taken ≡ false). both_ways _
    (none-parts _ _ _ (h g.parameter out)).0 (eq-eqb (index_of g.parameter) _ refl) in (
      ⊎_elim (λ e. e) (λ out. absurd (here out))
          (cases_Bool (is_in g.parameter taken)),
      only-found taken gs
          (λ p out. (none-parts _ _ _ (h p out)).1),
    )

pub found-only : (taken : List Parameter) (gs : List Given)
    → AllByRecursion (λ g. is_in g.parameter taken ≡ true) gs → (p : Parameter)
    → Untaken taken (found gs) p
found-only taken [] all p out = refl
found-only taken (g ∷ gs) (here, more) p out =
    cond_both _ _ _ (λ o. o ≡ None)
    (λ same. absurd (both_ways _ out
    (subst (λ q. is_in q taken ≡ true) (sym (same_index p g.parameter same)) here)))
    (λ _. found-only taken gs more p out)

-- the values are checked exactly where they are right
values-read : (session : ℕ) (l : List Parameter) (ps : Occurrences) (u : Unit {0})
    → check_values session l ps ≡ Ok u → AllByRecursion (λ p. Right session p (value_of p ps)) l
values-read session [] ps u e = tt
values-read session (p ∷ l) ps u e =
    let (here, more) = ok-where (fitting session p (value_of p ps)) _ _ u e in
    ((decides-right session p (value_of p ps)).0 here, values-read session l ps u more)

read-values : (session : ℕ) (l : List Parameter) (ps : Occurrences)
    → AllByRecursion (λ p. Right session p (value_of p ps)) l → check_values session l ps ≡ Ok tt
read-values session [] ps h = refl
read-values session (p ∷ l) ps (here, more) = cond-true _ _ _
    ((decides-right session p (value_of p ps)).1 here) ∙ read-values session l ps more

-- values of parameters ask for q under this name
pub record Meets (session : ℕ) (n : Name) (look : Parameter → Option (List ℕ))
    (q : Request) : Type 0 where
  pub form : Form
  pub formed : Formed n (look Operation) form
  pub all : AllByRecursion (λ p. is_some (look p) ≡ true) (needs form)
  pub only : (p : Parameter) → Untaken (takes form) look p
  pub right : AllByRecursion (λ p. Right session p (unwrap_or (look p) [])) (needs form)
  pub is : q ≡ request_of look form

fit-read : (session : ℕ) (f : Form) (ps : Occurrences) (o : Option ℕ) (q : Request)
    → fitting_or session f ps o ≡ Ok q
    → (o ≡ None) × AllByRecursion (λ p. Right session p (value_of p ps)) (needs f)
    × (q ≡ request_of (λ p. given_text p ps) f)
fit-read session f ps (Some at) q e = refused e
fit-read session f ps None q e =
    let (u, checked, is) = then_ok (check_values session (needs f) ps) _ q e in
    (refl, values-read session (needs f) ps u checked, (cc))

pub named-read : (session end : ℕ) (n : Name) (ps : Occurrences) (q : Request)
    → read_named session end n ps ≡ Ok q → Meets session n (λ p. given_text p ps) q
named-read session end n ps q e =
    let (firsts, rest) = ok-unless (lacks (first_needs n) ps) _ _ q e in
    let (f, form, asked) = then_ok (form_of n ps) _ q rest in
    let (all, fit) = ok-unless (lacks (needs f) ps) _ _ q asked in
    let (only, right, is) = fit-read session f ps (unfit (takes f) ps parameters) q fit in
    record {
      form = f;
      formed = formed-read n ps f (lacks-none (first_needs n) ps firsts) form;
      all = lacks-none (needs f) ps all;
      only = each (Untaken (takes f) (λ p. given_text p ps))
          (unfit-none (takes f) ps parameters only);
      right = right;
      is = is;
    }

pub read_named_lem : (session end : ℕ) (n : Name) (ps : Occurrences) (q : Request)
    → Meets session n (λ p. given_text p ps) q → read_named session end n ps ≡ Ok q
read_named_lem session end n ps q h =
    let f = h.form in
    cond-false _ _ _ (none-lacks (first_needs n) ps (first-needs _ h.formed h.all))
    ∙ ap (λ r. and_then r (read_form session end ps)) (read-formed ps h.formed refl)
    ∙ cond-false _ _ _ (none-lacks (needs f) ps h.all)
    ∙ ap (fitting_or session f ps) (none-unfit (takes f) ps parameters h.only)
    ∙ ap (λ r. and_then r (λ _. Ok (request_of (λ p. given_text p ps) f)))
    (read-values session (needs f) ps h.right)
    ∙ ap Ok (sym h.is)
