-- Requests: the reader of `specs/Requests` accepts exactly the bytes that ask for a request.
use Rattle.std.proofs.Common.{◌≡◌, ℕ, suc, ◌+◌, ◌<◌, ◌≤◌, true, false, eqb, ltb, leb, List, [], ◌∷◌}
use Rattle.std.proofs.Common.{◌++◌, map, length, take, drop, is_some, Some, None, Ok, Option, sym}
use Rattle.std.proofs.Common.{refl, ap, ◌∙◌, subst, arith}
use Rattle.std.specs.List.{AllByRecursion}
use Rattle.std.proofs.ByRecursion.{All-weaker}
use Rattle.std.proofs.lemmas.List.{drop_at, drop-drop, length-append, take_at}
use Rattle.std.proofs.lemmas.Bool.{and_from, and_left, and_right, both_ways, cond_both, cond-true}
use Rattle.std.proofs.lemmas.Bool.{cond-false, leb-true, le-leb, ltb-true, lt-ltb, or_parts}
use Rattle.std.proofs.lemmas.Bool.Decides.{nat_tests}
use Rattle.std.proofs.lemmas.Grind.{common_steps}
use Rattle.tlcp.specs.Lines.{and_then}
use Rattle.tlcp.specs.Dividing.{divided_by, ends_here, has, joined_by, crlf_at}
use Rattle.tlcp.proofs.Dividing.{divided-joined, joined-divided}
use Rattle.tlcp.proofs.Words.{first_word}
use Rattle.requests.specs.Asked.{Asks, Given, ReadsAsked, Readable, found, spelling}
use Rattle.requests.specs.Limits.{request_limit}
use Rattle.requests.specs.Names.{is_in, name_of, names, name_word, needs, parameters_of, takes}
use Rattle.requests.specs.Requests.{Occurrences, Request, no_occurrences, read_body, read_named}
use Rattle.requests.specs.Requests.{read_pairs, read_request}
use Rattle.requests.specs.declared.name.Name.{Name}
use Rattle.requests.specs.declared.name.Name.TheVariants.{CreateSession, BindSession, Control}
use Rattle.requests.specs.declared.name.Form.{Form}
use Rattle.requests.specs.declared.name.Form.TheVariants.{Create, Bind, Add, Delete, ForceRebind}
use Rattle.requests.specs.declared.name.Parameter.{Parameter}
use Rattle.requests.proofs.Forming.{Meets, found-only, named-read, only-found, read_named_lem}
use Rattle.requests.proofs.Forming.{takes-in}
use Rattle.requests.proofs.Pairing.{Listed, all_read, none_has, ok-where, read_all, refused}
use Rattle.requests.proofs.Pairing.{then_ok}

-- a line cut at its first CR LF
ends_with : (b : ℕ) (s : List ℕ) → ends_here (b ∷ s) ≡ true → b ∷ s ≡ 13 ∷ 10 ∷ drop 2 (b ∷ s)
ends_with b s e = grind (arith, nat_tests, common_steps)

line-whole : (s : List ℕ) → crlf_at s < length s
    → take (crlf_at s) s ++ (13 ∷ 10 ∷ drop (crlf_at s + 2) s) ≡ s
line-whole [] = λ h. absurd (omega arith)
line-whole (b ∷ s) =
    cond_both (ends_here (b ∷ s)) 0 (suc (crlf_at s))
    (λ n. n < length (b ∷ s) → take n (b ∷ s) ++ (13 ∷ 10 ∷ drop (n + 2) (b ∷ s)) ≡ b ∷ s)
    (λ here h. sym (ends_with b s here))
    (λ _ h.
    let next : suc (crlf_at s) + 2 ≡ suc (crlf_at s + 2) = omega arith in
    ap (λ n. b ∷ (take (crlf_at s) s ++ (13 ∷ 10 ∷ drop n (b ∷ s)))) next
    ∙ ap (λ t. b ∷ t) (line-whole s (omega arith)))

line-end : (w s : List ℕ) → has 13 w ≡ false → crlf_at (w ++ (13 ∷ 10 ∷ s)) ≡ length w
line-end [] s e = cond-true (ends_here (13 ∷ 10 ∷ s)) 0 _
    (and_from _ _ (le-leb 2 (length (13 ∷ 10 ∷ s)) (omega arith)) refl)
line-end (b ∷ w) s e =
    let (other, more) = or_parts (eqb b 13) (has 13 w) e in
    cond-false (ends_here (b ∷ (w ++ (13 ∷ 10 ∷ s)))) 0 _
    (and_right _ _ (and_left (eqb b 13) _ other)) ∙ ap suc (line-end w s more)

-- each name is found by its word, which has no CR
named : (n : Name) → (name_of (name_word n) ≡ Some n) × (has 13 (name_word n) ≡ false)
named CreateSession = (refl, refl)
named BindSession = (refl, refl)
named Control = (refl, refl)

-- each form needs something, so there are pairs
some_pairs : (f : Form) (gs : List Given)
    → AllByRecursion (λ p. is_some (found gs p) ≡ true) (needs f) → 1 ≤ length (map spelling gs)
some_pairs f (g ∷ gs) h = omega arith
some_pairs Create [] h = absurd (both_ways false refl h.0)
some_pairs Bind [] h = absurd (both_ways false refl h.0)
some_pairs Add [] h = absurd (both_ways false refl h.0)
some_pairs Delete [] h = absurd (both_ways false refl h.0)
some_pairs ForceRebind [] h = absurd (both_ways false refl h.0)

listed : (n : Name) (taken : List Parameter)
    → ((p : Parameter) → is_in p taken ≡ true → is_in p (parameters_of n) ≡ true)
    → (gs : List Given) → AllByRecursion Readable gs
    → AllByRecursion (λ g. is_in g.parameter taken ≡ true) gs → AllByRecursion (Listed n) gs
listed n taken known [] sound only = tt
listed n taken known (g ∷ gs) (here, sound) (this, only) =
    ((here, known g.parameter this), listed n taken known gs sound only)

body-read : (session : ℕ) (s : List ℕ) (at : ℕ) (o : Option Name) (q : Request)
    → read_body session s at o ≡ Ok q
    → (n : Name) × (ps : Occurrences) × (o ≡ Some n)
    × (read_pairs n at (divided_by 38 (drop at s)) no_occurrences ≡ Ok ps)
    × (read_named session (length s) n ps ≡ Ok q)
body-read session s at None q e = refused e
body-read session s at (Some n) q e = let (ps, pairs, asked) = then_ok
    (read_pairs n at (divided_by 38 (drop at s)) no_occurrences) _ q e in
    (n, ps, refl, pairs, asked)

asks : (session : ℕ) (s : List ℕ) (q : Request) → read_request session s ≡ Ok q → Asks session s q
asks session s q e =
    let (short, rest) = ok-where (leb (length s) request_limit) _ _ q e in
    let (inside, body) = ok-where (ltb (crlf_at s) (length s)) _ _ q rest in
    let at = crlf_at s + 2 in
    let (n, ps, name, pairs, asked) = body-read session s at
    (name_of (take (crlf_at s) s)) q body in
    let (gs, spelled, all, apart, texts) = all_read n at (divided_by 38 (drop at s)) ps pairs in
    let meets = subst (λ look. Meets session n look q) texts
    (named-read session (length s) n ps q asked) in
    let word = first_word name_word names (take (crlf_at s) s) n name in
    let joined = sym (joined-divided 38 (drop at s)) ∙ ap (joined_by 38) (sym spelled) in
    record {
      name = n;
      form = meets.form;
      pairs = gs;
      short = leb-true (length s) request_limit short;
      whole = sym (line-whole s (ltb-true (crlf_at s) (length s) inside))
          ∙ (λ i. word i ++ (13 ∷ 10 ∷ joined i));
      sound = All-weaker (Listed n) Readable (λ g h. h.0) gs all;
      apart = apart;
      formed = meets.formed;
      all = meets.all;
      only = only-found (takes meets.form) gs meets.only;
      right = meets.right;
      is = meets.is;
    }

-- a line of a name and some text is read from that text
read-line : (session : ℕ) (n : Name) (t : List ℕ)
    → length (name_word n ++ (13 ∷ 10 ∷ t)) ≤ request_limit
    → read_request session (name_word n ++ (13 ∷ 10 ∷ t))
    ≡ and_then (read_pairs n (length (name_word n) + 2) (divided_by 38 t) no_occurrences)
    (read_named session (length (name_word n ++ (13 ∷ 10 ∷ t))) n)
read-line session n t short =
    let w = name_word n in
    let s = w ++ (13 ∷ 10 ∷ t) in
    let end = line-end w t (named n).1 in
    let inside : crlf_at s < length s = omega (arith, length-append w (13 ∷ 10 ∷ t)) in
    let name = ap name_of (take_at w (13 ∷ 10 ∷ t) (length w) refl) ∙ (named n).0 in
    let rest = sym (drop-drop 2 (length w) s)
    ∙ ap (drop 2) (drop_at w (13 ∷ 10 ∷ t) (length w) refl) in
    cond-true _ _ _ (le-leb (length s) request_limit short)
    ∙ cond-true _ _ _ (lt-ltb (crlf_at s) (length s) inside)
    ∙ ap (λ m. read_body session s (m + 2) (name_of (take m s))) end
    ∙ ap (read_body session s (length w + 2)) name
    ∙ ap (λ u. and_then (read_pairs n (length w + 2) (divided_by 38 u) no_occurrences)
    (read_named session (length s) n)) rest

asked : (session : ℕ) (s : List ℕ) (q : Request) → Asks session s q → read_request session s ≡ Ok q
asked session s q h =
    let n = h.name in
    let gs = h.pairs in
    let at = length (name_word n) + 2 in
    let t = joined_by 38 (map spelling gs) in
    let end = length (name_word n ++ (13 ∷ 10 ∷ t)) in
    let (ps, read, texts) = read_all n at gs
    (listed n (takes h.form) (takes-in h.formed) gs h.sound h.only) h.apart in
    let meets : Meets session n
    (found gs) q = record {
      form = h.form;
      formed = h.formed;
      all = h.all;
      only = found-only
          (takes h.form) gs h.only;
      right = h.right;
      is = h.is;
    } in
    ap (read_request session) h.whole
    ∙ read-line session n t (subst (λ u. length u ≤ request_limit) h.whole h.short)
    ∙ ap (λ ss. and_then (read_pairs n at ss no_occurrences) (read_named session end n))
    (divided-joined 38 (map spelling gs) (some_pairs h.form gs h.all) (none_has gs h.sound))
    ∙ ap (λ r. and_then r (read_named session end n)) read
    ∙ read_named_lem session end n ps q (subst (λ look. Meets session n look q) (sym texts) meets)

pub reads-asked : ReadsAsked
reads-asked session s q = (asks session s q, asked session s q)
