-- The pairs that a draft holds, before and behind each call.
use Rattle.std.proofs.Common.{◌≡◌, ℕ, ◌+◌, ◌-◌, ◌<◌, ◌≤◌, Bool, true, false, cond, not, ◌&&◌, ◌||◌}
use Rattle.std.proofs.Common.{eqb, leb, List, [], ◌∷◌, ◌++◌, map, length, get_or, drop, set}
use Rattle.std.proofs.Common.{replicate, is_some, Some, None, Ok, Err, Option, Result, sym, refl}
use Rattle.std.proofs.Common.{ap, ◌∙◌, subst, ⊎_elim, append_assoc, arith}
use Rattle.std.specs.Prelude.{is_ok}
use Rattle.std.specs.Result.{result_map_both}
use Rattle.std.specs.List.{AllByRecursion, flat_map}
use Rattle.std.proofs.lemmas.List.{append-nil, length-append, length-replicate, length-set}
use Rattle.std.proofs.lemmas.List.{get_or_past, get_or-replicate, get_or-set_same, get_or-set_other}
use Rattle.std.proofs.lemmas.List.{flat_map_more, map_push, take_at, drop_at, drop-drop}
use Rattle.std.proofs.lemmas.List.{drop-replicate}
use Rattle.std.proofs.lemmas.Bool.Decides.{nat_tests}
use Rattle.std.proofs.lemmas.Bool.{cases_lt, and_parts, cond_both, both_ways, cases_eq, eq-eqb}
use Rattle.std.proofs.lemmas.Bool.{ne_eqb, leb-true, not-true, or_right, or_from}
use Rattle.row.specs.Texts.{padded}
use Rattle.row.specs.declared.fault.Refusal.{Refusal}
use Rattle.tlcp.specs.Dividing.{joined_by}
use Rattle.tlcp.specs.Written.{placed, fits, no_room}
use Rattle.requests.specs.Limits.{value_limit}
use Rattle.requests.specs.Asked.{Given, spelling, found, Apart}
use Rattle.requests.specs.Names.{index_of, is_in, parameter_count, parameters_of, parameter_word}
use Rattle.requests.specs.declared.name.Name.{Name}
use Rattle.requests.specs.declared.name.Parameter.{Parameter}
use Rattle.compose.specs.Written.{Assignment, given_by, head_text, pair_text, written}
use Rattle.compose.specs.Drafts.{Draft, fresh, is_fresh, is_open, addition, has_room, with_pair}
use Rattle.compose.specs.Drafts.{open_answer, bad_part, add_answer, add_to, closed, ending}
use Rattle.compose.specs.Drafts.{request_len, left_by, length_or, begin, unbegun}
use Rattle.compose.specs.Held.{Holds, Tally, finish_answer, finish_bytes, pairs_after}

pub length-padded : (n : ℕ) (t : List ℕ) → length t ≤ n → length (padded n t) ≡ n
length-padded n t h = simp (length-append, length-replicate) (omega arith)

-- a text is placed behind another that zeros follow
pub placed-padded : (n : ℕ) (t u : List ℕ) → length (t ++ u) ≤ n
    → placed (length t) u (padded n t) ≡ padded n (t ++ u)
placed-padded n t u room =
    let both = length-append t u in
    let zeros = replicate (n - length t) 0 in
    let less : n - length t - length u ≡ n - length (t ++ u) = omega arith in
    let rest : drop (length t + length u) (t ++ zeros) ≡ replicate (n - length (t ++ u)) 0 =
    sym (drop-drop (length u) (length t) (t ++ zeros))
    ∙ ap (drop (length u)) (drop_at t zeros (length t) refl)
    ∙ drop-replicate (length u) (n - length t) 0 ∙ ap (λ k. replicate k 0) less in
    (λ i. take_at t zeros (length t) refl i ++ (u ++ rest i)) ∙ sym (append_assoc t u _)

-- one pair more, behind none and behind some
joined-first : (s : List ℕ) → joined_by 38 (s ∷ []) ≡ s
joined-first s = append-nil s

joined-next : (t : List ℕ) (ts : List (List ℕ)) (s : List ℕ)
    → joined_by 38 ((t ∷ ts) ++ s ∷ []) ≡ joined_by 38 (t ∷ ts) ++ (38 ∷ s)
joined-next t ts s = sym (flat_map_more (λ u. 38 ∷ u) t ts s)

abbrev texts : List Assignment → List (List ℕ)
texts xs = map spelling (map given_by xs)

texts-push : (xs : List Assignment) (x : Assignment)
    → texts (xs ++ x ∷ []) ≡ texts xs ++ spelling (given_by x) ∷ []
texts-push xs x = ap (map spelling) (map_push given_by xs x)
    ∙ map_push spelling (map given_by xs) (given_by x)

abbrev pub is_none : List Assignment → Bool
is_none [] = true
is_none (x ∷ xs) = false

pub written-push : (name : Name) (xs : List Assignment) (x : Assignment)
    → written name (xs ++ x ∷ []) ≡ written name xs ++ pair_text (is_none xs) x
written-push name [] x = ap (λ t. head_text name ++ t) (joined-first (spelling (given_by x)))
    ∙ ap (λ t. t ++ spelling (given_by x)) (sym (append-nil (head_text name)))
written-push name (y ∷ xs) x =
    ap (λ ts. head_text name ++ joined_by 38 (spelling (given_by y) ∷ ts)) (texts-push xs x)
    ∙ ap (λ t. head_text name ++ t)
    (joined-next (spelling (given_by y)) (texts xs) (spelling (given_by x)))
    ∙ sym (append_assoc (head_text name) (joined_by 38 (texts (y ∷ xs))) _)

-- only the name is written exactly where there is no pair
pub fresh-none : (name : Name) (xs : List Assignment) (n : ℕ) → n ≡ length (written name xs)
    → eqb n (length (head_text name)) ≡ is_none xs
fresh-none name [] n is = eq-eqb n _ (is ∙ ap length (append-nil (head_text name)))
fresh-none name (x ∷ xs) n is =
    ne_eqb n _ (λ e.
    let head = length-append (head_text name) (joined_by 38 (texts (x ∷ xs))) in
    let first = length-append (spelling (given_by x)) (flat_map (λ t. 38 ∷ t) (texts xs)) in
    let some = length-append (parameter_word x.parameter) (61 ∷ (given_by x).raw) in
    omega arith)

-- a parameter is found where it was, or where the new pair has it
found-push : (gs : List Given) (g : Given) (p : Parameter)
    → is_some (found (gs ++ g ∷ []) p)
    ≡ (is_some (found gs p) || eqb (index_of p) (index_of g.parameter))
found-push [] g p = by (eqb (index_of p) (index_of g.parameter))
  where
    by : (b : Bool) → is_some (cond b (Some g.text) None) ≡ (false || b)
    by true = refl
    by false = refl
found-push (f ∷ gs) g p = by (eqb (index_of p) (index_of f.parameter)) (found-push gs g p)
  where
    by : (b : Bool)
        → is_some (found (gs ++ g ∷ []) p)
        ≡ (is_some (found gs p) || eqb (index_of p) (index_of g.parameter))
        → is_some (cond b (Some f.text) (found (gs ++ g ∷ []) p))
        ≡ (is_some (cond b (Some f.text) (found gs p)) || eqb (index_of p) (index_of g.parameter))
    by true rest = refl
    by false rest = rest

none_found : (o : Option (List ℕ)) → is_some o ≡ false → o ≡ None
none_found None e = refl
none_found (Some t) e = absurd (both_ways true e refl)

or-none : (b : Bool) → (b || false) ≡ b
or-none true = refl
or-none false = refl

pub eqb-turned : (m n : ℕ) → eqb m n ≡ eqb n m
eqb-turned m n = grind (arith, nat_tests)

pub apart-push : (gs : List Given) (g : Given) → Apart gs → is_some (found gs g.parameter) ≡ false
    → Apart (gs ++ g ∷ [])
apart-push [] g a new = (refl, tt)
apart-push (f ∷ gs) g a new =
    let other = by (eqb (index_of g.parameter) (index_of f.parameter)) new in
    let here = found-push gs g f.parameter
    ∙ or_from _ _ (ap is_some a.0) (eqb-turned _ _ ∙ other.0) in
    (none_found _ here, apart-push gs g a.1 other.1)
  where
    by : (b : Bool) → is_some (cond b (Some f.text) (found gs g.parameter)) ≡ false
        → (b ≡ false) × (is_some (found gs g.parameter) ≡ false)
    by true e = absurd (both_ways true e refl)
    by false e = (refl, e)

all-push : (P : Assignment → Type 0) (xs : List Assignment) (x : Assignment) → AllByRecursion P xs
    → P x → AllByRecursion P (xs ++ x ∷ [])
all-push P [] x all one = (one, tt)
all-push P (y ∷ xs) x all one = (all.0, all-push P xs x all.1 one)

pub holds-fresh : (name : Name) (n : ℕ) → length (head_text name) ≤ n → Holds (fresh name n) []
holds-fresh name n room =
    let head = append-nil (head_text name) in
    record {
      begun = refl;
      unkept = refl;
      text = sym (λ i. padded (length-padded n (head_text name) room i) (head i));
      tally = record {
        size = ap length (sym head);
        places = refl;
        added = λ p. none p;
        fit = record { known = tt; apart = tt; short = tt };
      };
    }
  where
    none : (p : Parameter) → get_or (replicate parameter_count false) (index_of p) false ≡ false
    none p = ⊎_elim (get_or-replicate parameter_count (index_of p) false false)
        (get_or_past (replicate parameter_count false) (index_of p) false)
        (cases_lt (index_of p) parameter_count)

-- a request that was just begun has no pairs
pub begin-tally : (name : Name) (out : List ℕ) (d : Draft) → d ≡ begin name out → d.begun ≡ true
    → Tally d.name d.len d.given []
begin-tally name out d is =
    coe 1 0 (i. (is i).begun ≡ true → Tally (is i).name (is i).len (is i).given [])
    (by (fits 0 (head_text name) out) refl)
  where
    by : (b : Bool) → fits 0 (head_text name) out ≡ b
        → (cond b (fresh name (length out)) (unbegun name out)).begun ≡ true
        → Tally (cond b (fresh name (length out)) (unbegun name out)).name
        (cond b (fresh name (length out)) (unbegun name out)).len
        (cond b (fresh name (length out)) (unbegun name out)).given []
    by true fit h =
        let room : length (head_text name) ≤ length out = omega (arith, leb-true _ _ fit) in
        (holds-fresh name (length out) room).tally
    by false fit h = absurd (both_ways false refl h)

-- a request is finished with its length
pub finished-length : (d : Draft) → length_or (ending d) ≡ request_len d.name d.begun d.len
finished-length d = by d.begun (is_fresh d)
  where
    by : (b f : Bool)
        → length_or (result_map_both (λ _. d) (λ e. e)
        (cond b (cond f (Err bad_part) (Ok d.len)) (Err no_room)))
        ≡ cond b (cond f (Err bad_part) (Ok d.len)) (Err no_room)
    by true true = refl
    by true false = refl
    by false f = refl

pub ok-finished : (d : Draft) → is_ok (ending d) ≡ is_ok (request_len d.name d.begun d.len)
ok-finished d = by (request_len d.name d.begun d.len)
  where
    by : (r : Result ℕ Refusal) → is_ok (result_map_both (λ _. d) (λ e. e) r) ≡ is_ok r
    by (Ok n) = refl
    by (Err e) = refl

-- one more pair
module _ (d : Draft) (x : Assignment) (xs : List Assignment)
    (h : Tally d.name d.len d.given xs) where
  text-more : written d.name xs ++ addition d x ≡ written d.name (xs ++ x ∷ [])
  text-more = ap (λ b. written d.name xs ++ pair_text b x)
      (fresh-none d.name xs d.len h.size) ∙ sym (written-push d.name xs x)

  pub size-more : d.len + length (addition d x) ≡ length (written d.name (xs ++ x ∷ []))
  size-more = ap (λ k. k + length (addition d x)) h.size
      ∙ sym (length-append (written d.name xs) (addition d x)) ∙ ap length text-more

  added_more : index_of x.parameter < parameter_count → (p : Parameter)
      → get_or (with_pair d x).given (index_of p) false
      ≡ is_some (found (map given_by (xs ++ x ∷ [])) p)
  added_more small p =
      let i = index_of x.parameter in
      let old = is_some (found (map given_by xs) p) in
      let here : is_some (found (map given_by (xs ++ x ∷ [])) p) ≡ (old || eqb (index_of p) i) =
      ap (λ gs. is_some (found gs p)) (map_push given_by xs x)
      ∙ found-push (map given_by xs) (given_by x) p in
      ⊎_elim
      (λ same.
      ap (λ k. get_or (set d.given i true) k false) same
      ∙ get_or-set_same d.given i true false (omega (arith, h.places))
      ∙ sym (here ∙ or_right old _ (eq-eqb (index_of p) i same)))
      (λ other.
      get_or-set_other d.given i (index_of p) true false other ∙ h.added p
      ∙ sym (here ∙ ap (λ b. old || b) (ne_eqb (index_of p) i other) ∙ or-none old))
      (cases_eq (index_of p) i)

  pub tally-more : index_of x.parameter < parameter_count → is_open d x.parameter ≡ true
      → has_room d x ≡ true
      → Tally d.name (with_pair d x).len (with_pair d x).given (xs ++ x ∷ [])
  tally-more small new room =
      let short = (and_parts (leb (length x.value) value_limit) _ room).0 in
      let (known, unset) = and_parts (is_in x.parameter (parameters_of d.name)) _ new in
      let other = sym (h.added x.parameter) ∙ not-true _ unset in
      record {
        size = size-more;
        places = length-set d.given (index_of x.parameter) true ∙ h.places;
        added = added_more small;
        fit = record {
          known = all-push (λ y. is_in y.parameter (parameters_of d.name)
              ≡ true) xs x h.fit.known known;
          apart = subst Apart (sym (map_push given_by xs x))
              (apart-push (map given_by xs) (given_by x) h.fit.apart other);
          short = all-push (λ y. length y.value ≤ value_limit) xs x h.fit.short
              (leb-true _ _ short);
        };
      }

  -- whatever a call makes of the draft, its length and marks are those of some pairs
  pub tally-after : (e : Draft) → index_of x.parameter < parameter_count → e ≡ add_to d x
      → (ys : List Assignment) × Tally e.name e.len e.given ys
  tally-after e small is =
      coe 1 0 (i. (ys : List Assignment) × Tally (is i).name (is i).len (is i).given ys)
      (cond_both (d.begun && (is_open d x.parameter && has_room d x)) (with_pair d x) d
      (λ f. (ys : List Assignment) × Tally f.name f.len f.given ys)
      (λ adds.
      let some = (and_parts d.begun _ adds).1 in
      let (new, room) = and_parts (is_open d x.parameter) _ some in
      (xs ++ x ∷ [], tally-more small new room)) (λ _. (xs, h)))

module _ (d : Draft) (x : Assignment) (xs : List Assignment) (h : Holds d xs) where
  text-placed : d.len + length (addition d x) ≤ length d.bytes
      → (with_pair d x).bytes ≡ padded (length (with_pair d x).bytes)
      (written d.name (xs ++ x ∷ []))
  text-placed room =
      let t = written d.name xs in
      let u = addition d x in
      let n = length d.bytes in
      let both = length-append t u in
      let size = h.tally.size in
      let fit : length (t ++ u) ≤ n = omega arith in
      let bytes : placed d.len u d.bytes
      ≡ padded n (t ++ u) = (λ i. placed (size i) u (h.text i))
      ∙ placed-padded n t u fit in
      let long : length (placed d.len u d.bytes) ≡ n = ap length bytes
      ∙ length-padded n (t ++ u) fit in
      bytes ∙ ap (padded n) (text-more d x xs h.tally)
      ∙ ap (λ k. padded k (written d.name (xs ++ x ∷ []))) (sym long)

  pub holds_more : index_of x.parameter < parameter_count → is_open d x.parameter ≡ true
      → has_room d x ≡ true → Holds (with_pair d x) (xs ++ x ∷ [])
  holds_more small new room =
      let fit = (and_parts (leb (length x.value) value_limit) _ room).1 in
      record {
        begun = h.begun;
        unkept = h.unkept;
        text = text-placed (leb-true _ _ fit);
        tally = tally-more d x xs h.tally small new room;
      }

  -- whatever a call answers
  pub holds_after : (r : Result (Unit {0}) Refusal) (e : Draft)
      → index_of x.parameter < parameter_count → r ≡ add_answer d x → e ≡ add_to d x
      → Holds e (pairs_after r xs x)
  holds_after r e small answer left =
      let all = by (is_open d x.parameter) (has_room d x) refl refl in
      coe 1 0 (i. Holds (left i) (pairs_after (answer i) xs x))
      (coe 1 0 (i. Holds (cond (h.begun i && (is_open d x.parameter && has_room d x))
      (with_pair d x) d) (pairs_after
      (cond (h.begun i) (open_answer d x) (Err no_room)) xs x)) all)
    where
      by : (o b : Bool) → is_open d x.parameter ≡ o → has_room d x ≡ b
          → Holds (cond (o && b) (with_pair d x) d)
          (pairs_after (cond o (cond b (Ok tt) (Err no_room)) (Err bad_part)) xs x)
      by true true new room = holds_more small new room
      by true false new room = h
      by false true new room = h
      by false false new room = h

-- a request with these pairs, finished
pub holds-finished : (d : Draft) (xs : List Assignment) → Holds d xs
    → (length_or (ending d) ≡ finish_answer d.name xs)
    × (left_by (closed d) ≡ finish_bytes d.name xs (length d.bytes))
holds-finished d xs h =
    let r = request_len d.name d.begun d.len in
    let is : r ≡ cond (is_none xs) (Err bad_part) (Ok d.len) =
    ap (λ b. cond b (cond (is_fresh d) (Err bad_part) (Ok d.len)) (Err no_room)) h.begun
    ∙ ap (λ b. cond b (Err bad_part) (Ok d.len)) (fresh-none d.name xs d.len h.tally.size) in
    let left : left_by (closed d)
    ≡ cond (not (is_ok (cond (is_none xs) (Err bad_part) (Ok d.len))))
    (replicate (length d.bytes) 0) d.bytes =
    ap (λ k. left_by (record d { kept = k })) (ok-finished d)
    ∙ (λ i. cond (h.begun i && not (is_ok (is i))) (replicate (length d.bytes) 0) d.bytes) in
    by xs refl (finished-length d ∙ is) left
  where
    by : (ys : List Assignment) → ys ≡ xs
        → length_or (ending d) ≡ cond (is_none ys) (Err bad_part) (Ok d.len)
        → left_by (closed d)
        ≡ cond (not (is_ok (cond (is_none ys) (Err bad_part) (Ok d.len))))
        (replicate (length d.bytes) 0) d.bytes
        → (length_or (ending d) ≡ finish_answer d.name ys)
        × (left_by (closed d) ≡ finish_bytes d.name ys (length d.bytes))
    by [] same answer bytes = (answer, bytes)
    by (y ∷ ys) same answer bytes = (
      answer ∙ ap Ok (h.tally.size ∙ ap (λ l. length (written d.name l)) (sym same)),
      bytes ∙ h.text ∙ ap (λ l. padded (length d.bytes) (written d.name l)) (sym same),
    )
