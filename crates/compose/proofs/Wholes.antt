-- Pairs added one after another.
use Rattle.std.proofs.Common.{◌≡◌, ℕ, ◌+◌, ◌<◌, ◌≤◌, Bool, true, false, cond, not, ◌&&◌, leb, List}
use Rattle.std.proofs.Common.{length, get_or, drop, replicate, Ok, Err, Result, sym, refl, ap, ◌∙◌}
use Rattle.std.proofs.Common.{arith}
use Rattle.std.proofs.lemmas.List.{at_drop_more, at_drop_all, get_or-map, length-map}
use Rattle.std.proofs.lemmas.Bool.{and_parts, cond_both, cond-true, cond-false, leb-true}
use Rattle.tlcp.specs.Lines.{and_then}
use Rattle.row.specs.declared.fault.Refusal.{Refusal}
use Rattle.tlcp.specs.Written.{fits}
use Rattle.requests.specs.Limits.{value_limit}
use Rattle.requests.specs.declared.name.Name.{Name}
use Rattle.compose.specs.Composed.{add_all, composing, zeroed_or}
use Rattle.compose.specs.Drafts.{Draft, add_answer, add_to, addition, begin, bytes_or, closed}
use Rattle.compose.specs.Drafts.{ending, fresh, has_room, is_open, left_by, unbegun, with_pair}
use Rattle.compose.specs.Assignments.{assignment_in, assignments_in}
use Rattle.compose.specs.Written.{Assignment, head_text}
use Rattle.compose.specs.declared.assignment.Assignment as memory
use Rattle.compose.proofs.Composing.{closed-left, length-placed}
use Rattle.compose.proofs.Holding.{length-padded}

-- a request in these bytes, which leaves only zeros when it is let go, or where nothing is
-- written the bytes as they were
pub record Open (name : Name) (out : List ℕ) (d : Draft) : Type 0 where
  pub unkept : d.kept ≡ false
  pub left : left_by d ≡ zeroed_or name out

pub open-begin : (name : Name) (out : List ℕ) → Open name out (begin name out)
open-begin name out = by (fits 0 (head_text name) out) refl
  where
    by : (b : Bool) → fits 0 (head_text name) out ≡ b
        → Open name out (cond b (fresh name (length out)) (unbegun name out))
    by true fit =
        let room : length (head_text name) ≤ length out = omega (arith, leb-true _ _ fit) in
        record {
          unkept = refl;
          left = ap (λ n. replicate n 0)
              (length-padded (length out) (head_text name) room) ∙ sym (cond-true _ _ _ fit);
        }
    by false none = record { unkept = refl; left = sym (cond-false _ _ _ none) }

-- a pair changes neither what is left nor whether it is kept
pub open-add : (name : Name) (out : List ℕ) (d : Draft) (x : Assignment) → Open name out d
    → Open name out (add_to d x)
open-add name out d x h = cond_both (d.begun && (is_open d x.parameter && has_room d x))
    (with_pair d x) d (Open name out) (λ adds. more adds) (λ _. h)
  where
    more : (d.begun && (is_open d x.parameter && has_room d x)) ≡ true
        → Open name out (with_pair d x)
    more adds =
        let (begun, some) = and_parts d.begun _ adds in
        let room = (and_parts (leb (length x.value) value_limit) _
        (and_parts (is_open d x.parameter) _ some).1).1 in
        let long = length-placed d.len (addition d x) d.bytes (leb-true _ _ room) in
        let zeros : (xs : List ℕ)
        → cond (d.begun && not d.kept) (replicate (length xs) 0) xs ≡ replicate (length xs) 0 =
        λ xs i. cond (begun i && not (h.unkept i)) (replicate (length xs) 0) xs in
        record {
          unkept = h.unkept;
          left = zeros (with_pair d x).bytes
              ∙ ap (λ n. replicate n 0) long ∙ sym (zeros d.bytes) ∙ h.left;
        }

-- a draft that has come to the place i of the pairs, from the one that was begun
pub record Comes (name : Name) (out : List ℕ) (d : Draft) (xs : List Assignment)
    (i : ℕ) : Type 0 where
  pub all : add_all (begin name out) xs ≡ add_all d (drop i xs)
  pub here : Open name out d

pub comes-first : (name : Name) (out : List ℕ) (d : Draft) (xs : List Assignment)
    → d ≡ begin name out → Comes name out d xs 0
comes-first name out d xs is = coe 1 0 (i. Comes name out (is i) xs 0)
    (record { all = refl; here = open-begin name out })

module _ (name : Name) (out : List ℕ) (d : Draft) (xs : List Assignment) (i : ℕ) (x : Assignment)
    (c : Comes name out d xs i) (h : i < length xs) (is : x ≡ get_or xs i x) where
  next : add_all (begin name out) xs
      ≡ and_then (add_answer d x) (λ _. add_all (add_to d x) (drop (i + 1) xs))
  next = c.all ∙ at_drop_more (add_all d) xs i x h
      ∙ ap (λ y. and_then (add_answer d y) (λ _. add_all (add_to d y) (drop (i + 1) xs))) (sym is)

  pub comes-next : (e : Draft) → e ≡ add_to d x → Ok tt ≡ add_answer d x
      → Comes name out e xs (i + 1)
  comes-next e to answer = record {
    all = next ∙ ap (λ r. and_then r (λ _. add_all (add_to d x) (drop (i + 1) xs))) (sym answer)
        ∙ ap (λ f. add_all f (drop (i + 1) xs)) (sym to);
    here = coe 1 0 (j. Open name out (to j)) (open-add name out d x c.here);
  }

  pub comes-refused : (r : Refusal) → Err r ≡ add_answer d x → add_all (begin name out) xs ≡ Err r
  comes-refused r answer = next
      ∙ ap (λ q. and_then q (λ _. add_all (add_to d x) (drop (i + 1) xs))) (sym answer)

comes-all : (name : Name) (out : List ℕ) (d : Draft) (xs : List Assignment) (i : ℕ)
    → Comes name out d xs i → length xs ≤ i → add_all (begin name out) xs ≡ Ok d
comes-all name out d xs i c h = c.all ∙ at_drop_all (add_all d) xs i h

-- and then it is finished
pub comes-finished : (name : Name) (out : List ℕ) (d : Draft) (xs : List Assignment) (i : ℕ)
    → Comes name out d xs i → length xs ≤ i → ending d ≡ composing name xs out
comes-finished name out d xs i c h = ap (λ r. and_then r ending)
    (sym (comes-all name out d xs i c h))

-- what is left of it is the request, or what is left without one
pub finished-left : (name : Name) (out : List ℕ) (d : Draft) (r : Result Draft Refusal)
    → Open name out d → ending d ≡ r → left_by (closed d) ≡ bytes_or (zeroed_or name out) r
finished-left name out d r h is = closed-left d (zeroed_or name out) h.unkept h.left
    ∙ ap (bytes_or (zeroed_or name out)) is

-- a pair of memory
pub item : (ps : List memory.Assignment) (i : ℕ) (d : memory.Assignment) → i < length ps
    → assignment_in (get_or ps i d) ≡ get_or (assignments_in ps) i (assignment_in (get_or ps i d))
item ps i d h = sym (get_or-map assignment_in ps i d (assignment_in (get_or ps i d)) h)

pub as_many : (ps : List memory.Assignment) → length (assignments_in ps) ≡ length ps
as_many ps = length-map ps assignment_in
