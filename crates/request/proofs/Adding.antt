-- A request written pair by pair, some of whose pairs may be left out.
use Rattle.std.proofs.Common.{◌≡◌, ℕ, List, [], ◌∷◌, Ok, Err, Result, sym, refl, ap, ◌∙◌}
use Rattle.row.specs.declared.fault.Refusal.{Refusal}
use Rattle.tlcp.specs.Lines.{and_then}
use Rattle.requests.specs.Requests.{Request}
use Rattle.requests.specs.declared.name.Name.{Name}
use Rattle.compose.specs.Composed.{add_all, composing, zeroed_or}
use Rattle.compose.specs.Drafts.{Draft, add_answer, add_to, begin, bytes_or, closed, ending}
use Rattle.compose.specs.Drafts.{left_by, length_or}
use Rattle.compose.specs.Written.{Assignment}
use Rattle.compose.proofs.Wholes.{Open, finished-left, open-add, open-begin}
use Rattle.request.specs.Anew.{Anew, name_for, pairs_for}

-- a draft in some bytes, to which the pairs were added that `before` puts before others
pub record Added (name : Name) (out : List ℕ) (before : List Assignment → List Assignment)
    (d : Draft) : Type 0 where
  pub all : (ys : List Assignment) → add_all (begin name out) (before ys) ≡ add_all d ys
  pub here : Open name out d

module _ (name : Name) (out : List ℕ) where
  pub added-none : (d : Draft) → d ≡ begin name out → Added name out (λ ys. ys) d
  added-none d is =
      coe 1 0 (i. Added name out (λ ys. ys) (is i))
      (record { all = λ ys. refl; here = open-begin name out })

  module _ (before : List Assignment → List Assignment) (d : Draft) (x : Assignment)
      (h : Added name out before d) (e : Draft) (to : e ≡ add_to d x) where
    still : Open name out e
    still = coe 1 0 (i. Open name out (to i)) (open-add name out d x h.here)

    pub added-next : Ok tt ≡ add_answer d x → Added name out (λ ys. before (x ∷ ys)) e
    added-next answer = record {
      all = λ ys. h.all (x ∷ ys) ∙ ap (λ r. and_then r (λ _. add_all (add_to d x) ys)) (sym answer)
          ∙ ap (λ f. add_all f ys) (sym to);
      here = still;
    }

    pub refused : (r : Refusal) (ys : List Assignment) → Err r ≡ add_answer d x
        → composing name (before (x ∷ ys)) out ≡ Err r
    refused r ys answer =
        ap (λ q. and_then q ending)
        (h.all (x ∷ ys) ∙ ap (λ q. and_then q (λ _. add_all (add_to d x) ys)) (sym answer))

    pub zeros : left_by e ≡ zeroed_or name out
    zeros = still.left

module _ (session : ℕ) (q : Request) (out : List ℕ) (before : List Assignment → List Assignment)
    (d : Draft) (h : Added (name_for q) out before d) (r : Result ℕ Refusal) (bytes : List ℕ) where
  pub anew-refused : (x : Assignment) (ys : List Assignment) (e : Draft) (f : Refusal)
      → pairs_for session q ≡ before (x ∷ ys) → e ≡ add_to d x → Err f ≡ add_answer d x → r ≡ Err f
      → bytes ≡ left_by e → Anew session q out r bytes
  anew-refused x ys e f are to answer says left =
      let is = ap (λ l. composing (name_for q) l out) are
      ∙ refused (name_for q) out before d x h e to f ys answer in
      record {
        length = says ∙ sym (ap length_or is);
        text = left
            ∙ zeros (name_for q) out before d x h e to
            ∙ sym (ap (bytes_or (zeroed_or (name_for q) out)) is);
      }

  pub anew-finished : pairs_for session q ≡ before [] → r ≡ length_or (ending d)
      → bytes ≡ left_by (closed d) → Anew session q out r bytes
  anew-finished are says left =
      let is =
      ap (λ l. composing (name_for q) l out) are ∙ ap (λ a. and_then a ending) (h.all []) in
      record {
        length = says ∙ sym (ap length_or is);
        text = left
            ∙ finished-left (name_for q) out d _ h.here (sym is);
      }
