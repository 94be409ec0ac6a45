-- Texts, runs and values written one behind another.
use Rattle.std.proofs.Common.{◌≡◌, ℕ, ◌+◌, ◌-◌, ◌<◌, ◌≤◌, leb, List, [], ◌∷◌, ◌++◌, length, get_or}
use Rattle.std.proofs.Common.{take, drop, decimal, Result, sym, ap, ◌∙◌, subst, append_assoc}
use Rattle.std.proofs.lemmas.List.{append-nil}
use Rattle.std.proofs.lemmas.Slice.{first_rest}
use Rattle.std.proofs.lemmas.Bool.{le-leb, lt-leb, cond-true, cond-false}
use Rattle.row.specs.declared.fault.Refusal.{Refusal}
use Rattle.tlcp.specs.Bounds.{Adds, extended, room_answer}
use Rattle.tlcp.specs.Bytes.{is_escaped, is_escaped_first}
use Rattle.tlcp.specs.Escapes.{encoded_by, spelled}
use Rattle.tlcp.specs.Lists.{each_piped, run_values, text_value}

-- what fits is appended
pub adding :
    (limit : ℕ) (s t u : List ℕ) (r : Result (Unit {0}) Refusal) → length s + length t ≤ limit
    → r ≡ room_answer limit s t → u ≡ extended limit s t → Adds s t r u
adding limit s t u r room answer text =
    let fits = le-leb (length s + length t) limit room in
    record { done = answer ∙ cond-true _ _ _ fits; text = text ∙ cond-true _ _ _ fits }

pub adds-is :
    {s t v u : List ℕ} {r : Result (Unit {0}) Refusal} → t ≡ v → Adds s t r u → Adds s v r u
adds-is {s = s} {u = u} {r = r} e h = subst (λ x. Adds s x r u) e h

pub adds-then :
    {s t u v w : List ℕ} {r q : Result (Unit {0}) Refusal} → Adds s t r u → Adds u v q w
    → Adds s (t ++ v) q w
adds-then {s =
    s} {t = t} {v = v} h k = record {
      done = k.done;
      text = k.text ∙ ap (λ l. l ++ v) h.text
          ∙ append_assoc s t v;
    }

pub text-spelled :
    (text : List ℕ) → 0 < length text
    → encoded_by is_escaped_first (get_or text 0 0 ∷ []) ++ encoded_by is_escaped (take (length text - 1) (drop 1 text))
    ≡ text_value text
text-spelled text some =
    ap (λ l. l ++ encoded_by is_escaped (take (length text - 1) (drop 1 text))) (append-nil (spelled (is_escaped_first (get_or text 0 0)) (get_or text 0 0)))
    ∙ sym (ap text_value (first_rest text 0 some))

-- a long run of same
pub run_long : (run : ℕ) → 3 < run → (124 ∷ 94 ∷ []) ++ decimal run ≡ each_piped (run_values run)
run_long run many =
    ap (λ l. 124 ∷ 94 ∷ l) (sym (append-nil (decimal run)))
    ∙ ap each_piped (sym (cond-false (leb run 3) _ _ (lt-leb run 3 many)))
