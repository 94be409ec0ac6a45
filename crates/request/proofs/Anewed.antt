-- A request written anew, by the pairs that were composed.
use Rattle.std.proofs.Common.{◌≡◌, ℕ, List, Result, ap, ◌∙◌}
use Rattle.row.specs.declared.fault.Refusal.{Refusal}
use Rattle.requests.specs.Requests.{Request}
use Rattle.compose.specs.Composed.{composing, zeroed_or}
use Rattle.compose.specs.Drafts.{bytes_or, length_or}
use Rattle.compose.specs.Written.{Assignment}
use Rattle.request.specs.Anew.{Anew, name_for, pairs_for}

pub anew-from : (session : ℕ) (q : Request) (out : List ℕ) (r : Result ℕ Refusal) (bytes : List ℕ)
    (xs : List Assignment) → xs ≡ pairs_for session q
    → r ≡ length_or (composing (name_for q) xs out)
    → bytes ≡ bytes_or (zeroed_or (name_for q) out) (composing (name_for q) xs out)
    → Anew session q out r bytes
anew-from session q out r bytes xs is answer left = record {
  length = answer ∙ ap (λ l. length_or (composing (name_for q) l out)) is;
  text = left ∙ ap (λ l. bytes_or (zeroed_or (name_for q) out) (composing (name_for q) l out)) is;
}
