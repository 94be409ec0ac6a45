-- What came of a line that spells bytes.
use Rattle.std.proofs.Common.{◌≡◌, ℕ, ◌≤◌, List, length, take, replicate, Some, Ok, Err, Result}
use Rattle.std.proofs.Common.{sym, ap, ◌∙◌}
use Rattle.std.proofs.lemmas.Bool.{cond-true, le-leb}
use Rattle.tlcp.specs.Lines.{and_then}
use Rattle.std.specs.Result.{result_map_both}
use Rattle.row.specs.declared.fault.Refusal.{Refusal}
use Rattle.requests.specs.Limits.{request_limit}
use Rattle.requests.specs.Requests.{Request, read_request}
use Rattle.compose.specs.Drafts.{Draft, bytes_or, length_or}
use Rattle.request.specs.Anew.{Anew, anew}
use Rattle.request.specs.Checking.{anew_text, checked, read_spelled}
use Rattle.request.specs.Limits.{spelled_limit}
use Rattle.request.specs.Spelling.{unspelled}

pub written-text :
    (x : Result Draft Refusal) (other : List ℕ) (r : Result ℕ Refusal) (bytes : List ℕ)
    → r ≡ length_or x → bytes ≡ bytes_or other x
    → result_map_both (λ n. take n bytes) (λ e. e) r
    ≡ result_map_both (λ d. take d.len d.bytes) (λ e. e) x
written-text (Ok d) other r bytes p q = λ i. result_map_both (λ n. take n (q i)) (λ e. e) (p i)
written-text (Err e) other r bytes p q = ap (result_map_both (λ n. take n bytes) (λ e. e)) p

module _ (session : ℕ) (line t : List ℕ) (short : length line ≤ spelled_limit) (is : Some t ≡ unspelled line) where
  here : checked session line ≡ and_then (read_request session t) (anew_text session)
  here =
      cond-true _ _ _ (le-leb (length line) spelled_limit short)
      ∙ ap (read_spelled session) (sym is)

  pub checked-written :
      (q : Request) (out : List ℕ) (r : Result ℕ Refusal) (bytes : List ℕ)
      → out ≡ replicate request_limit 0 → Ok q ≡ read_request session t → Anew session q out r bytes
      → result_map_both (λ n. take n bytes) (λ e. e) r ≡ checked session line
  checked-written q out r bytes zeros read written =
      written-text _ _ r bytes written.length written.text
      ∙ ap (λ o. result_map_both (λ d. take d.len d.bytes) (λ e. e) (anew session q o)) zeros
      ∙ sym (here ∙ ap (λ x. and_then x (anew_text session)) (sym read))
