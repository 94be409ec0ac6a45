use Rattle.std.proofs.Common.{◌≡◌, ℕ, ◌≤◌, Ok, Err, Result, IfOk, sym, ap, ◌∙◌, arith, rules}
use Rattle.std.specs.Prelude.{is_ok}
use Rattle.std.specs.Result.{result_map_both}
use Rattle.row.specs.declared.fault.Refusal.{Refusal}
use Rattle.requests.proofs.Asking.{reads-asked}
use Rattle.requests.specs.Limits.{request_limit}
use Rattle.requests.specs.declared.name.Name.{Name}
use Rattle.compose.specs.Drafts.{closed, ending, left_by, length_or}
use Rattle.compose.specs.Writers.{draft_of}
use Rattle.compose.specs.declared.request.Finished.{Finished}
use Rattle.compose.proofs.Holding.{finished-length, holds-finished, ok-finished}
use Rattle.compose.proofs.ReadingBack.{reads-back, within-limit}
use Rattle.std.specs.Coded.{le_prop}
use Rattle.std.proofs.Math.Logic.{∥∥₁_elim}
use Rattle.std.proofs.Common.{Bool, true, false, cond, Some, None, Option, refl}
use Rattle.std.specs.Prelude.{is_some}
use Rattle.compose.specs.Made.{Made, len_of}
use Rattle.compose.specs.Drafts.{bad_part, request_len}
use Rattle.compose.specs.declared.request.Begun.{Begun}
use Rattle.compose.proofs.request.RequestWriter.finish.Goals as goal
use Rattle.compose.proofs.request.RequestWriter.finish.Goals.{After-drop-closing}

-- the flag is set exactly where the request is finished
left : (c : After-drop-closing)
    → c.drop-closing.new.self.0 ≡ left_by (closed (draft_of c.args.self))
left c =
    let d = draft_of c.args.self in
    let kept = c.is_ok.ensures.value ∙ ap is_ok c.request_len-answer.ensures
    ∙ sym (ok-finished d) in
    c.drop-closing.ensures ∙ ap (λ k. left_by (record d { kept = k })) kept

lengths : (c : After-drop-closing)
    → result_map_both (λ f. f.len) (λ e. e) c.map.result ≡ length_or (ending (draft_of c.args.self))
lengths c = let same : result_map_both (λ f. f.len) (λ e. e) c.map.result
    ≡ c.request_len-answer.result = search rules in same ∙ c.request_len-answer.ensures
    ∙ sym (finished-length (draft_of c.args.self))

same-len : (b : Bool) (m n : ℕ) → ◌≡◌ {A = Result ℕ Refusal} (Ok m) (cond b (Err bad_part) (Ok n))
    → m ≡ n
same-len true m n is = absurd (let z : ◌≡◌ {A = ℕ} 0 1 = cc in omega arith)
same-len false m n is = cc

-- a length that is answered is that of some pairs
within : (name : Name) (begun : Option Begun) (r : Result Finished Refusal) → Made name begun
    → result_map_both (λ f. f.len) (λ e. e) r ≡ request_len name (is_some begun) (len_of begun)
    → IfOk r (λ f. f.len ≤ request_limit)
within name begun (Err e) made is = tt
within name None (Ok f) made is = absurd (let z : ◌≡◌ {A = ℕ} 0 1 = cc in omega arith)
within name (Some b) (Ok f) made is =
    let same = same-len _ f.len b.len is in
    ∥∥₁_elim (made refl) le_prop
    (λ t. omega (arith, same, t.1.size, within-limit name t.0 t.1.fit))

pub returns-clause-bytes : goal.returns-clause-bytes
returns-clause-bytes c = left (goal.at.returns-clause-bytes c).After-drop-closing

pub returns-clause-answer : goal.returns-clause-answer
returns-clause-answer c = lengths (goal.at.returns-clause-answer c).After-drop-closing

pub returns-clause-pairs : goal.returns-clause-pairs
returns-clause-pairs c xs h =
    let here = (goal.at.returns-clause-pairs c).After-drop-closing in
    let all = holds-finished (draft_of c.args.self) xs h in
    (lengths here ∙ all.0, left here ∙ all.1)

pub returns-clause-limit : goal.returns-clause-limit
returns-clause-limit c =
    let here = (goal.at.returns-clause-limit c).After-drop-closing in
    within c.args.self.name c.args.self.begun c.map.result c.args.self.made
    (lengths here ∙ finished-length (draft_of c.args.self))

pub returns-clause-reads : goal.returns-clause-reads
returns-clause-reads c = reads-back reads-asked

pub returns-clause-within : goal.returns-clause-within
returns-clause-within c = within-limit
