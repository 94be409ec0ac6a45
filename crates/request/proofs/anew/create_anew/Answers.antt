use Rattle.std.proofs.Common.{◌≡◌, ℕ, cond, List, [], ◌∷◌, Some, None, Err, Option, sym, refl, ap}
use Rattle.std.proofs.Common.{◌∙◌, rules, codes}
use Rattle.std.specs.Prelude.{is_some}
use Rattle.std.specs.Option.{option_map}
use Rattle.std.specs.Result.{result_map_both}
use Rattle.std.proofs.lemmas.Bool.{cond-true, cond-false}
use Rattle.std.proofs.lemmas.Result.{err_from_is_err_and}
use Rattle.requests.specs.Read.{word_text}
use Rattle.requests.specs.Requests.{create}
use Rattle.requests.specs.declared.name.Name.TheVariants.{CreateSession}
use Rattle.requests.specs.declared.name.Parameter.TheVariants.{Cid, User, Password}
use Rattle.compose.specs.Drafts.{add_answer, add_to}
use Rattle.compose.specs.Writers.{draft_of}
use Rattle.compose.specs.Written.{assign}
use Rattle.request.specs.Anew.{optional, redacted}
use Rattle.request.proofs.Adding.{Added, added-next, added-none, anew-finished, anew-refused}
use Rattle.request.proofs.anew.create_anew.Goals as goal
use Rattle.request.proofs.anew.create_anew.Goals.{After-is_some, in-Some+in_ok-add-2, in_default}
use Rattle.request.proofs.anew.create_anew.Goals.{then-is_some+in_ok-add-3, else-is_some}

-- the lent bytes end as the writer left them
ends : {xs ys zs : List ℕ} → ys ≡ zs → xs ≡ ys → xs ≡ zs
ends p q = q ∙ p

-- what the writer holds once it has begun, with the cid, and with the user if there is one
begun : (c : After-is_some) → Added CreateSession c.args.out.now (λ ys. ys)
    (draft_of c.new-request.result)
begun c = added-none CreateSession c.args.out.now _ c.new-request.ensures.draft

with_cid : (c : After-is_some) → Added CreateSession c.args.out.now
    (λ ys. assign Cid (word_text c.args.cid) ∷ ys) (draft_of c.add.new.self)
with_cid c =
    let h = c.in_ok-add.ensures in
    let d = draft_of c.new-request.result in
    added-next CreateSession c.args.out.now _ d _ (begun c) _
    (h.draft ∙ ap (λ t. add_to d (assign Cid t)) c.text.ensures)
    (h.answer ∙ ap (λ t. add_answer d (assign Cid t)) c.text.ensures)

with_user : (c : After-is_some) → Added CreateSession c.args.out.now
    (λ ys. assign Cid (word_text c.args.cid) ∷ optional User (option_map word_text c.args.user) ys)
    (draft_of c.match-user.request)
with_user c =
    let d = draft_of c.add.new.self in
    elim c.match-user.branch [
      | in-Some+in_ok-add-2 w ↦
          let h = w.in_ok-add-2.ensures in
          rw (w.request-is, w.in-Some.is)
          (added-next CreateSession c.args.out.now _ d _ (with_cid c) _
          (h.draft ∙ ap (λ t. add_to d (assign User t)) w.text-in-Some.ensures)
          (h.answer ∙ ap (λ t. add_answer d (assign User t)) w.text-in-Some.ensures))
      | in_default w ↦ rw (w.request-is, w.in_default.is) (with_cid c)
    ]

-- the writer still has the same bytes
lent : (c : After-is_some) → c.match-user.request.out.ghost_name
    ≡ c.new-request.result.out.ghost_name
lent c =
    let first = c.in_ok-add.ensures.lent in
    elim c.match-user.branch [
      | in-Some+in_ok-add-2 w ↦ ap (λ r. r.out.ghost_name) w.request-is
          ∙ w.in_ok-add-2.ensures.lent ∙ first
      | in_default w ↦ ap (λ r. r.out.ghost_name) w.request-is ∙ first
    ]

-- a password that is given is hidden
hidden : {X : Type 0} (f : X → List ℕ) (o : Option X)
    → redacted (option_map f o) ≡ cond (is_some o) (Some (codes "redacted")) None
hidden f None = refl
hidden f (Some x) = refl

pub returns-in_err-add-3 : goal.returns-in_err-add-3
returns-in_err-add-3 c session =
    let h = c.in_err-add-3.ensures in
    let e = err_from_is_err_and c.from_residual-in_err-add-3.result c.from_residual-in_err-add-3.ensures.1 in
    let b = (goal.at.returns-in_err-add-3 c).After-is_some in
    let cid = word_text c.args.cid in
    let user = option_map word_text c.args.user in
    let is = hidden word_text c.args.password
    ∙ cond-true _ _ _ (sym c.is_some.ensures ∙ c.if-is_some.true) in
    let same = lent b in
    anew-refused session (create cid user (option_map word_text c.args.password)) c.args.out.now _
    (draft_of c.match-user.request) (with_user b) _ _ (assign Password (codes "redacted")) []
    (draft_of c.add-then-is_some.new.self) c.in_err-add-3.field-0.0
    (ap (λ o. assign Cid cid ∷ optional User user (optional Password o [])) is) h.draft h.answer
    (e.1 ∙ ap Err e.2) (ends c.drop-request-in_err-add-3.ensures (search rules))

pub returns : goal.returns
returns c session =
    let b = (goal.at.returns c).After-is_some in
    let cid = word_text c.args.cid in
    let user = option_map word_text c.args.user in
    let d = draft_of c.match-user.request in
    let all : Added CreateSession c.args.out.now
    (λ ys. assign Cid cid ∷ optional User user
    (optional Password (redacted (option_map word_text c.args.password)) ys))
    (draft_of c.if-is_some.request) =
    elim c.if-is_some.branch [
      | then-is_some+in_ok-add-3 w ↦
          let h = w.in_ok-add-3.ensures in
          rw (
            w.request-is,
            hidden word_text c.args.password
                ∙ cond-true _ _ _ (sym c.is_some.ensures ∙ w.if-is_some.true),
          )
          (added-next CreateSession c.args.out.now _ d _ (with_user b) _ h.draft h.answer)
      | else-is_some w ↦ rw (
        w.request-is,
        hidden word_text c.args.password
            ∙ cond-false _ _ _ (sym c.is_some.ensures ∙ w.if-is_some.false),
      ) (with_user b)
    ] in
    let same : c.if-is_some.request.out.ghost_name ≡ c.new-request.result.out.ghost_name =
    elim c.if-is_some.branch [
      | then-is_some+in_ok-add-3 w ↦ ap (λ r. r.out.ghost_name) w.request-is
          ∙ w.in_ok-add-3.ensures.lent ∙ lent b
      | else-is_some w ↦ ap (λ r. r.out.ghost_name) w.request-is ∙ lent b
    ] in
    let len : c.map.result ≡ result_map_both (λ f. f.len) (λ e. e) c.finish.result = search rules in
    anew-finished session (create cid user (option_map word_text c.args.password)) c.args.out.now _
    (draft_of c.if-is_some.request) all _ _ refl (len ∙ c.finish.ensures.answer)
    (ends c.finish.ensures.bytes (search rules))
