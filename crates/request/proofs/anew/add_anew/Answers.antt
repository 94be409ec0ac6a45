use Rattle.std.proofs.Common.{[], ◌∷◌, ap, ◌∙◌}
use Rattle.requests.specs.Read.{word_text}
use Rattle.requests.specs.Requests.{add}
use Rattle.requests.specs.declared.name.Parameter.TheVariants.{RequestId, Operation, SubscriptionId}
use Rattle.requests.specs.declared.name.Parameter.TheVariants.{Group}
use Rattle.compose.specs.Written.{assign}
use Rattle.request.proofs.Anewed.{anew-from}
use Rattle.request.proofs.anew.add_anew.Goals as goal

pub returns : goal.returns
returns c session =
    let request = c.new.ensures ∙ ap (assign RequestId) c.text.ensures in
    let operation = c.new-2.ensures ∙ ap (assign Operation) c.word.ensures in
    let id =
    c.new-3.ensures ∙ ap (assign SubscriptionId) (c.text-2.ensures ∙ c.numbered-id.ensures) in
    let group = c.new-4.ensures ∙ ap (assign Group) c.text-3.ensures in
    anew-from session
    (add (word_text c.args.request) c.args.subscription
    (word_text c.args.group)) c.args.out.now c.compose.result c.compose.new.out _
    (λ i. request i ∷ operation i ∷ id i ∷ group i ∷ c.new-5.ensures i ∷ c.new-6.ensures i
    ∷ c.new-7.ensures i ∷ [])
    c.compose.ensures.answer c.compose.ensures.bytes
