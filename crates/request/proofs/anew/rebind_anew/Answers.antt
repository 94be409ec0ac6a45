use Rattle.std.proofs.Common.{[], ◌∷◌, ap, ◌∙◌}
use Rattle.requests.specs.Read.{word_text}
use Rattle.requests.specs.Requests.{rebind}
use Rattle.requests.specs.declared.name.Parameter.TheVariants.{RequestId, Operation}
use Rattle.compose.specs.Written.{assign}
use Rattle.request.proofs.Anewed.{anew-from}
use Rattle.request.proofs.anew.rebind_anew.Goals as goal

pub returns : goal.returns
returns c session =
    let request = c.new.ensures ∙ ap (assign RequestId) c.text.ensures in
    let operation = c.new-2.ensures ∙ ap (assign Operation) c.word.ensures in
    anew-from session
    (rebind (word_text c.args.request)) c.args.out.now c.compose.result c.compose.new.out _
    (λ i. request i ∷ operation i ∷ []) c.compose.ensures.answer c.compose.ensures.bytes
