use Rattle.std.proofs.Common.{◌≡◌, Some, sym, ap, ◌∙◌, arith}
use Rattle.std.specs.Option.{option_map}
use Rattle.requests.specs.Answers.{request_in}
use Rattle.request.specs.Spelling.{unspelled}
use Rattle.request.proofs.Checks.{checked-written}
use Rattle.request.proofs.answer.check.Goals as goal
use Rattle.request.proofs.answer.check.Goals.{After-deref}

spells : (c : After-deref) → Some c.deref.result.now ≡ unspelled c.args.line.now
spells c =
    ap Some c.deref.ensures.0
    ∙ sym (ap (option_map (λ _. c.unspell.new.bytes.items)) c.in_ok-ok_or.ensures.ok_part)
    ∙ c.unspell.ensures

pub returns : goal.returns
returns c =
    checked-written c.args.session c.args.line.now c.deref.result.now (omega arith) (spells (goal.at.returns c).After-deref) (request_in c.in_ok-request.request) c.args.text.now c.write_anew.result c.write_anew.new.out c.requires c.in_ok-request.ensures.answer c.write_anew.ensures
