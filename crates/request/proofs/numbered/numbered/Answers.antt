use Rattle.std.proofs.Common.{length, decimal, ap, ◌∙◌, ◌++◌, arith}
use Rattle.std.proofs.lemmas.Fmt.{length-decimal-le}
use Rattle.std.proofs.lemmas.List.{length-append}
use Rattle.tlcp.specs.Bounds.{bounded_text}
use Rattle.tlcp.proofs.Appending.{adding}
use Rattle.request.proofs.numbered.numbered.Goals as goal

pub returns : goal.returns
returns c =
    let front = c.args.front.now in
    let n = c.from.result in
    let start = bounded_text c.new-text.result in
    let none = c.new-text.ensures in
    let short = length-decimal-le 10 n (omega arith) (omega arith) (omega (arith, c.from.ensures)) in
    let first = adding _ start front _ _ (omega (arith, c.requires, ap length none)) c.put.ensures.answer c.put.ensures.text in
    let both = adding _ (bounded_text c.put.new.self) (decimal n) _ _ (omega (arith, c.requires, short, ap length none, ap length first.text, length-append start front)) c.put_number.ensures.answer c.put_number.ensures.text in
    both.text ∙ ap (λ s. s ++ decimal n) (first.text ∙ ap (λ s. s ++ front) none)
    ∙ ap (λ k. front ++ decimal k) c.from.ensures
