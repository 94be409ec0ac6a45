use Rattle.std.proofs.Common.{ℕ, List, ◌∷◌, [], ap, length, decimal, arith}
use Rattle.std.proofs.lemmas.Fmt.{length-decimal-le_succ}
use Rattle.std.proofs.lemmas.List.{length-append}
use Rattle.tlcp.specs.Bounds.{bounded_text}
use Rattle.tlcp.specs.Written.{piped_limit}
use Rattle.tlcp.proofs.Appending.{adds-is, adds-then, adding, run_long}
use Rattle.tlcp.proofs.list_write.put_run.Goals as goal

pub returns : goal.returns
returns c =
    let many = c.if-run-le3.false in
    let s = bounded_text c.args.list.now in
    let mark : List ℕ = 124 ∷ 94 ∷ [] in
    let caret = adding piped_limit s mark _ _ (omega (arith, c.requires.room)) c.in_ok-put.ensures.answer c.in_ok-put.ensures.text in
    let number = adding piped_limit (bounded_text c.put-2.new.self) (decimal c.args.run) _ _
    (omega (arith, c.requires.room, c.requires.few, ap length caret.text, length-append s mark, length-decimal-le_succ c.args.run (omega arith))) c.put_number.ensures.answer c.put_number.ensures.text in
    adds-is (run_long c.args.run many) (adds-then caret number)
