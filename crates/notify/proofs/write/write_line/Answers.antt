use Rattle.std.proofs.lemmas.Result.{err_from_is_err_and}
use Rattle.notify.specs.Given.{saying_of}
use Rattle.notify.proofs.Backing.{read_back, unbroken}
use Rattle.notify.proofs.Composing.{line_refused, line-answer, line-placed}
use Rattle.notify.proofs.write.write_line.Goals as goal

pub returns-in_err-compose : goal.returns-in_err-compose
returns-in_err-compose c =
    let p = err_from_is_err_and c.from_residual.result c.from_residual.ensures.1 in
    let h = line_refused (saying_of c.args.message) c.args.at c.args.out.now c.if-is_within.ensures _ c.in_err-compose.ensures.line in
    rw (p.1, p.2) (record {
      answer =
          h.0;
      bytes = h.1;
      read_back = λ is. absurd (h.2 is);
      unbroken = λ is. absurd (h.2 is);
    })

pub returns-in_ok-compose : goal.returns-in_ok-compose
returns-in_ok-compose c =
    let s = saying_of c.args.message in
    let at = c.args.at in
    let out = c.args.out.now in
    let within = c.if-is_within.ensures in
    let line = c.in_ok-compose.ensures in
    record {
      answer = line-answer s at out within _ line.line c.put.ensures.answer;
      bytes = line-placed s at out within _ line.line c.put.ensures.bytes;
      read_back = read_back s line.bytes;
      unbroken = unbroken s line.bytes;
    }
