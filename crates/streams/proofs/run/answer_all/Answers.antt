use Rattle.std.proofs.Common.{◌-◌, ◌^◌, ◌≤◌, ◌⊎◌, length, take, inl, inr, ap, subst, arith}
use Rattle.std.proofs.lemmas.Result.{on_ok_weaker}
use Rattle.std.specs.Io.KnownBytes.{Appends, IsAtEnd}
use Rattle.streams.specs.Answers.{printed}
use Rattle.streams.specs.Feeding.{fed, finished, fresh}
use Rattle.streams.proofs.Known.{appends-more, at-end, consumes-kept, seen-all}
use Rattle.streams.proofs.Printing.{prints-lines, prints-so-far}
use Rattle.streams.proofs.run.answer_all.Goals as goal
use Rattle.streams.proofs.run.answer_all.Goals.{else-loop-test, then-loop-test+in-Ok-eq0}

pub returns-in-Err-clause-so_far : goal.returns-in-Err-clause-so_far
returns-in-Err-clause-so_far g c =
    let (seen, so) = c.loop.invariant in
    let written =
    Appends (g.W.Write.contents c.args.output.now) (g.W.Write.contents c.loop.output) in (
      seen,
      consumes-kept (g.R.Read.remaining c.args.input.now) (g.R.Read.remaining c.loop.input)
          (g.R.Read.remaining c.read.new.self) seen so.read c.in-Err.ensures.bytes,
      λ few. subst written
          (prints-so-far g.H.Hear.LIMIT g.H.Hear.hearing g.met.H.Hear.enough c.args.listener seen few) so.wrote,
    )

pub returns-clause-all : goal.returns-clause-all
returns-clause-all g c =
    let (seen, so) = c.loop.invariant in
    let all = fed g.H.Hear.LIMIT g.H.Hear.hearing (fresh c.args.listener) seen in
    let last = finished g.H.Hear.LIMIT g.H.Hear.hearing in
    let before = g.W.Write.contents c.args.output.now in
    let looped = g.W.Write.contents c.loop.output in
    let behind = g.W.Write.contents c.answer_end.new.output in
    let input = g.R.Read.remaining c.loop.input in
    let ended : IsAtEnd input ⊎ (2 ^ 64 - 1 ≤ length seen) = elim c.loop-test.branch [
      | else-loop-test w ↦ inr (omega (arith, so.turns, w.loop-test.false))
      | then-loop-test+in-Ok-eq0 w ↦
          inl
          (at-end input (g.R.Read.remaining w.read.new.self) _
          (ap (λ n. take n w.read.new.buf) w.in-Ok-eq0.field-0-test) w.in-Ok-eq0.ensures.bytes.0
          (w.in-Ok-eq0.ensures.bytes.1 w.in-Ok-eq0.field-0-test (omega (arith, so.block))))
    ] in
    let P = Appends before behind in
    on_ok_weaker c.answer_end.result
    (λ more. seen-all (g.R.Read.remaining c.args.input.now) input seen
    (λ s. P (printed g.H.Hear.hearing c.args.listener s)) so.read ended
    (λ few. subst P
    (prints-lines g.H.Hear.LIMIT g.H.Hear.hearing g.met.H.Hear.enough c.args.listener seen few)
    (appends-more before looped behind all.text (last all.state).text so.wrote
    (subst (λ st. Appends looped behind (last st).text) so.state more))))
    c.answer_end.ensures.written
