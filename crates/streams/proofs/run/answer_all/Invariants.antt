use Rattle.std.proofs.Common.{◌≡◌, ◌≤◌, ℕ, List, length}
use Rattle.std.specs.Io.KnownBytes.{Appends, Consumes}
use Rattle.streams.specs.Feeding.{fed, fresh}
use Rattle.streams.specs.Streams.{state_of}
use Rattle.streams.proofs.run.answer_all.Given as goal

-- the answers to what has been seen have been written
abbrev pub invariant-loop : goal.invariant-loop
invariant-loop g l =
    (seen : List ℕ) × record {
      turns : l.counter ≤ length seen;
      read : Consumes (g.R.Read.remaining l.initial.input) (g.R.Read.remaining l.input) seen;
      wrote : Appends (g.W.Write.contents l.initial.output) (g.W.Write.contents l.output)
          (fed g.H.Hear.LIMIT g.H.Hear.hearing (fresh l.fn.listener) seen).text;
      state : state_of l.stream ≡
          (fed g.H.Hear.LIMIT g.H.Hear.hearing (fresh l.fn.listener) seen).state;
      block : length l.block ≡ 65536;
    }
