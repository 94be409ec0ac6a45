use Rattle.std.proofs.Common.{arith, rules}
use Rattle.tlcp.proofs.Places.{cut-here, cut-nowhere, found-at, found-nowhere}
use Rattle.tlcp.proofs.text.split.Goals as goal

pub returns-in-Some : goal.returns-in-Some
returns-in-Some c =
    let s = c.args.s.now in
    let found = found-at c.args.b s c.in-Some.end c.in-Some.ensures.value in
    let h = cut-here c.args.b s c.in-Some.end found.0 found.1 in
    record { front = h.0; back = h.1; within = omega (arith, h.2); sizes = h.2 }

pub returns-in-None-clause-front : goal.returns-in-None-clause-front
returns-in-None-clause-front c = search (rules, found-nowhere, cut-nowhere)

pub returns-in-None-clause-back : goal.returns-in-None-clause-back
returns-in-None-clause-back c = search (rules, found-nowhere, cut-nowhere)
