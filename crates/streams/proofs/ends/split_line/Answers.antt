use Rattle.std.proofs.Common.{sym, refl, ◌∙◌}
use Rattle.tlcp.proofs.Places.{found-at, found-nowhere, cut-here, cut-nowhere}
use Rattle.streams.specs.Ends.{line_feed}
use Rattle.streams.proofs.ends.split_line.Goals as goal

pub returns-in-Some : goal.returns-in-Some
returns-in-Some c =
    let s = c.args.s.now in
    let (is, within) = found-at line_feed s c.in-Some.end (sym c.in-Some.is ∙ c.find_end.ensures) in
    let h = cut-here line_feed s c.in-Some.end is within in
    record { front = h.0; back = h.1; sizes = h.2 }

pub returns-in-None : goal.returns-in-None
returns-in-None c =
    let s = c.args.s.now in
    let h = cut-nowhere line_feed s (found-nowhere line_feed s (sym c.in-None.is ∙ c.find_end.ensures)) in
    record { front = h.0; back = h.1; sizes = refl }
