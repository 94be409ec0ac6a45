use Rattle.streams.proofs.Fed.{cut-anywhere, fed-all}
use Rattle.streams.proofs.Long.{enough_beyond}
use Rattle.streams.proofs.Printing.{prints-all}
use Rattle.streams.proofs.Table.{line-table}
use Rattle.streams.proofs.stream.Stream.new.Goals as goal

pub returns-clause-blocks : goal.returns-clause-blocks
returns-clause-blocks g c = cut-anywhere g.H.Hear.LIMIT g.H.Hear.hearing

pub returns-clause-as_one : goal.returns-clause-as_one
returns-clause-as_one g c = fed-all g.H.Hear.LIMIT g.H.Hear.hearing

pub returns-clause-prints : goal.returns-clause-prints
returns-clause-prints g c = prints-all g.H.Hear.LIMIT g.H.Hear.hearing g.met.H.Hear.enough

pub returns-clause-lines : goal.returns-clause-lines
returns-clause-lines g c = line-table

pub returns-clause-beyond : goal.returns-clause-beyond
returns-clause-beyond g c = enough_beyond g.H.Hear.hearing
