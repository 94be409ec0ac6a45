use Rattle.std.proofs.Common.{◌≡◌, length, vec_items}
use Rattle.streams.specs.Feeding.{after, fed}
use Rattle.streams.specs.Streams.{state_of}
use Rattle.streams.proofs.stream.Stream.feed.Given as goal

-- what is left of the block, behind what has been appended, comes to what the whole block does
abbrev pub invariant-loop-rest : goal.invariant-loop-rest
invariant-loop-rest g l =
    after (vec_items l.initial.out)
    (fed g.H.Hear.LIMIT g.H.Hear.hearing (state_of l.initial.self) l.block) ≡ after
    (vec_items l.out) (fed g.H.Hear.LIMIT g.H.Hear.hearing (state_of l.self) l.left)

abbrev pub decreases-loop-rest : goal.decreases-loop-rest
decreases-loop-rest g l = length l.left
