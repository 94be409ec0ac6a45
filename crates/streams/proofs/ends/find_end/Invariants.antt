use Rattle.std.proofs.Common.{◌≡◌, ◌+◌, ◌*◌, length, drop}
use Rattle.tlcp.specs.Parts.{place_of}
use Rattle.streams.specs.Ends.{line_feed}
use Rattle.streams.proofs.ends.find_end.Given as goal

-- no line ends in the parts that came
abbrev pub invariant-loop-i : goal.invariant-loop-i
invariant-loop-i l = record {
  can_next : (goal.iterator-loop-i).can_next l.i-iterator;
  is_finite : (goal.iterator-loop-i).is_finite l.i-iterator;
  size : l.i-iterator.iter.size ≡ 16;
  left : l.i-iterator.iter.rest.now ≡ drop (16 * l.i-iterator.count) l.s;
  long : 16 * l.i-iterator.count + length l.i-iterator.iter.rest.now ≡ length l.s;
  place :
      16 * l.i-iterator.count + place_of line_feed l.i-iterator.iter.rest.now
      ≡ place_of line_feed l.s;
}
