use Rattle.std.proofs.Common.{◌≡◌, ◌≤◌, ◌++◌, length, drop}
use Rattle.std.specs.Option.{option_map}
use Rattle.request.specs.Spelling.{unspelled, unspelled_from}
use Rattle.request.proofs.unspell.unspell.Given as goal

-- the bytes are known, and the rest of the line goes on with them
abbrev pub invariant-loop-b : goal.invariant-loop-b
invariant-loop-b l = record {
  room : length l.bytes.items ≤ l.b-index;
  goes :
      unspelled l.line
      ≡ option_map (λ t. l.bytes.items ++ t) (unspelled_from l.behind (drop l.b-index l.line));
}
