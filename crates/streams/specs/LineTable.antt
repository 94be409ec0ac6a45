-- Inputs and their lines, byte by byte: CR is 13 and LF is 10.
use Rattle.std.specs.Prelude.{◌≡◌, ℕ, List, [], ◌∷◌, ◌++◌, codes}
use Rattle.streams.specs.Lines.{bare, ended_lines, lines_of}

-- lines that end with CR LF or LF, an empty one, one that keeps a CR, and one without an end
abbrev pub mixed : List ℕ
mixed = codes "ab" ++ 13 ∷ 10 ∷ codes "c" ++ 10 ∷ 10 ∷ 13 ∷ 13 ∷ 10 ∷ 97 ∷ 13 ∷ []

pub record LineTable : Type 0 where
  pub lines : lines_of mixed
      ≡ codes "ab" ∷ codes "c" ∷ [] ∷ (13 ∷ []) ∷ (97 ∷ 13 ∷ []) ∷ []
  -- what no LF ends has not ended
  pub ended : ended_lines mixed ≡ codes "ab" ∷ codes "c" ∷ [] ∷ (13 ∷ []) ∷ []
  pub no_lines : lines_of [] ≡ []
  pub none_ended : ended_lines [] ≡ []
  -- behind the last LF there is no empty line
  pub last_ended : lines_of (codes "a" ++ 10 ∷ []) ≡ codes "a" ∷ []
  pub only_end : lines_of (10 ∷ []) ≡ [] ∷ []
  -- a CR ends no line
  pub cr_inside : lines_of (codes "a" ++ 13 ∷ codes "b" ++ 10 ∷ [])
      ≡ (codes "a" ++ 13 ∷ codes "b") ∷ []
  pub cr_alone : lines_of (13 ∷ []) ≡ (13 ∷ []) ∷ []
  -- of a line's end, one CR goes
  pub bare_one : bare (codes "a" ++ 13 ∷ []) ≡ codes "a"
  pub bare_two : bare (13 ∷ 13 ∷ []) ≡ 13 ∷ []
  pub bare_none : bare (codes "ab") ≡ codes "ab"
  pub bare_empty : bare [] ≡ []
