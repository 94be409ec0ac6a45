-- The lines of an input.
use Rattle.std.specs.Prelude.{ℕ, ◌-◌, Bool, cond, ◌&&◌, List, [], ◌∷◌, length, take, ◌==◌, nat_lt}
use Rattle.std.specs.Prelude.{slice_index}
use Rattle.tlcp.specs.Parts.{divided_by}
use Rattle.streams.specs.Ends.{line_feed}

abbrev pub ends_in_cr : List ℕ → Bool
ends_in_cr s = nat_lt 0 (length s) && slice_index s (length s - 1) == 13

-- a line without the CR of its end
abbrev pub bare : List ℕ → List ℕ
bare s = cond (ends_in_cr s) (take (length s - 1) s) s

-- what no LF ends is a line if it has a byte, and keeps a CR
abbrev pub unended : List ℕ → List (List ℕ)
unended [] = []
unended (b ∷ s) = (b ∷ s) ∷ []

-- a text, and the texts behind the LF at its end, as lines: only the last has no LF at its end
abbrev pub lines_from : List ℕ → List (List ℕ) → List (List ℕ)
lines_from text [] = unended text
lines_from text (next ∷ more) = bare text ∷ lines_from next more

-- the texts between the LFs of an input, as lines
abbrev pub lines_among : List (List ℕ) → List (List ℕ)
lines_among [] = []
lines_among (text ∷ more) = lines_from text more

-- the lines of an input: each ends with LF or CR LF, and is given without
abbrev pub lines_of : List ℕ → List (List ℕ)
lines_of input = lines_among (divided_by line_feed input)

-- the lines among these texts that have ended: all but the last
abbrev pub ended_from : List ℕ → List (List ℕ) → List (List ℕ)
ended_from text [] = []
ended_from text (next ∷ more) = bare text ∷ ended_from next more

abbrev pub ended_among : List (List ℕ) → List (List ℕ)
ended_among [] = []
ended_among (text ∷ more) = ended_from text more

-- the lines of the first bytes of an input: what no LF ends is no line yet
abbrev pub ended_lines : List ℕ → List (List ℕ)
ended_lines input = ended_among (divided_by line_feed input)
