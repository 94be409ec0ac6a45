-- What is printed of an input: for its lines in order the answer to each, and then what is said at
-- the end.
use Rattle.std.specs.Prelude.{◌≡◌, ℕ, ◌+◌, ◌≤◌, List, [], ◌∷◌, ◌++◌, decimal, take}
use Rattle.streams.specs.Ends.{line_feed}
use Rattle.streams.specs.Lines.{bare, ended_lines, lines_of}

-- what becomes of a listener that hears a line, what it answers, and what it says at the end
pub record Hearing (A : Type 0) : Type 0 where
  pub next : A → List ℕ → A
  pub answer : A → List ℕ → List ℕ
  pub closing : A → List ℕ

-- the answer to the line with the number n, as it is printed
abbrev pub answer_line : ℕ → List ℕ → List ℕ
answer_line n answer = decimal n ++ (answer ++ line_feed ∷ [])

module _ {A : Type 0} (h : Hearing A) where
  -- each of the lines, the first with the number n, is answered by what heard the lines before it,
  -- which then says the rest
  abbrev pub answers : (A → List ℕ) → A → ℕ → List (List ℕ) → List ℕ
  answers rest a n [] = rest a
  answers rest a n (line ∷ lines) =
      answer_line n (h.answer a line) ++ answers rest (h.next a line) (n + 1) lines

  -- all that is printed of an input
  abbrev pub printed : A → List ℕ → List ℕ
  printed a input = answers h.closing a 1 (lines_of input)

  -- what is printed of the first bytes of an input
  abbrev pub printed_so_far : A → List ℕ → List ℕ
  printed_so_far a input = answers (λ _. []) a 1 (ended_lines input)

  -- two lines are one to a listener
  abbrev pub HeardAlike : A → List ℕ → List ℕ → Type 0
  HeardAlike a s t = (h.next a s ≡ h.next a t) × (h.answer a s ≡ h.answer a t)

-- who hears so many bytes of a line hears the line, whether it ends or not
pub record Enough (limit : ℕ) {A : Type 0} (h : Hearing A) : Type 0 where
  pub some : 1 ≤ limit
  pub ended : (a : A) (line : List ℕ) → HeardAlike h a (bare (take limit line)) (bare line)
  pub unended : (a : A) (line : List ℕ) → HeardAlike h a (take limit line) line
