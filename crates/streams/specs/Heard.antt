-- What hearing a line does.
use Rattle.std.specs.Prelude.{◌≡◌, ℕ, List, ◌++◌}
use Rattle.streams.specs.Answers.{Hearing}

-- a listener heard a line, and its answer was appended
abbrev pub Heard : {A : Type 0} → Hearing A → A → A → List ℕ → List ℕ → List ℕ → Type 0
Heard h old new line before after = (new ≡ h.next old line) × (after ≡ before ++ h.answer old line)
