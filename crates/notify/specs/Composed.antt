-- A line composed argument by argument.
use Rattle.std.specs.Prelude.{ℕ, cond, List, [], ◌∷◌, ◌++◌, Ok, Err, Result}
use Rattle.row.specs.declared.fault.Refusal.{Refusal}
use Rattle.tlcp.specs.Bounds.{has_room, bounded_text}
use Rattle.tlcp.specs.Written.{no_room}
use Rattle.tlcp.specs.Limits.{line_limit}
use Rattle.tlcp.specs.Lines.{and_then}
use Rattle.notify.specs.Given.{Given, spell}
use Rattle.notify.specs.declared.draft.Draft.{Draft}

-- what has been composed so far
abbrev pub drafted : Draft → List ℕ
drafted d = bounded_text {N = line_limit} d.line

-- s and then t, if a line may be so long
abbrev pub lengthened : List ℕ → List ℕ → Result (List ℕ) Refusal
lengthened s t = cond (has_room line_limit s t) (Ok (s ++ t)) (Err no_room)

abbrev pub composed : List ℕ → List Given → Result (List ℕ) Refusal
composed s [] = Ok s
composed s (g ∷ gs) = and_then (lengthened s (44 ∷ spell g)) (λ line. composed line gs)
