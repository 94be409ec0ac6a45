-- What a call has done that answers an input, by the bytes that the reader has left and the writer
-- holds, where those are known.
use Rattle.std.specs.Prelude.{ℕ, ◌+◌, ◌^◌, ◌<◌, ⊤, List, length, IfSome, Ok, Err, Option, Result}
use Rattle.std.specs.Io.KnownBytes.{Appends, Consumes}
use Rattle.streams.specs.Answers.{Hearing, printed, printed_so_far}
use Rattle.streams.specs.declared.failure.Failure.{Failure}
use Rattle.streams.specs.declared.failure.Failure.TheVariants.{Read, Memory, Write}

-- P, if a read failed
abbrev pub OnReadFailure : {X : Type 0} → Result X Failure → Type 0 → Type 0
OnReadFailure (Ok x) P = ⊤
OnReadFailure (Err (Read e)) P = P
OnReadFailure (Err (Memory e)) P = ⊤
OnReadFailure (Err (Write e)) P = ⊤

module _ {A : Type 0} (h : Hearing A) (a : A) (input left before after : Option (List ℕ)) where
  -- what is printed of the whole input was written
  abbrev pub AnswersAll : Type 0
  AnswersAll = IfSome input (λ s. length s + 1 < 2 ^ 64 → Appends before after (printed h a s))

  -- s was read of the input, and what is printed of s was written
  abbrev pub AnswersSoFar : Type 0
  AnswersSoFar =
      (s : List ℕ) × Consumes input left s
      × (length s < 2 ^ 64 → Appends before after (printed_so_far h a s))
