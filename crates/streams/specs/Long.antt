-- Who hears each line beyond a length as every other has heard enough with two bytes more.
use Rattle.std.specs.Prelude.{ℕ, ◌+◌, ◌<◌, ◌≤◌, List, length}
use Rattle.streams.specs.Answers.{Hearing, HeardAlike, Enough}

module _ {A : Type 0} (h : Hearing A) where
  -- all lines of more than `most` bytes are one to a listener
  abbrev pub LongAlike : ℕ → Type 0
  LongAlike most = (a : A) (s t : List ℕ) → most < length s → most < length t → HeardAlike h a s t

  -- of the two bytes, one may be a CR that is no part of the line
  abbrev pub EnoughBeyond : ℕ → Type 0
  EnoughBeyond most = LongAlike most → (limit : ℕ) → most + 2 ≤ limit → Enough limit h
