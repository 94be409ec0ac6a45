-- The state that a stream is in, and what a call has done.
use Rattle.std.specs.Prelude.{◌≡◌, ℕ, List, [], ◌++◌, vec_items}
use Rattle.streams.specs.Feeding.{State, Step}
use Rattle.streams.specs.declared.stream.Counted.{Counted}
use Rattle.streams.specs.declared.stream.Stream.{Stream}

-- what has been heard, and the bytes of a line that has not ended
abbrev pub state_with : {H : Type 0} → Counted H → List ℕ → State H
state_with c held = record { listener = c.listener; held = held; count = c.count }

abbrev pub state_of : {H : Type 0} → Stream H → State H
state_of s = state_with s.counted (vec_items s.held)

-- a call came to this step's state, and appended its text
abbrev pub Fed : {H : Type 0} → Step H → Stream H → List ℕ → List ℕ → Type 0
Fed step s before after = (state_of s ≡ step.state) × (after ≡ before ++ step.text)

-- a line was heard, and its answer was appended
abbrev pub HeardLine : {H : Type 0} → Step H → Counted H → List ℕ → List ℕ → Type 0
HeardLine step c before after = (state_with c [] ≡ step.state) × (after ≡ before ++ step.text)
