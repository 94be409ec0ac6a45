-- What blocks of input do, byte by byte, to whatever hears the lines.
use Rattle.std.specs.Prelude.{◌≡◌, ℕ, ◌+◌, ◌-◌, ◌^◌, ◌<◌, min, cond, List, [], ◌∷◌, ◌++◌, length}
use Rattle.std.specs.Prelude.{◌==◌, nat_lt}
use Rattle.std.specs.List.{flat_map}
use Rattle.streams.specs.Answers.{Hearing, answer_line, printed}
use Rattle.streams.specs.Ends.{line_feed}
use Rattle.streams.specs.Held.{held_with}
use Rattle.streams.specs.Lines.{bare}

-- a listener, the first bytes of a line that has not ended, and how many lines have
pub record State (A : Type 0) : Type 0 where
  pub listener : A
  pub held : List ℕ
  pub count : ℕ

-- what came of some input: the state behind it, and the text that is printed
pub record Step (A : Type 0) : Type 0 where
  pub state : State A
  pub text : List ℕ

-- a stream before its first byte
abbrev pub fresh : {A : Type 0} → A → State A
fresh a = record { listener = a; held = []; count = 0 }

-- lines count up to what 64 bits hold
abbrev pub next : ℕ → ℕ
next n = min (n + 1) (2 ^ 64 - 1)

-- nothing is printed
abbrev pub idle : {A : Type 0} → State A → Step A
idle st = record { state = st; text = [] }

-- what came behind the text t
abbrev pub after : {A : Type 0} → List ℕ → Step A → Step A
after t s = record { state = s.state; text = t ++ s.text }

-- so many bytes are held of a line, and h is what comes of it
module _ (limit : ℕ) {A : Type 0} (h : Hearing A) where
  -- further bytes of a line that has not ended
  abbrev pub keep : State A → List ℕ → State A
  keep st s = record { listener = st.listener; held = held_with limit st.held s; count = st.count }

  -- a line is heard, and nothing is held
  abbrev pub hear_line : State A → List ℕ → Step A
  hear_line st line = record {
    state = record { listener = h.next st.listener line; held = []; count = next st.count };
    text = answer_line (next st.count) (h.answer st.listener line);
  }

  -- the line that is held has ended
  abbrev pub ended : State A → Step A
  ended st = hear_line st (bare st.held)

  abbrev pub fed_byte : State A → ℕ → Step A
  fed_byte st b =
      let more = idle (keep st (b ∷ [])) in
      let line = ended st in
      cond (b == line_feed) line more

  abbrev pub fed : State A → List ℕ → Step A
  fed st [] = idle st
  fed st (b ∷ s) = let one = fed_byte st b in after one.text (fed one.state s)

  -- two blocks one after the other are one block: how the input is cut does not matter
  abbrev pub CutAnywhere : Type 0
  CutAnywhere =
      (st : State A) (p q : List ℕ) → fed st (p ++ q) ≡ after (fed st p).text
      (fed (fed st p).state q)

  -- a last line that has no end counts, if it has a byte
  abbrev pub last_line : State A → Step A
  last_line st = let line = hear_line st st.held in cond (nat_lt 0 (length st.held)) line (idle st)

  -- the input has ended
  abbrev pub finished : State A → Step A
  finished st =
      let last = last_line st in record
      { state = last.state; text = last.text ++ h.closing last.state.listener }

  -- blocks of input, one after the other
  abbrev pub fed_all : State A → List (List ℕ) → Step A
  fed_all st [] = idle st
  fed_all st (b ∷ bs) = let one = fed st b in after one.text (fed_all one.state bs)

  -- blocks one after the other do what their bytes do as one block, however many these are
  abbrev pub FedAsOne : Type 0
  FedAsOne =
      (st : State A) (blocks : List (List ℕ)) → fed_all st blocks
      ≡ fed st (flat_map (λ b. b) blocks)

  -- what is printed of blocks, fed from the start on, and then of the end, is what is printed of
  -- the input's lines
  abbrev pub PrintsAll : Type 0
  PrintsAll =
      (a : A) (blocks : List (List ℕ)) →
      let input = flat_map (λ b. b) blocks in
      let all = fed_all (fresh a) blocks in
      length input < 2 ^ 64 → all.text ++ (finished all.state).text ≡ printed h a input
