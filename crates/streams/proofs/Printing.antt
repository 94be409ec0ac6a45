-- What is printed of an input's bytes, of which each line's first are held, is what is printed of
-- its lines.
use Rattle.std.proofs.Common.{◌≡◌, ℕ, ◌+◌, ◌^◌, ◌<◌, Bool, true, false, cond, eqb, ltb, List, []}
use Rattle.std.proofs.Common.{◌∷◌, ◌++◌, length, take, sym, refl, ap, ◌∙◌, append_assoc, arith}
use Rattle.std.specs.List.{flat_map}
use Rattle.std.proofs.lemmas.List.{append-nil, length-append, length-take, take_all}
use Rattle.std.proofs.lemmas.Bool.{cond-true, cond-false, lt-ltb}
use Rattle.tlcp.specs.Parts.{divided_by, push}
use Rattle.streams.specs.Answers.{Hearing, HeardAlike, Enough, answer_line, answers, printed}
use Rattle.streams.specs.Answers.{printed_so_far}
use Rattle.streams.specs.Ends.{line_feed}
use Rattle.streams.specs.Feeding.{State, Step, idle, fresh, next, ended, fed, finished, hear_line}
use Rattle.streams.specs.Feeding.{keep, PrintsAll}
use Rattle.streams.specs.Lines.{bare, ended_among, ended_from, lines_among, lines_from}
use Rattle.streams.proofs.Fed.{fed-all}
use Rattle.streams.proofs.Holding.{held_with-front}

-- the texts of an input behind the bytes of a line that has begun
abbrev continued : List ℕ → List (List ℕ) → List (List ℕ)
continued begun [] = begun ∷ []
continued begun (text ∷ more) = (begun ++ text) ∷ more

continued-byte : (begun : List ℕ) (b : ℕ) (texts : List (List ℕ))
    → continued (begun ++ b ∷ []) texts ≡ continued begun (push b texts)
continued-byte begun b [] = refl
continued-byte begun b (text ∷ more) = ap (λ t. t ∷ more) (append_assoc begun (b ∷ []) text)

pushed-some : (b : ℕ) (texts : List (List ℕ)) → continued [] (push b texts) ≡ push b texts
pushed-some b [] = refl
pushed-some b (text ∷ more) = refl

continued-none : (s : List ℕ) → continued [] (divided_by line_feed s) ≡ divided_by line_feed s
continued-none [] = refl
continued-none (b ∷ s) = by (eqb b line_feed)
  where
    by : (t : Bool) → continued []
        (cond t ([] ∷ divided_by line_feed s) (push b (divided_by line_feed s))) ≡ cond t
        ([] ∷ divided_by line_feed s) (push b (divided_by line_feed s))
    by true = refl
    by false = pushed-some b (divided_by line_feed s)

-- a line that has ended, and the lines behind it
ended-line : (begun s : List ℕ) → lines_among (continued begun ([] ∷ divided_by line_feed s))
    ≡ bare begun ∷ lines_among (divided_by line_feed s)
ended-line begun s =
    by (divided_by line_feed s) (continued-none s)
    ∙ ap (λ t. bare t ∷ lines_among (divided_by line_feed s)) (append-nil begun)
  where
    by : (texts : List (List ℕ)) → continued [] texts ≡ texts
        → lines_from (begun ++ []) texts ≡ bare (begun ++ []) ∷ lines_among texts
    by [] e = absurd (omega (arith, ap length e))
    by (text ∷ more) e = refl

ended-line-so-far : (begun s : List ℕ) → ended_among
    (continued begun ([] ∷ divided_by line_feed s)) ≡ bare begun ∷ ended_among
    (divided_by line_feed s)
ended-line-so-far begun s =
    by (divided_by line_feed s) (continued-none s)
    ∙ ap (λ t. bare t ∷ ended_among (divided_by line_feed s)) (append-nil begun)
  where
    by : (texts : List (List ℕ)) → continued [] texts ≡ texts
        → ended_from (begun ++ []) texts ≡ bare (begun ++ []) ∷ ended_among texts
    by [] e = absurd (omega (arith, ap length e))
    by (text ∷ more) e = refl

abbrev nothing : List ℕ
nothing = []

none-held : (limit : ℕ) → take limit nothing ≡ nothing
none-held limit = take_all limit nothing (omega arith)

module _ (limit : ℕ) {A : Type 0} (h : Hearing A) (enough : Enough limit h) where
  -- what is printed from a state on
  abbrev whole : State A → List ℕ → List ℕ
  whole st s = (fed limit h st s).text ++ (finished limit h (fed limit h st s).state).text

  -- a line has begun
  abbrev begins : A → List ℕ → ℕ → State A
  begins a begun n = record { listener = a; held = take limit begun; count = n }

  -- the line with the number n is heard as t, and then the rest
  told : (a : A) (n : ℕ) (s t : List ℕ) → HeardAlike h a s t → (rest : A → List ℕ)
      → answer_line n (h.answer a s) ++ rest (h.next a s) ≡ answer_line n (h.answer a t) ++ rest
      (h.next a t)
  told a n s t alike rest = λ i. answer_line n (alike.1 i) ++ rest (alike.0 i)

  counts : (n : ℕ) → n + 1 < 2 ^ 64 → next n ≡ n + 1
  counts n few = omega arith

  last : (a : A) (begun : List ℕ) (n : ℕ) → n + length begun < 2 ^ 64
      → (finished limit h (begins a begun n)).text ≡ answers h h.closing a (n + 1)
      (lines_from begun [])
  last a [] n few =
      ap (λ l. (finished limit h (record { listener = a; held = l; count = n })).text)
      (none-held limit)
  last a (b ∷ begun) n few =
      let line = b ∷ begun in
      let st = begins a line n in
      let some : 0 < length (take limit line) =
      omega (arith, length-take limit line, enough.some) in
      ap (λ step. step.text ++ h.closing step.state.listener)
      (cond-true (ltb 0 (length (take limit line))) (hear_line limit h st (take limit line))
      (idle st) (lt-ltb 0 _ some))
      ∙ ap (λ m. answer_line m (h.answer a (take limit line)) ++ h.closing
      (h.next a (take limit line))) (counts n (omega arith))
      ∙ told a (n + 1) (take limit line) line (enough.unended a line) h.closing

  prints : (a : A) (begun s : List ℕ) (n : ℕ) → n + length begun + length s < 2 ^ 64
      → whole (begins a begun n) s ≡ answers h h.closing a (n + 1)
      (lines_among (continued begun (divided_by line_feed s)))
  prints a begun [] n few =
      last a begun n (omega arith) ∙ ap (λ t. answers h h.closing a (n + 1) (lines_from t []))
      (sym (append-nil begun))
  prints a begun (b ∷ s) n few =
      by (eqb b line_feed) refl
      (λ more. prints a (begun ++ b ∷ []) s n more)
      (λ next_a more. prints next_a [] s (n + 1) more)
    where
      texts : List (List ℕ)
      texts = divided_by line_feed s

      st : State A
      st = begins a begun n

      go : Step A → List ℕ
      go one =
          (one.text ++ (fed limit h one.state s).text) ++
          (finished limit h (fed limit h one.state s).state).text

      by : (t : Bool) → eqb b line_feed ≡ t
          → (n + length (begun ++ b ∷ []) + length s < 2 ^ 64
          → whole (begins a (begun ++ b ∷ []) n) s ≡ answers h h.closing a (n + 1)
          (lines_among (continued (begun ++ b ∷ []) texts)))
          → ((x : A) → n + 1 + 0 + length s < 2 ^ 64
          → whole (begins x [] (n + 1)) s ≡ answers h h.closing x (n + 1 + 1)
          (lines_among (continued [] texts)))
          → whole st (b ∷ s) ≡ answers h h.closing a (n + 1)
          (lines_among (continued begun (divided_by line_feed (b ∷ s))))
      by true e held_on heard =
          let line = bare (take limit begun) in
          let rest : A → List ℕ = λ x. answers h h.closing x (n + 1 + 1) (lines_among texts) in
          ap go (cond-true (eqb b line_feed) (ended limit h st) (idle (keep limit h st (b ∷ []))) e)
          ∙ append_assoc (ended limit h st).text _ _
          ∙ ap (λ m. answer_line m (h.answer a line) ++ whole
          (record { listener = h.next a line; held = []; count = m }) s) (counts n (omega arith))
          ∙ ap (λ l. answer_line (n + 1) (h.answer a line) ++ whole
          (record { listener = h.next a line; held = l; count = n + 1 }) s)
          (sym (none-held limit))
          ∙ ap (λ t. answer_line (n + 1) (h.answer a line) ++ t)
          (heard (h.next a line) (omega arith)
          ∙ ap (λ t. answers h h.closing (h.next a line) (n + 1 + 1) (lines_among t))
          (continued-none s))
          ∙ told a (n + 1) line (bare begun) (enough.ended a begun) rest
          ∙ ap (answers h h.closing a (n + 1)) (sym (ended-line begun s))
          ∙ ap (λ t. answers h h.closing a (n + 1) (lines_among (continued begun t)))
          (sym (cond-true (eqb b line_feed) ([] ∷ texts) (push b texts) e))
      by false e held_on heard =
          ap go (cond-false (eqb b line_feed) (ended limit h st)
          (idle (keep limit h st (b ∷ []))) e)
          ∙ ap (λ l. whole (record { listener = a; held = l; count = n }) s)
          (held_with-front limit begun (b ∷ []))
          ∙ held_on (omega (arith, length-append begun (b ∷ [])))
          ∙ ap (λ t. answers h h.closing a (n + 1) (lines_among t))
          (continued-byte begun b texts
          ∙ ap (continued begun)
          (sym (cond-false (eqb b line_feed) ([] ∷ texts) (push b texts) e)))

  -- what is printed of the bytes of an input, of which a line has begun, before its end
  fed-text : (a : A) (begun s : List ℕ) (n : ℕ) → n + length begun + length s < 2 ^ 64
      → (fed limit h (begins a begun n) s).text ≡ answers h (λ _. []) a (n + 1)
      (ended_among (continued begun (divided_by line_feed s)))
  fed-text a begun [] n few = refl
  fed-text a begun (b ∷ s) n few =
      by (eqb b line_feed) refl
      (λ more. fed-text a (begun ++ b ∷ []) s n more)
      (λ next_a more. fed-text next_a [] s (n + 1) more)
    where
      texts : List (List ℕ)
      texts = divided_by line_feed s

      st : State A
      st = begins a begun n

      so-far : A → ℕ → List (List ℕ) → List ℕ
      so-far x m lines = answers h (λ _. []) x m lines

      go : Step A → List ℕ
      go one = one.text ++ (fed limit h one.state s).text

      by : (t : Bool) → eqb b line_feed ≡ t
          → (n + length (begun ++ b ∷ []) + length s < 2 ^ 64
          → (fed limit h (begins a (begun ++ b ∷ []) n) s).text ≡ so-far a (n + 1)
          (ended_among (continued (begun ++ b ∷ []) texts)))
          → ((x : A) → n + 1 + 0 + length s < 2 ^ 64
          → (fed limit h (begins x [] (n + 1)) s).text ≡ so-far x (n + 1 + 1)
          (ended_among (continued [] texts)))
          → (fed limit h st (b ∷ s)).text ≡ so-far a (n + 1)
          (ended_among (continued begun (divided_by line_feed (b ∷ s))))
      by true e held_on heard =
          let line = bare (take limit begun) in
          let rest : A → List ℕ = λ x. answers h (λ _. []) x (n + 1 + 1) (ended_among texts) in
          ap go (cond-true (eqb b line_feed) (ended limit h st) (idle (keep limit h st (b ∷ []))) e)
          ∙ ap (λ m. answer_line m (h.answer a line) ++
          (fed limit h (record { listener = h.next a line; held = []; count = m }) s).text)
          (counts n (omega arith))
          ∙ ap (λ l. answer_line (n + 1) (h.answer a line) ++
          (fed limit h (record { listener = h.next a line; held = l; count = n + 1 }) s).text)
          (sym (none-held limit))
          ∙ ap (λ t. answer_line (n + 1) (h.answer a line) ++ t)
          (heard (h.next a line) (omega arith)
          ∙ ap (λ t. answers h (λ _. []) (h.next a line) (n + 1 + 1) (ended_among t))
          (continued-none s))
          ∙ told a (n + 1) line (bare begun) (enough.ended a begun) rest
          ∙ ap (answers h (λ _. []) a (n + 1)) (sym (ended-line-so-far begun s))
          ∙ ap (λ t. answers h (λ _. []) a (n + 1) (ended_among (continued begun t)))
          (sym (cond-true (eqb b line_feed) ([] ∷ texts) (push b texts) e))
      by false e held_on heard =
          ap go (cond-false (eqb b line_feed) (ended limit h st)
          (idle (keep limit h st (b ∷ []))) e)
          ∙ ap (λ l. (fed limit h (record { listener = a; held = l; count = n }) s).text)
          (held_with-front limit begun (b ∷ []))
          ∙ held_on (omega (arith, length-append begun (b ∷ [])))
          ∙ ap (λ t. answers h (λ _. []) a (n + 1) (ended_among t))
          (continued-byte begun b texts
          ∙ ap (continued begun)
          (sym (cond-false (eqb b line_feed) ([] ∷ texts) (push b texts) e)))

  -- what is printed of the first bytes of an input is what is printed of the lines that end in them
  pub prints-so-far : (a : A) (input : List ℕ) → length input < 2 ^ 64
      → (fed limit h (fresh a) input).text ≡ printed_so_far h a input
  prints-so-far a input few =
      ap (λ l. (fed limit h (record { listener = a; held = l; count = 0 }) input).text)
      (sym (none-held limit))
      ∙ fed-text a [] input 0 (omega arith)
      ∙ ap (λ t. answers h (λ _. []) a 1 (ended_among t)) (continued-none input)

  -- what is printed of the bytes of an input and its end is what is printed of its lines
  pub prints-lines : (a : A) (input : List ℕ) → length input < 2 ^ 64
      → whole (fresh a) input ≡ printed h a input
  prints-lines a input few =
      ap (λ l. whole (record { listener = a; held = l; count = 0 }) input) (sym (none-held limit))
      ∙ prints a [] input 0 (omega arith)
      ∙ ap (λ t. answers h h.closing a 1 (lines_among t)) (continued-none input)

  pub prints-all : PrintsAll limit h
  prints-all a blocks few =
      ap (λ s. s.text ++ (finished limit h s.state).text) (fed-all limit h (fresh a) blocks)
      ∙ prints-lines a (flat_map (λ b. b) blocks) few
