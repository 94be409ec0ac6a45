-- Input fed line by line is input fed byte by byte.
use Rattle.std.proofs.Common.{◌≡◌, ℕ, suc, ◌+◌, Bool, true, false, cond, eqb, ltb, List, [], ◌∷◌}
use Rattle.std.proofs.Common.{◌++◌, length, take, drop, Some, None, Option, sym, refl, ap, ◌∙◌}
use Rattle.std.proofs.Common.{append_assoc, arith}
use Rattle.std.specs.List.{flat_map}
use Rattle.std.proofs.lemmas.List.{append-nil}
use Rattle.std.proofs.lemmas.Bool.{cond-true, cond-false, lt-ltb}
use Rattle.std.proofs.lemmas.Bool.Decides.{nat_tests}
use Rattle.tlcp.specs.Parts.{place_of, before, behind}
use Rattle.streams.specs.Ends.{line_feed}
use Rattle.streams.specs.Answers.{Hearing}
use Rattle.streams.specs.Feeding.{State, Step, idle, after, keep, ended, fed_byte, fed, CutAnywhere}
use Rattle.streams.specs.Feeding.{fed_all}
use Rattle.streams.proofs.Holding.{held_with-none, held_with-more}

after-after : {A : Type 0} (t u : List ℕ) (s : Step A) → after t (after u s) ≡ after (t ++ u) s
after-after t u s = ap (λ x. record { state = s.state; text = x }) (sym (append_assoc t u s.text))

abbrev pub holding : {A : Type 0} → State A → List ℕ → State A
holding st s = record { listener = st.listener; held = s; count = st.count }

module _ (limit : ℕ) {A : Type 0} (h : Hearing A) where
  keep-none : (st : State A) → keep limit h st [] ≡ st
  keep-none st = ap (holding st) (held_with-none limit st.held)

  keep-more :
      (st : State A) (b : ℕ) (v : List ℕ)
      → keep limit h (keep limit h st (b ∷ [])) v ≡ keep limit h st (b ∷ v)
  keep-more st b v = ap (holding st) (held_with-more limit st.held b v)

  -- what comes of a first line's bytes and of the bytes behind its end, if it ends
  abbrev fed_by : State A → Option (List ℕ) → Step A
  fed_by st None = idle st
  fed_by st (Some s) = after (ended limit h st).text (fed limit h (ended limit h st).state s)

  fed-split :
      (st : State A) (s : List ℕ)
      → fed limit h st s ≡ fed_by (keep limit h st (before line_feed s)) (behind line_feed s)
  fed-split st [] = ap idle (sym (keep-none st))
  fed-split st (b ∷ s) = by (eqb b line_feed) refl (fed-split (keep limit h st (b ∷ [])) s)
    where
      n : ℕ
      n = place_of line_feed s

      tail : ℕ → Option (List ℕ)
      tail m = cond (ltb m (suc (length s))) (Some (drop (m + 1) (b ∷ s))) None

      cut : ℕ → Step A
      cut m = fed_by (keep limit h st (take m (b ∷ s))) (tail m)

      go : Step A → Step A
      go one = after one.text (fed limit h one.state s)

      by :
          (t : Bool) → eqb b line_feed ≡ t
          → fed limit h (keep limit h st (b ∷ [])) s
          ≡ fed_by (keep limit h (keep limit h st (b ∷ [])) (before line_feed s)) (behind line_feed s)
          → fed limit h st (b ∷ s) ≡ cut (place_of line_feed (b ∷ s))
      by true f ih =
          ap go (cond-true (eqb b line_feed) (ended limit h st) (idle (keep limit h st (b ∷ []))) f)
          ∙ ap (λ x. after (ended limit h x).text (fed limit h (ended limit h x).state s)) (sym (keep-none st))
          ∙ ap (fed_by (keep limit h st [])) (sym (cond-true (ltb 0 (suc (length s))) (Some s) None (lt-ltb 0 (suc (length s)) (omega arith))))
          ∙ ap cut (sym (cond-true (eqb b line_feed) 0 (suc n) f))
      by false f ih =
          let less : ltb (suc n) (suc (length s)) ≡ ltb n (length s) = grind (arith, nat_tests) in
          let m : suc n + 1 ≡ suc (n + 1) = omega arith in
          ap go (cond-false (eqb b line_feed) (ended limit h st) (idle (keep limit h st (b ∷ []))) f)
          ∙ ih
          ∙ ap (λ x. fed_by x (behind line_feed s)) (keep-more st b (take n s))
          ∙ ap (λ t. fed_by (keep limit h st (b ∷ take n s)) (cond t (Some (drop (n + 1) s)) None)) (sym less)
          ∙ ap (λ j. fed_by (keep limit h st (b ∷ take n s)) (cond (ltb (suc n) (suc (length s))) (Some (drop j (b ∷ s))) None)) (sym m)
          ∙ ap cut (sym (cond-false (eqb b line_feed) 0 (suc n) f))

  -- one turn: the text t has been appended, st is the state there, and st' that behind the bytes up
  -- to the next end of a line
  module _ (whole : Step A) (t : List ℕ) (st : State A) (left : List ℕ) (sofar : whole ≡ after t (fed limit h st left)) (line : List ℕ) (first : line ≡ before line_feed left) (st' : State A) (keeps : st' ≡ keep limit h st line) where
    turn : (o : Option (List ℕ)) → o ≡ behind line_feed left → whole ≡ after t (fed_by st' o)
    turn o e =
        sofar
        ∙ ap (after t)
        (fed-split st left
        ∙ ap (λ l. fed_by (keep limit h st l) (behind line_feed left)) (sym first)
        ∙ ap (λ x. fed_by x (behind line_feed left)) (sym keeps)
        ∙ ap (fed_by st') (sym e))

    pub no_end : None ≡ behind line_feed left → whole ≡ record { state = st'; text = t }
    no_end e = turn None e ∙ ap (λ x. record { state = st'; text = x }) (append-nil t)

    pub one_line :
        (rest : List ℕ) → Some rest ≡ behind line_feed left → (st'' : State A)
        → st'' ≡ (ended limit h st').state → (u : List ℕ) → u ≡ t ++ (ended limit h st').text
        → whole ≡ after u (fed limit h st'' rest)
    one_line rest e st'' f u g =
        turn (Some rest) e
        ∙ after-after t (ended limit h st').text (fed limit h (ended limit h st').state rest)
        ∙ ap (λ x. after (t ++ (ended limit h st').text) (fed limit h x rest)) (sym f)
        ∙ ap (λ x. after x (fed limit h st'' rest)) (sym g)

  pub cut-anywhere : CutAnywhere limit h
  cut-anywhere st [] q = refl
  cut-anywhere st (b ∷ p) q =
      let one = fed_byte limit h st b in
      ap (after one.text) (cut-anywhere one.state p q)
      ∙ after-after one.text (fed limit h one.state p).text (fed limit h (fed limit h one.state p).state q)

  pub fed-all :
      (st : State A) (blocks : List (List ℕ))
      → fed_all limit h st blocks ≡ fed limit h st (flat_map (λ b. b) blocks)
  fed-all st [] = refl
  fed-all st (b ∷ blocks) =
      ap (after (fed limit h st b).text) (fed-all (fed limit h st b).state blocks)
      ∙ sym (cut-anywhere st b (flat_map (λ b. b) blocks))
