-- A line, composed argument by argument.
use Rattle.std.proofs.Common.{◌≡◌, ℕ, ◌+◌, ◌<◌, ◌≤◌, Bool, true, false, cond, leb, List, [], ◌∷◌}
use Rattle.std.proofs.Common.{◌++◌, length, Ok, Err, Result, sym, ap, ◌∙◌, append_assoc, arith}
use Rattle.std.proofs.Common.{rules}
use Rattle.std.proofs.lemmas.List.{append-nil, length-append}
use Rattle.std.proofs.lemmas.Bool.{both_ways, leb-true, leb-false, le-leb, lt-leb, cond-true}
use Rattle.std.proofs.lemmas.Bool.{cond-false, cond_both}
use Rattle.row.specs.declared.fault.Refusal.{Refusal}
use Rattle.tlcp.specs.Written.{end_or, no_room, placed_or}
use Rattle.tlcp.specs.Limits.{line_limit}
use Rattle.tlcp.specs.Lines.{and_then}
use Rattle.tlcp.specs.Lines.{word}
use Rattle.tlcp.specs.declared.tag.Tag.{Tag}
use Rattle.notify.specs.Given.{Given, Saying, spell, argued, line_text, within}
use Rattle.notify.specs.Composed.{lengthened, composed}
use Rattle.notify.specs.Back.{Accepted}
use Rattle.notify.specs.Written.{is_short, line_answer, line_placed}

ok-is : {X : Type 0} (b : Bool) (r x : X) (e : Refusal) → Ok r ≡ cond b (Ok x) (Err e) → b ≡ true
ok-is b r x e is = search rules

err-is :
    {X : Type 0} (b : Bool) (x : X) (d e : Refusal) → Err d ≡ cond b (Ok x) (Err e)
    → (b ≡ false) × (d ≡ e)
err-is b x d e is = search rules

-- several arguments, one after another, are refused exactly where the line is too long
pub composed-is :
    (s : List ℕ) (gs : List Given) → length s ≤ line_limit
    → composed s gs ≡ lengthened s (argued gs)
composed-is s [] short =
    sym (rw append-nil (cond-true _ _ _ (le-leb (length s + 0) line_limit (omega arith))))
composed-is s (g ∷ gs) short =
    let x = 44 ∷ spell g in
    let rest = argued gs in
    let whole : (s ++ x) ++ rest ≡ s ++ (x ++ rest) = append_assoc s x rest in
    let long : length s + length (x ++ rest) ≡ length (s ++ x) + length rest = simp length-append (omega arith) in
    cond_both (leb (length s + length x) line_limit) _ _ (λ r. and_then r (λ line. composed line gs) ≡ lengthened s (x ++ rest))
    (λ fits.
    let more : length (s ++ x) ≤ line_limit = omega (arith, leb-true _ _ fits, length-append s x) in
    composed-is (s ++ x) gs more
    ∙ (λ i. cond (leb (sym long i) line_limit) (Ok (whole i)) (Err no_room)))
    (λ over.
    let longer : line_limit < length s + length (x ++ rest) = omega (arith, leb-false _ _ over, length-append x rest) in
    sym (cond-false _ _ _ (lt-leb _ _ longer)))

pub word-short : (t : Tag) → length (word t) ≤ line_limit
word-short t = search rules

module _ (s : Saying) (at : ℕ) (xs : List ℕ) where
  line-is :
      {r : Result (List ℕ) Refusal} → r ≡ composed (word s.tag) s.given
      → r ≡ cond (is_short s) (Ok (line_text s)) (Err no_room)
  line-is is =
      let long = length-append (word s.tag) (argued s.given) in
      is ∙ composed-is (word s.tag) s.given (word-short s.tag)
      ∙ ap (λ n. cond (leb n line_limit) (Ok (line_text s)) (Err no_room)) (sym long)

  module _ (sound : true ≡ within s) where
    pub line_refused :
        (e : Refusal) → Err e ≡ composed (word s.tag) s.given
        → (Err e ≡ line_answer s at xs) × (xs ≡ line_placed s at xs) × (Accepted s → ⊥)
    line_refused e is =
        let h = err-is (is_short s) _ e _ (line-is is) in (
          ap Err h.1 ∙ sym (cond-true _ _ _ (sym sound) ∙ cond-false _ _ _ h.0),
          sym (cond-true _ _ _ (sym sound) ∙ cond-false _ _ _ h.0),
          λ is. both_ways (is_short s) h.0 (le-leb (length (line_text s)) line_limit is.short),
        )

    module _ (line : List ℕ) (is : Ok line ≡ composed (word s.tag) s.given) where
      short : is_short s ≡ true
      short = ok-is (is_short s) line _ _ (line-is is)

      same : line ≡ line_text s
      same = let whole : Ok line ≡ Ok (line_text s) = line-is is ∙ cond-true _ _ _ short in cc

      pub line-answer : {r : Result ℕ Refusal} → r ≡ end_or at line xs → r ≡ line_answer s at xs
      line-answer e =
          e ∙ ap (λ l. end_or at l xs) same
          ∙ sym (cond-true _ _ _ (sym sound) ∙ cond-true _ _ _ short)

      pub line-placed : {ys : List ℕ} → ys ≡ placed_or at line xs → ys ≡ line_placed s at xs
      line-placed e =
          e ∙ ap (λ l. placed_or at l xs) same
          ∙ sym (cond-true _ _ _ (sym sound) ∙ cond-true _ _ _ short)
