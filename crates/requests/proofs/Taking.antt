-- The pairs of a body, taken off one after another.
use Rattle.std.proofs.Common.{◌≡◌, ℕ, suc, ◌+◌, List, length, Some, None, Option, sym, refl, ap}
use Rattle.std.proofs.Common.{◌∙◌}
use Rattle.std.specs.Prelude.{Ok, Result}
use Rattle.std.specs.Option.{option_map}
use Rattle.std.proofs.lemmas.List.{length-take-le}
use Rattle.row.specs.declared.fault.Refusal.{Refusal}
use Rattle.tlcp.specs.Lines.{and_then, front_at, piece, rest_at}
use Rattle.tlcp.specs.Parts.{Piece, before, behind, place_of}
use Rattle.tlcp.specs.Dividing.{divided_by}
use Rattle.tlcp.specs.Said.{piece_in}
use Rattle.tlcp.specs.declared.part.Placed.{Placed}
use Rattle.tlcp.proofs.Dividing.{divided-split, parts_of}
use Rattle.tlcp.proofs.Places.{place-within}
use Rattle.requests.specs.Limits.{request_limit}
use Rattle.requests.specs.Requests.{Occurrences, read_pair, read_pairs}
use Rattle.requests.specs.declared.name.Name.{Name}

abbrev Part : Type 0
Part = Placed request_limit

-- what the pairs of the part that is left make of those so far
abbrev pub taken : Name → Option Piece → Occurrences → Result Occurrences Refusal
taken n None ps = Ok ps
taken n (Some p) ps = read_pairs n p.at (divided_by 38 p.text) ps

-- how many bytes are left, and one more where a part is
abbrev pub remaining : Option Piece → ℕ
remaining None = 0
remaining (Some p) = suc (length p.text)

module _ (n : Name) where
  behind-first : (at k m : ℕ) (o : Option (List ℕ)) → k ≡ m
      → read_pairs n (at + (k + 1)) (parts_of 38 o)
      ≡ taken n (option_map (λ t. piece t (at + (m + 1))) o)
  behind-first at k m None e = refl
  behind-first at k m (Some t) e = ap (λ j. read_pairs n (at + (j + 1)) (divided_by 38 t)) e

  -- the first pair decides, and then those behind it
  taken-first : (p : Piece) (ps : Occurrences)
      → taken n (Some p) ps
      ≡ and_then (read_pair n p.at (before 38 p.text) ps) (taken n (rest_at 38 p))
  taken-first p ps =
      ap (λ ss. read_pairs n p.at ss ps) (divided-split 38 p.text)
      ∙ ap (and_then (read_pair n p.at (before 38 p.text) ps))
      (behind-first p.at _ _ (behind 38 p.text)
      (length-take-le (place_of 38 p.text) p.text (place-within 38 p.text)))

  -- r is what the pair that was cut off makes of those so far
  pub taken-cut : (left : Option Part) (p pair : Part) (more : Option Part) (ps : Occurrences)
      (r : Result Occurrences Refusal) → left ≡ Some p → piece_in pair ≡ front_at 38 (piece_in p)
      → option_map piece_in more ≡ rest_at 38 (piece_in p)
      → r ≡ read_pair n pair.at pair.bytes.now ps
      → taken n (option_map piece_in left) ps ≡ and_then r (taken n (option_map piece_in more))
  taken-cut left p pair more ps r is first behind so =
      ap (λ o. taken n (option_map piece_in o) ps) is
      ∙ taken-first (piece_in p) ps
      ∙ sym (ap (λ q. and_then (read_pair n q.at q.text ps)
      (taken n (rest_at 38 (piece_in p)))) first)
      ∙ (λ i. and_then (sym so i) (taken n (sym behind i)))
