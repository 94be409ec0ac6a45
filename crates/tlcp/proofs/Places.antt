-- Where a byte stands in a text.
use Rattle.std.proofs.Common.{◌≡◌, ℕ, suc, ◌+◌, ◌-◌, ◌<◌, ◌≤◌, cond, ltb, List, length, take, drop}
use Rattle.std.proofs.Common.{Some, None, sym, refl, ap, ◌∙◌, arith, ◌==◌}
use Rattle.std.specs.List.{position, position_or_len}
use Rattle.std.proofs.lemmas.List.{take_rest, take_all, length-take-le, length-drop}
use Rattle.std.proofs.lemmas.List.Sums.{prefix_len-le-length}
use Rattle.std.proofs.lemmas.List.Recursion.{is_position_or_len}
use Rattle.std.proofs.lemmas.Bool.{lt-ltb, le-ltb, ltb-true, ltb-false, cond-true, cond-false}
use Rattle.std.proofs.lemmas.Option.{cond_some}
use Rattle.row.specs.Every.{none-from-cond}
use Rattle.tlcp.specs.Parts.{place_of, before, behind}

pub place-is : (b : ℕ) (s : List ℕ) → place_of b s ≡ position_or_len (λ x. x == b) s
place-is b s = is_position_or_len (place_of b) (λ x. x == b) refl (λ x xs. let k : suc (place_of b xs) ≡ 1 + place_of b xs = omega arith in ap (cond (x == b) 0) k) s

pub place-within : (b : ℕ) (s : List ℕ) → place_of b s ≤ length s
place-within b s = rw (place-is b s) (prefix_len-le-length _ s)

-- what the library's search answers
pub found-at :
    (b : ℕ) (s : List ℕ) (e : ℕ) → Some e ≡ position (λ x. x == b) s
    → (e ≡ place_of b s) × (e < length s)
found-at b s e is =
    let h = cond_some _ _ e (sym is) in
    (sym h.1 ∙ sym (place-is b s), omega (arith, h.1, ltb-true _ _ h.0))

pub found-nowhere : (b : ℕ) (s : List ℕ) → None ≡ position (λ x. x == b) s → length s ≤ place_of b s
found-nowhere b s is = omega (arith, ltb-false _ _ (none-from-cond _ _ is), place-is b s)

-- a text cut at the place e of the first b
pub cut-here :
    (b : ℕ) (s : List ℕ) (e : ℕ) → e ≡ place_of b s → e < length s
    → (take e s ≡ before b s) × (Some (take (length s - (e + 1)) (drop (e + 1) s)) ≡ behind b s) × (length (take e s) + (length (take (length s - (e + 1)) (drop (e + 1) s)) + 1) ≡ length s)
cut-here b s e is h =
    let rest = take_rest s (e + 1) in
    let l = length-take-le e s (omega arith) in
    let m = ap length rest ∙ length-drop (e + 1) s in (
      ap (λ n. take n s) is,
      ap Some rest ∙ ap (λ n. Some (drop (n + 1) s)) is
          ∙ sym (cond-true (ltb (place_of b s) (length s)) _ None (lt-ltb (place_of b s) (length s) (omega arith))),
      omega arith,
    )

pub cut-nowhere :
    (b : ℕ) (s : List ℕ) → length s ≤ place_of b s → (s ≡ before b s) × (None ≡ behind b s)
cut-nowhere b s h = (
  sym (take_all (place_of b s) s h),
  sym (cond-false (ltb (place_of b s) (length s)) _ None (le-ltb (place_of b s) (length s) h)),
)
