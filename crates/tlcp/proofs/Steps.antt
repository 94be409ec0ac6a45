-- The steps of the loop that reads escapes.
use Rattle.std.proofs.Common.{◌≡◌, ℕ, ◌+◌, ◌-◌, ◌*◌, ◌<◌, ◌≤◌, Bool, true, false, cond, ◌&&◌, eqb}
use Rattle.std.proofs.Common.{leb, List, [], ◌∷◌, ◌++◌, length, get_or, take, drop, set, Some, None}
use Rattle.std.proofs.Common.{Option, sym, refl, ap, ◌∙◌, append_assoc, arith}
use Rattle.std.proofs.lemmas.List.{length-drop, take_all, drop_all, drop_more, set_at, length_push}
use Rattle.std.proofs.lemmas.List.{take-append-le}
use Rattle.std.proofs.lemmas.Bool.{cond_both, eqb-false, le-leb, ne_eqb}
use Rattle.std.proofs.lemmas.Option.{none-some, same_Some}
use Rattle.tlcp.specs.Bytes.{is_hex}
use Rattle.tlcp.specs.Escapes.{hex_value, Decoded, decode_at, onto, stopped, unit_of, overlaid}

-- decoding goes on behind the front of s, which has n bytes, as `unit_of` says
abbrev pub go_on : ℕ → ℕ → Option (ℕ × List ℕ) → Decoded
go_on at n None = stopped at
go_on at n (Some u) = onto (u.0 ∷ []) (decode_at (at + (n - length u.1)) u.1)

-- cases of a test under both sides
either :
    {X : Type 0} (f : X → Decoded) (t : Bool) (x y : X) (d e : Decoded) → d ≡ f x → e ≡ f y
    → cond t d e ≡ f (cond t x y)
either f true x y d e p q = p
either f false x y d e p q = q

pub unit-step :
    (at : ℕ) (s : List ℕ) → 0 < length s → decode_at at s ≡ go_on at (length s) (unit_of s)
unit-step at [] h = absurd (omega arith)
unit-step at (b ∷ []) h = either (go_on at 1) (eqb b 37) _ _ _ _ refl refl
unit-step at (b ∷ x ∷ []) h = either (go_on at 2) (eqb b 37) _ _ _ _ refl refl
unit-step at (b ∷ x ∷ y ∷ s) h =
    let n = length (b ∷ x ∷ y ∷ s) in
    let long : leb 3 n ≡ true = le-leb 3 n (omega arith) in
    let three : 3 ≡ n - length s = omega arith in
    let one : 1 ≡ n - length (x ∷ y ∷ s) = omega arith in
    let hex = λ (t : Bool). cond {A = Option (ℕ × List ℕ)} t (Some (16 * hex_value x + hex_value y, s)) None in
    either (go_on at n) (eqb b 37) (hex (is_hex x && is_hex y)) (Some (b, x ∷ y ∷ s)) _ _
    (either (go_on at n) (is_hex x && is_hex y) _ _ _ _ (ap (λ k. onto ((16 * hex_value x + hex_value y) ∷ []) (decode_at (at + k) s)) three) refl)
    (ap (λ k. onto (b ∷ []) (decode_at (at + k) (x ∷ y ∷ s))) one)
    ∙ ap (λ t. go_on at n (cond (eqb b 37) (hex (t && (is_hex x && is_hex y))) (Some (b, x ∷ y ∷ s)))) (sym long)
    ∙ ap (λ t. go_on at n (cond t None (cond (eqb b 37) (hex (leb 3 n && (is_hex x && is_hex y))) (Some (b, x ∷ y ∷ s))))) (sym (ne_eqb n 0 (λ z. omega arith)))

-- what is left is shorter
pub unit-shorter : (s : List ℕ) (u : ℕ × List ℕ) → unit_of s ≡ Some u → length u.1 < length s
unit-shorter s u =
    cond_both (eqb (length s) 0) _ _ Shorter (λ _. none)
    (λ e.
    let some = eqb-false (length s) 0 e in
    cond_both (eqb (get_or s 0 0) 37) _ _ Shorter (λ _. cond_both _ _ _ Shorter (λ _. cut _ 3 (omega arith)) (λ _. none)) (λ _. cut _ 1 (omega arith)))
  where
    Shorter : Option (ℕ × List ℕ) → Type 0
    Shorter o = o ≡ Some u → length u.1 < length s

    none : Shorter None
    none e = absurd (none-some u e)

    cut : (b n : ℕ) → length s - n < length s → Shorter (Some (b, drop n s))
    cut b n less e =
        omega (arith, length-drop n s, ap (λ v. length v.1) (same_Some (b, drop n s) u e))

-- out holds as much of t as it has room for; one byte more
pub overlaid-more :
    (t xs : List ℕ) (b : ℕ) → length t < length xs
    → set (overlaid t xs) (length t) b ≡ overlaid (t ++ b ∷ []) xs
overlaid-more t xs b h =
    let all = take_all (length xs) t (omega arith) in
    let l = length_push t b in
    let more = take_all (length xs) (t ++ b ∷ []) (omega arith) in
    let d : ℕ = 0 in
    (λ i. set (all i ++ drop_more xs (length t) d h i) (length t) b)
    ∙ set_at t (get_or xs (length t) d) (drop (length t + 1) xs) b (length t) refl
    ∙ sym (append_assoc t (b ∷ []) (drop (length t + 1) xs))
    ∙ sym (λ i. more i ++ drop (l i) xs)

pub overlaid-full :
    (t xs : List ℕ) (b : ℕ) → length xs ≤ length t → overlaid t xs ≡ overlaid (t ++ b ∷ []) xs
overlaid-full t xs b h =
    let l = length_push t b in
    (λ i. take (length xs) t ++ drop_all (length t) xs h i)
    ∙ sym (λ i. take-append-le (length xs) t (b ∷ []) h i ++ drop_all (length (t ++ b ∷ [])) xs (omega arith) i)
