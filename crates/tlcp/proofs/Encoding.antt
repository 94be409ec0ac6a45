-- A text with some bytes escaped, byte by byte.
use Rattle.std.proofs.Common.{◌≡◌, ℕ, ◌+◌, ◌-◌, ◌<◌, ◌≤◌, Bool, List, [], ◌∷◌, ◌++◌, length, get_or}
use Rattle.std.proofs.Common.{take, drop, sym, refl, ap, ◌∙◌, append_assoc, arith}
use Rattle.std.proofs.lemmas.List.{append-nil, length-append, take-append-drop, take_more}
use Rattle.tlcp.specs.Escapes.{encoded_by, spelled}

module _ (p : ℕ → Bool) where
  pub by_append : (s t : List ℕ) → encoded_by p (s ++ t) ≡ encoded_by p s ++ encoded_by p t
  by_append [] t = refl
  by_append (b ∷ s) t =
      ap (λ l. spelled (p b) b ++ l) (by_append s t)
      ∙ sym (append_assoc (spelled (p b) b) (encoded_by p s) (encoded_by p t))

  -- the first bytes and one more
  pub by-more :
      (text : List ℕ) (i : ℕ) → i < length text
      → encoded_by p (take (i + 1) text)
      ≡ encoded_by p (take i text) ++ spelled (p (get_or text i 0)) (get_or text i 0)
  by-more text i h =
      ap (encoded_by p) (take_more text i 0 h) ∙ by_append (take i text) (get_or text i 0 ∷ [])
      ∙ ap (λ l. encoded_by p (take i text) ++ l) (append-nil _)

  -- they take no more than all do
  pub by_front :
      (text : List ℕ) (i : ℕ) → length (encoded_by p (take i text)) ≤ length (encoded_by p text)
  by_front text i =
      let whole : length (encoded_by p (take i text)) + length (encoded_by p (drop i text)) ≡ length (encoded_by p text) =
      sym (length-append (encoded_by p (take i text)) (encoded_by p (drop i text)))
      ∙ ap length (sym (by_append (take i text) (drop i text)))
      ∙ ap (λ l. length (encoded_by p l)) (take-append-drop i text) in
      omega arith

  -- the same of what they take
  pub length_more :
      (text : List ℕ) (i : ℕ) → i < length text
      → length (encoded_by p (take (i + 1) text))
      ≡ length (encoded_by p (take i text)) + length (spelled (p (get_or text i 0)) (get_or text i 0))
  length_more text i h = ap length (by-more text i h) ∙ length-append (encoded_by p (take i text)) _

  -- where all fit behind the place `at`, the next one does
  pub room-more :
      (text : List ℕ) (i at room : ℕ) → i < length text → length (encoded_by p text) ≤ room - at
      → at ≤ room
      → at + length (encoded_by p (take i text) ++ spelled (p (get_or text i 0)) (get_or text i 0)) ≤ room
  room-more text i at room h all within =
      omega (arith, ap length (by-more text i h), by_front text (i + 1), all, within)
