-- Lines that stand for bytes, byte by byte, and that what is written stands for the same bytes.
use Rattle.std.proofs.Common.{◌≡◌, ℕ, ◌+◌, ◌*◌, ◌/◌, ◌%◌, ◌<◌, true, false, ◌&&◌, eqb, List, []}
use Rattle.std.proofs.Common.{◌∷◌, ◌++◌, sym, refl, ap, ◌∙◌, arith}
use Rattle.std.specs.Option.{option_map}
use Rattle.std.proofs.lemmas.Bool.{and_from, cond_both, cond-false, cond-true, eqb-true}
use Rattle.tlcp.specs.Bytes.{inside, is_hex}
use Rattle.tlcp.specs.Escapes.{hex_digit, hex_value}
use Rattle.tlcp.proofs.Unescaped.{hex-value, is-hex}
use Rattle.request.specs.Spelling.{after, unspelled_from, spelled_byte, spelled, ReadsSpelled}
use Rattle.request.specs.declared.unspell.Behind.TheVariants.{Nothing}

-- one byte, however it is written
module _ (b : ℕ) (small : b < 256) (s : List ℕ) where
  abbrev Reads : List ℕ → Type 0
  Reads w = unspelled_from Nothing (w ++ s) ≡ option_map (λ t. b ∷ t) (unspelled_from Nothing s)

  written :
      (x : ℕ) → eqb b x ≡ true
      → option_map (λ t. x ∷ t) (unspelled_from Nothing s)
      ≡ option_map (λ t. b ∷ t) (unspelled_from Nothing s)
  written x e = ap (λ y. option_map (λ t. y ∷ t) (unspelled_from Nothing s)) (sym (eqb-true b x e))

  plain : eqb b 92 ≡ false → Reads (b ∷ [])
  plain other = ap (λ x. after x (λ next. unspelled_from next s)) (cond-false (eqb b 92) _ _ other)

  hex : Reads (92 ∷ 120 ∷ hex_digit (b / 16) ∷ hex_digit (b % 16) ∷ [])
  hex =
      let high = b / 16 in
      let low = b % 16 in
      let h : high < 16 = omega arith in
      let l : low < 16 = omega arith in
      let is : 16 * hex_value (hex_digit high) + hex_value (hex_digit low) ≡ b = rw (hex-value high h, hex-value low l) (omega arith) in
      ap (λ x. after x (λ next. unspelled_from next s)) (cond-true (is_hex (hex_digit high) && is_hex (hex_digit low)) _ _ (and_from (is_hex (hex_digit high)) (is_hex (hex_digit low)) (is-hex high h) (is-hex low l)))
      ∙ ap (λ y. option_map (λ t. y ∷ t) (unspelled_from Nothing s)) is

  reads_byte : Reads (spelled_byte b)
  reads_byte =
      cond_both (eqb b 13) _ _ Reads (written 13)
      (λ _. cond_both (eqb b 10) _ _ Reads (written 10) (λ _. cond_both (eqb b 92) _ _ Reads (written 92) (λ other. cond_both (inside 32 126 b) _ _ Reads (λ _. plain other) (λ _. hex))))

pub reads-spelled : ReadsSpelled
reads-spelled [] h = refl
reads-spelled (b ∷ t) h =
    reads_byte b h.0 (spelled t) ∙ ap (option_map (λ t. b ∷ t)) (reads-spelled t h.1)
