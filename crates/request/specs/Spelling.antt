-- Requests on one line: a backslash and what stands behind it for a byte.
use Rattle.std.specs.Prelude.{◌≡◌, ℕ, ◌+◌, ◌*◌, ◌/◌, ◌%◌, ◌<◌, cond, ◌&&◌, List, [], ◌∷◌, ◌++◌}
use Rattle.std.specs.Prelude.{Some, None, Option, ◌==◌}
use Rattle.std.specs.Option.{option_map}
use Rattle.std.specs.List.{AllByRecursion}
use Rattle.tlcp.specs.Bytes.{inside, is_hex}
use Rattle.tlcp.specs.Escapes.{hex_digit, hex_value}
use Rattle.request.specs.declared.unspell.Behind.{Behind}
use Rattle.request.specs.declared.unspell.Behind.TheVariants.{Nothing, Backslash, Hex, High}
use Rattle.request.specs.declared.unspell.Step.{Step}
use Rattle.request.specs.declared.unspell.Step.TheVariants.{Byte, More}

-- what a byte of a line does behind what has been read of one, if it is not out of place
abbrev pub step_of : Behind → ℕ → Option Step
step_of Nothing b = cond (b == 92) (Some (More Backslash)) (Some (Byte b))
step_of Backslash b =
    cond (b == 114) (Some (Byte 13))
    (cond (b == 110) (Some (Byte 10))
    (cond (b == 92) (Some (Byte 92)) (cond (b == 120) (Some (More Hex)) None)))
step_of Hex b = Some (More (High b))
step_of (High h) b = cond (is_hex h && is_hex b) (Some (Byte (16 * hex_value h + hex_value b))) None

-- what a line stands for behind a step, by what the rest of it stands for
abbrev pub after : Option Step → (Behind → Option (List ℕ)) → Option (List ℕ)
after (Some (Byte b)) rest = option_map (λ t. b ∷ t) (rest Nothing)
after (Some (More behind)) rest = rest behind
after None rest = None

-- a byte that is not yet known is none
abbrev pub at_end : Behind → Option (List ℕ)
at_end Nothing = Some []
at_end Backslash = None
at_end Hex = None
at_end (High h) = None

-- the bytes that a line stands for, behind what has been read of one
abbrev pub unspelled_from : Behind → List ℕ → Option (List ℕ)
unspelled_from behind [] = at_end behind
unspelled_from behind (b ∷ s) = after (step_of behind b) (λ next. unspelled_from next s)

abbrev pub unspelled : List ℕ → Option (List ℕ)
unspelled = unspelled_from Nothing

-- how a byte is written
abbrev pub spelled_byte : ℕ → List ℕ
spelled_byte b =
    let hex = 92 ∷ 120 ∷ hex_digit (b / 16) ∷ hex_digit (b % 16) ∷ [] in
    cond (b == 13) (92 ∷ 114 ∷ [])
    (cond (b == 10) (92 ∷ 110 ∷ [])
    (cond (b == 92) (92 ∷ 92 ∷ []) (cond (inside 32 126 b) (b ∷ []) hex)))

abbrev pub spelled : List ℕ → List ℕ
spelled [] = []
spelled (b ∷ t) = spelled_byte b ++ spelled t

-- what is written stands for the same bytes
abbrev pub ReadsSpelled : Type 0
ReadsSpelled = (t : List ℕ) → AllByRecursion (λ b. b < 256) t → unspelled (spelled t) ≡ Some t
