use Rattle.std.proofs.Common.{◌≡◌, true, map, take}
use Rattle.std.specs.Int.Digits.{number_from_digits}
use Rattle.row.specs.Texts.{every}
use Rattle.row.specs.Logics.{is_logic, bit_a, bit_b}
use Rattle.row.proofs.logic.Logic.new.Given as goal

abbrev pub invariant-loop-character : goal.invariant-loop-character
invariant-loop-character l =
    (every is_logic (take l.character-index l.text) ≡ true)
    × (l.a ≡ number_from_digits 2 (map bit_a (take l.character-index l.text)))
    × (l.b ≡ number_from_digits 2 (map bit_b (take l.character-index l.text)))
