use Rattle.std.proofs.Common.{◌≡◌, ◌+◌, ◌*◌, ◌^◌, ◌<◌, true, map, length, get_or, take, sym, ap}
use Rattle.std.proofs.Common.{◌∙◌, arith, rules}
use Rattle.std.specs.Int.Digits.{number_from_digits}
use Rattle.std.proofs.lemmas.List.{take_all}
use Rattle.std.proofs.lemmas.List.Folds.{list_all_more}
use Rattle.std.proofs.lemmas.Bool.{and_from}
use Rattle.row.specs.Limits.{text_limit}
use Rattle.row.specs.Texts.{every}
use Rattle.row.specs.Logics.{is_logic, bit_a, bit_b, logic_sound}
use Rattle.row.specs.Every.{some-from-cond}
use Rattle.row.specs.LogicsLemmas.{bit_a-small, bit_b-small, word_more, word_fits, allowed-from}
use Rattle.row.specs.LogicsLemmas.{record-sound}
use Rattle.row.proofs.logic.Logic.new.Goals as goal
use Rattle.row.proofs.logic.Logic.new.Goals.{In_ok-in_a, After-loop-character}

-- a turn makes the words of one character more
turn :
    (c : In_ok-in_a)
    → (is_logic (get_or c.args.text.now c.loop-character.character-index 0) ≡ true) × (2 * c.loop-character.a + c.in_ok-in_a.in_a ≡ number_from_digits 2 (map bit_a (take (c.loop-character.character-index + 1) c.args.text.now))) × (2 * c.loop-character.b + c.in_ok-in_a.in_b ≡ number_from_digits 2 (map bit_b (take (c.loop-character.character-index + 1) c.args.text.now)))
turn c =
    let text = c.args.text.now in
    let i = c.loop-character.character-index in
    let h = some-from-cond (is_logic (get_or text i 0)) (c.in_ok-in_a.in_a, c.in_ok-in_a.in_b) (bit_a (get_or text i 0), bit_b (get_or text i 0)) c.in_ok-in_a.ensures in (
      h.0,
      word_more bit_a bit_a-small text i c.loop-character.a _ c.loop-character-test.true c.loop-character.invariant.1 (ap (λ p. p.0) h.1),
      word_more bit_b bit_b-small text i c.loop-character.b _ c.loop-character-test.true c.loop-character.invariant.2 (ap (λ p. p.1) h.1),
    )

fits-a : (c : In_ok-in_a) → 2 * c.loop-character.a + c.in_ok-in_a.in_a < 2 ^ text_limit
fits-a c =
    omega (arith, (turn c).1, word_fits bit_a bit_a-small c.args.text.now (c.loop-character.character-index + 1) (omega arith))

fits-b : (c : In_ok-in_a) → 2 * c.loop-character.b + c.in_ok-in_a.in_b < 2 ^ text_limit
fits-b c =
    omega (arith, (turn c).2, word_fits bit_b bit_b-small c.args.text.now (c.loop-character.character-index + 1) (omega arith))

pub overflow_mul-a : goal.overflow_mul-a
overflow_mul-a c = omega (arith, fits-a c)

pub overflow_add-a : goal.overflow_add-a
overflow_add-a c = omega (arith, fits-a c)

pub overflow_mul-b : goal.overflow_mul-b
overflow_mul-b c = omega (arith, fits-b c)

pub overflow_add-b : goal.overflow_add-b
overflow_add-b c = omega (arith, fits-b c)

pub loop-character-preserved : goal.loop-character-preserved
loop-character-preserved c =
    let h = turn c in
    (list_all_more is_logic c.args.text.now c.loop-character.character-index 0 c.loop-character-test.true ∙ and_from _ _ c.loop-character.invariant.0 h.0, h.1, h.2)

-- behind the loop the whole text has been read
pub invariant_of-result : goal.invariant_of-result
invariant_of-result c =
    let text = c.args.text.now in
    let whole = take_all c.loop-character.character-index text c.loop-character-test.false in
    let in_a = c.loop-character.invariant.1 ∙ ap (λ t. number_from_digits 2 (map bit_a t)) whole in
    let in_b = c.loop-character.invariant.2 ∙ ap (λ t. number_from_digits 2 (map bit_b t)) whole in
    let allowed = allowed-from text (search rules) (omega arith) (ap (every is_logic) (sym whole) ∙ c.loop-character.invariant.0) in
    record {
      sound =
          (λ i. logic_sound (record { a = in_a i; b = in_b i; width = length text }))
          ∙ record-sound text allowed;
    }
