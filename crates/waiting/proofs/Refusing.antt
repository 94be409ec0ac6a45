-- The refusals of waiting buffers, by number.
use Rattle.std.proofs.Common.{length, refl, ap, ◌∙◌, arith}
use Rattle.std.specs.Prelude.{nat_le, nat_lt}
use Rattle.std.proofs.lemmas.Bool.{cond-true, cond-false, le-leb, le-ltb, lt-leb, lt-ltb}
use Rattle.row.specs.Faults.{by_numbers}
use Rattle.row.specs.Limits.{field_limit}
use Rattle.waiting.specs.Limits.{pair_limit}
use Rattle.waiting.specs.Refused.{Refusals}

pub refusals : Refusals
refusals = record {
  long = λ b m t d long. ap by_numbers
      (cond-false (nat_le (length d) field_limit) _ _ (lt-leb _ _ long));
  full = λ m t d few all. ap by_numbers
      (cond-true (nat_le (length d) field_limit) _ _ (le-leb _ _ few)
      ∙ cond-false (nat_lt (length m) pair_limit) _ _ (le-ltb _ _ (omega (arith, all))));
  room = λ m t d few some. ap by_numbers
      (cond-true (nat_le (length d) field_limit) _ _ (le-leb _ _ few)
      ∙ cond-true (nat_lt (length m) pair_limit) _ _ (lt-ltb _ _ some));
  marks_take = λ m t d few. ap by_numbers
      (cond-true (nat_le (length d) field_limit) _ _ (le-leb _ _ few));
  nothing_to_look_at = refl;
  nothing_to_drop = refl;
  one_to_look_at = λ p l. refl;
  one_to_drop = λ p l. refl;
  queue_places = refl;
  queue_memory = refl;
  marks_places = refl;
  marks_memory = refl;
}
