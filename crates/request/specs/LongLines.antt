-- A line that is too long is refused for that, whatever it spells, so its first bytes tell its
-- answer.
use Rattle.std.specs.Prelude.{◌≡◌, ℕ, ◌<◌, List, length, Err, refl}
use Rattle.std.proofs.Common.{leb, ap, sym, ◌∙◌, lit≤}
use Rattle.std.proofs.lemmas.Bool.{cond-false, lt-leb}
use Rattle.row.specs.Faults.{refusal}
use Rattle.row.specs.declared.fault.Fault.TheVariants.{Length}
use Rattle.streams.specs.Answers.{Enough}
use Rattle.streams.specs.Long.{LongAlike}
use Rattle.streams.proofs.Long.{enough_beyond}
use Rattle.request.specs.Checking.{answer_text, checked}
use Rattle.request.specs.Feeding.{hearing}
use Rattle.request.specs.Limits.{held_limit, spelled_limit}

too-long : (session : ℕ) (s : List ℕ) → spelled_limit < length s
    → checked session s ≡ Err (refusal Length 0)
too-long session s long =
    cond-false (leb (length s) spelled_limit) _ _ (lt-leb (length s) spelled_limit long)

long-alike : LongAlike hearing spelled_limit
long-alike c s t long longer =
    (refl, ap answer_text (too-long c.session s long ∙ sym (too-long c.session t longer)))

pub checker-enough : Enough held_limit hearing
checker-enough = enough_beyond hearing spelled_limit long-alike held_limit (lit≤ tt)
