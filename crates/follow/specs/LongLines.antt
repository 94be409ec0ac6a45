-- A line that is longer than a line may be is refused whatever it holds, so its first bytes tell
-- its answer.
use Rattle.std.proofs.Common.{◌≡◌, ℕ, ◌<◌, List, length, map, leb, cond, Err, Result, ap, sym, ◌∙◌}
use Rattle.std.proofs.Common.{lit≤}
use Rattle.std.proofs.lemmas.Bool.{cond-false, lt-leb}
use Rattle.row.specs.Faults.{refusal}
use Rattle.row.specs.Kinds.{Kind}
use Rattle.row.specs.declared.fault.Fault.TheVariants.{Length}
use Rattle.tlcp.specs.Limits.{line_limit}
use Rattle.tlcp.specs.Lines.{read_line}
use Rattle.streams.specs.Answers.{Enough}
use Rattle.streams.specs.Long.{LongAlike}
use Rattle.streams.proofs.Long.{enough_beyond}
use Rattle.follow.specs.Feeding.{held_limit, hearing, heard_by}
use Rattle.follow.specs.Answers.{answer_text}
use Rattle.follow.specs.declared.follower.Follower.{Follower}
use Rattle.viewer.specs.Hearing.{Outcome, fitting, hear_message, in_memory, outcome}
use Rattle.row.specs.Records.{cell_of, memory_refusal}
use Rattle.row.specs.declared.fault.Refusal.{Refusal}
use Rattle.tlcp.specs.Lines.{Message}

too-long : (s : List ℕ) → line_limit < length s → read_line s ≡ Err (refusal Length 0)
too-long s long = cond-false (leb (length s) line_limit) _ _ (lt-leb (length s) line_limit long)

module _ {R : Type 0} (k : Kind R) where
  -- what comes of a line where the memory does not fit
  abbrev unfit : Follower R → Outcome R
  unfit f = outcome f.viewer.entries f.cells f.delta (Err memory_refusal)

  long-alike : LongAlike (hearing k) line_limit
  long-alike f s t long longer =
      let same = too-long s long ∙ sym (too-long t longer) in
      let of : Result Message Refusal → Outcome R = λ m. cond (fitting k f.cells f.delta)
      (in_memory k f.viewer.entries f.cells
      (hear_message f.viewer.entries (map (cell_of k) f.cells) k.allowed m)) (unfit f) in
      (ap (λ m. heard_by k (of m)) same, ap (λ m. answer_text (of m).answer) same)

  pub follower-enough : Enough held_limit (hearing k)
  follower-enough = enough_beyond (hearing k) line_limit long-alike held_limit (lit≤ tt)
