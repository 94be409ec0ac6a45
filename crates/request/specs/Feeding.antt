-- What the input does to a checker, line by line, and what is printed of it.
use Rattle.std.specs.Prelude.{ℕ, List, []}
use Rattle.streams.specs.Answers.{Hearing}
use Rattle.request.specs.Checking.{answer_text, checked}
use Rattle.request.specs.declared.checker.Checker.{Checker}

-- each line is answered, and nothing is said at the end
abbrev pub hearing : Hearing Checker
hearing = record {
  next = λ c line. c;
  answer = λ c line. answer_text (checked c.session line);
  closing = λ c. [];
}

-- what checks the requests for a session
abbrev pub checker : ℕ → Checker
checker session = record { session = session }
