-- What the program's argument names.
use Rattle.std.specs.Prelude.{ℕ, List, Option}
use Rattle.tlcp.specs.Numbers.{read_number}
use Rattle.request.specs.Limits.{session_limit}

abbrev pub session_named : List ℕ → Option ℕ
session_named = read_number 1 session_limit
