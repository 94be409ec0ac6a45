-- The limits of what is read.
use Rattle.std.specs.Prelude.{ℕ, ◌+◌}

-- the bytes of a line, without its end
abbrev pub spelled_limit : ℕ
spelled_limit = 8192

-- so many bytes are held of a line: enough to tell one that is too long, whether CR LF ends it or
-- LF
abbrev pub held_limit : ℕ
held_limit = spelled_limit + 2

-- the highest number of a session
abbrev pub session_limit : ℕ
session_limit = 99999
