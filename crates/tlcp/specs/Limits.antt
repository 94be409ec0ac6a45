-- The limits of lines and of the numbers in them.
use Rattle.std.specs.Prelude.{ℕ}

-- the bytes of a line, without its end
abbrev pub line_limit : ℕ
line_limit = 1172

abbrev pub id_limit : ℕ
id_limit = 9999

abbrev pub count_limit : ℕ
count_limit = 999999999

abbrev pub code_limit : ℕ
code_limit = 999999
