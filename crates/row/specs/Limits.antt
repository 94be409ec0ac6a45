-- The limits of rows, taps and values.
use Rattle.std.specs.Prelude.{ℕ, ◌*◌}

-- the fields of a row, and so the cells of a row and the changes of a delta in memory
abbrev pub field_limit : ℕ
field_limit = 12

-- the taps
abbrev pub tap_limit : ℕ
tap_limit = 8

-- a place for each field of each tap
abbrev pub cell_limit : ℕ
cell_limit = field_limit * tap_limit

-- the bytes of a value's text
abbrev pub text_limit : ℕ
text_limit = 32
