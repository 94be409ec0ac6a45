-- Which numbers a place takes.
use Rattle.std.specs.Prelude.{ℕ, Bool, ◌&&◌, nat_le}
use Rattle.tlcp.specs.declared.number.Limits.{Limits}

abbrev pub hold : Limits → ℕ → Bool
hold l n = nat_le l.low n && nat_le n l.high
