-- A list read from a place on, and round its end.
use Rattle.std.specs.Prelude.{ℕ, List, ◌++◌, take, drop}

abbrev pub turned : {X : Type 0} → ℕ → List X → List X
turned n xs = drop n xs ++ take n xs
