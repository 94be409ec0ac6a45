-- The bytes that are held of a line that has not ended.
use Rattle.std.specs.Prelude.{ℕ, ◌-◌, List, ◌++◌, length, take}

-- further bytes behind those that are held, as long as there are no more than the limit
abbrev pub held_with : ℕ → List ℕ → List ℕ → List ℕ
held_with limit h s = h ++ take (limit - length h) s
