-- Texts divided by the ends of lines, and by a byte.
use Rattle.std.specs.Prelude.{ℕ, suc, Bool, cond, ◌&&◌, List, [], ◌∷◌, length, Some, None, Option}
use Rattle.std.specs.Prelude.{◌==◌, nat_le, nat_lt, slice_index}
pub use Rattle.tlcp.specs.Parts.{first_with, has, divided_by, each_behind, joined_by, NoneHas}

-- a text begins with CR LF
abbrev pub ends_here : List ℕ → Bool
ends_here s = nat_le 2 (length s) && (slice_index s 0 == 13 && slice_index s 1 == 10)

-- the place of the first CR LF, or the length where there is none
abbrev pub crlf_at : List ℕ → ℕ
crlf_at [] = 0
crlf_at (b ∷ s) = let n = crlf_at s in cond (ends_here (b ∷ s)) 0 (suc n)

abbrev pub first_end : List ℕ → Option ℕ
first_end s = cond (nat_lt (crlf_at s) (length s)) (Some (crlf_at s)) None
