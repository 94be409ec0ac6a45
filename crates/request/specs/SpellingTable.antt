-- Lines, what they stand for, and which are refused, byte by byte.
use Rattle.std.specs.Prelude.{◌≡◌, ℕ, ◌<◌, List, [], ◌∷◌, ◌++◌, length, Some, None, codes}
use Rattle.row.specs.Faults.{by_numbers, refused}
use Rattle.request.specs.Checking.{checked}
use Rattle.request.specs.Spelling.{spelled, unspelled}

pub record SpellingTable : Type 0 where
  -- a backslash, 92, and what stands behind it: CR, LF, a backslash, and a byte by its digits
  pub bytes : unspelled (92 ∷ 114 ∷ 92 ∷ 110 ∷ 92 ∷ 92 ∷ 92 ∷ codes "x4a" ++ 92 ∷ codes "x4A")
      ≡ Some (13 ∷ 10 ∷ 92 ∷ 74 ∷ 74 ∷ [])
  pub empty : unspelled [] ≡ Some []
  -- every other byte stands for itself
  pub itself : unspelled (codes "rnx4a" ++ 0 ∷ 13 ∷ 255 ∷ [])
      ≡ Some (114 ∷ 110 ∷ 120 ∷ 52 ∷ 97 ∷ 0 ∷ 13 ∷ 255 ∷ [])
  pub other : unspelled (92 ∷ codes "q") ≡ None
  pub capital : unspelled (92 ∷ codes "R") ≡ None
  pub one_digit : unspelled (92 ∷ codes "x4") ≡ None
  pub no_digit : unspelled (92 ∷ codes "x4g") ≡ None
  pub alone : unspelled (92 ∷ []) ≡ None
  -- how bytes are written
  pub written : spelled (13 ∷ 10 ∷ 92 ∷ 74 ∷ 31 ∷ 127 ∷ 255 ∷ [])
      ≡ 92 ∷ 114 ∷ 92 ∷ 110 ∷ 92 ∷ 92 ∷ 74 ∷ 92 ∷ codes "x1F" ++ 92 ∷ codes "x7F"
      ++ 92 ∷ codes "xFF"
  -- 2 at 0, whatever stands before
  pub no_request : by_numbers (checked 1 (92 ∷ codes "q")) ≡ refused 2 0
  pub no_request_behind : by_numbers (checked 1 (codes "control" ++ 92 ∷ [])) ≡ refused 2 0
  -- more than 8,192 bytes: 16 at 0, before all else
  pub too_long : (session : ℕ) (line : List ℕ) → 8192 < length line
      → by_numbers (checked session line) ≡ refused 16 0
