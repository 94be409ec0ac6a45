-- Worked examples of value lists, values and joining, on the definitions. They say a refusal by its
-- number and its place.
use Rattle.std.specs.Prelude.{◌≡◌, ℕ, true, List, [], ◌∷◌, ◌++◌, replicate, codes}
use Rattle.row.specs.Faults.{accepted, by_numbers, refused}
use Rattle.row.specs.Rows.{Change, same, becomes, null, value, join}
use Rattle.row.specs.Texts.{text_allowed}
use Rattle.row.specs.Logics.{logic_allowed, logic_record}
use Rattle.tlcp.specs.Lists.{read_list, written_list, text_value}

-- a field becomes this text
abbrev pub to : List ℕ → Change
to t = becomes (value t)

-- one field becomes `p`, n stay, and one becomes `q`
abbrev pub run_of : ℕ → List Change
run_of n = to (codes "p") ∷ (replicate n same ++ (to (codes "q") ∷ []))

pub record Examples : Type 0 where
  -- runs of 3 and of 4 same fields
  pub three-written : written_list (run_of 3) ≡ codes "p||||q"
  pub three-read : by_numbers (read_list text_allowed 5 (codes "p||||q")) ≡ accepted (run_of 3)
  pub four-written : written_list (run_of 4) ≡ codes "p|^4|q"
  pub four-read : by_numbers (read_list text_allowed 6 (codes "p|^4|q")) ≡ accepted (run_of 4)
  -- carets of a row of two fields
  pub caret-good : by_numbers (read_list text_allowed 2 (codes "^2")) ≡ accepted (same ∷ same ∷ [])
  pub caret-past : by_numbers (read_list text_allowed 2 (codes "^3")) ≡ refused 7 0
  pub caret-zero : by_numbers (read_list text_allowed 2 (codes "^0")) ≡ refused 4 0
  -- a first byte that would be a mark
  pub hash-escaped : text_value (codes "#") ≡ codes "%23"
  pub hash-inside : text_value (codes "a#") ≡ codes "a#"
  -- the longest text, and one byte more
  pub long-read : by_numbers (read_list text_allowed 1 (replicate 32 97))
      ≡ accepted (to (replicate 32 97) ∷ [])
  pub too_long : by_numbers (read_list text_allowed 1 (replicate 33 97)) ≡ refused 8 0
  -- a logic value
  pub logic-fits : logic_allowed (codes "01xz") ≡ true
  pub logic-read : by_numbers (read_list logic_allowed 1 (codes "01xz"))
      ≡ accepted (to (codes "01xz") ∷ [])
  pub logic-words : logic_record (codes "01xz") ≡ record { a = 6; b = 3; width = 4 }
  -- a field of logic has no empty text
  pub logic-empty : by_numbers (read_list logic_allowed 1 (codes "$")) ≡ refused 8 0
  -- null, the empty text and an empty value; as marks they stand alone
  pub marks-written : written_list (becomes null ∷ to [] ∷ same ∷ []) ≡ codes "#|$|"
  pub marks-read : by_numbers (read_list text_allowed 3 (codes "#|$|"))
      ≡ accepted (becomes null ∷ to [] ∷ same ∷ [])
  pub marks-inside : by_numbers (read_list text_allowed 3 (codes "##|$a|a^"))
      ≡ accepted (to (codes "##") ∷ to (codes "$a") ∷ to (codes "a^") ∷ [])
  -- divided before anything is decoded, with digits of either case
  pub divided-first : by_numbers (read_list text_allowed 2 (codes "a%7Cb|%7c"))
      ≡ accepted (to (codes "a|b") ∷ to (codes "|") ∷ [])
  pub marks-escaped : by_numbers (read_list text_allowed 3 (codes "%23|%24|%5E1"))
      ≡ accepted (to (codes "#") ∷ to (codes "$") ∷ to (codes "^1") ∷ [])
  -- a caret may cover the whole of the longest row
  pub caret-12 : by_numbers (read_list text_allowed 12 (codes "^12"))
      ≡ accepted (replicate 12 same)
  -- (v, same, null) joined with (same, w, same) is (v, w, null)
  pub joining : (v w : List ℕ)
      → join (to v ∷ same ∷ becomes null ∷ []) (same ∷ to w ∷ same ∷ [])
      ≡ to v ∷ to w ∷ becomes null ∷ []
