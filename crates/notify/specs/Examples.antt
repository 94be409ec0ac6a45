-- Worked examples of written lines, on the definitions: bytes, and which refusal comes first.
use Rattle.std.specs.Prelude.{◌≡◌, [], ◌∷◌, pos, negsuc, replicate, codes}
use Rattle.row.specs.Faults.{accepted, by_numbers, refused}
use Rattle.row.specs.Rows.{same, becomes, null, value}
use Rattle.row.specs.Texts.{text_kind}
use Rattle.row.specs.declared.change.Change.{Change}
use Rattle.row.specs.declared.text.TextRecord.{TextRecord}
use Rattle.tlcp.specs.declared.tag.Tag.TheVariants as t
use Rattle.notify.specs.Given.{number, code, text, list, line_text, saying}
use Rattle.notify.specs.Written.{line_answer, line_placed, update_answer}

pub record WrittenLines : Type 0 where
  pub probe : line_text (saying t.Probe []) ≡ codes "PROBE"
  pub subok : line_text (saying t.Subok (number 1 ∷ number 1 ∷ number 3 ∷ [])) ≡ codes "SUBOK,1,1,3"
  pub loop : line_text (saying t.Loop (number 0 ∷ [])) ≡ codes "LOOP,0"
  -- a code below zero, and texts, of which the first byte is escaped no more than the others
  pub refusal : line_text
      (saying t.Reqerr (text (codes "#a") ∷ code (negsuc 0) ∷ text (codes "a,b|%") ∷ []))
      ≡ codes "REQERR,#a,-1,a%2Cb%7C%25"
  pub update : line_text
      (saying t.U
      (number 7 ∷ number 1 ∷ list (becomes null ∷ same ∷ becomes (value (codes "x")) ∷ []) ∷ []))
      ≡ codes "U,7,1,#||x"
  -- 4 before 16, a line that is too long, and one that does not fit
  pub beyond : by_numbers (line_answer (saying t.Unsub (number 10000 ∷ [])) 0 []) ≡ refused 4 0
  pub beyond-code : by_numbers (line_answer (saying t.End (code (pos 1000000) ∷ text [] ∷ [])) 0 [])
      ≡ refused 4 0
  pub longest : by_numbers
      (line_answer (saying t.Cons (text (replicate 1167 97) ∷ [])) 0 (replicate 1172 0))
      ≡ accepted 1172
  pub too-long : by_numbers
      (line_answer (saying t.Cons (text (replicate 1168 97) ∷ [])) 0 (replicate 1173 0))
      ≡ refused 16 0
  pub no_room : by_numbers (line_answer (saying t.Probe []) 1 (codes "12345")) ≡ refused 16 0
  pub no_room-touched : line_placed (saying t.Probe []) 1 (codes "12345") ≡ codes "12345"
  pub room-touched : line_placed (saying t.Probe []) 1 (codes "1234567") ≡ codes "1PROBE7"

-- an update of text values: memory that is not twelve changes before the ID, and the ID before the
-- fields
pub record RefusedUpdates : Type 0 where
  pub memory : (c : Change TextRecord)
      → by_numbers (update_answer text_kind 0 (replicate 11 c) 13 0 []) ≡ refused 1 0
  pub id : (c : Change TextRecord)
      → by_numbers (update_answer text_kind 10000 (replicate 12 c) 13 0 []) ≡ refused 4 0
  pub past-fields : (c : Change TextRecord)
      → by_numbers (update_answer text_kind 9999 (replicate 12 c) 13 0 []) ≡ refused 7 0
  pub no_fields : (c : Change TextRecord)
      → by_numbers (update_answer text_kind 9999 (replicate 12 c) 0 0 []) ≡ refused 7 0

pub record Examples : Type 0 where
  pub lines : WrittenLines
  pub updates : RefusedUpdates
