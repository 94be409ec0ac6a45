-- Which lists and lines are refused, by number and place, and which of two faults comes first.
-- Places count from 0.
use Rattle.std.specs.Prelude.{◌≡◌, true, ◌++◌, is_ok, replicate, codes}
use Rattle.row.specs.Faults.{by_numbers, refused}
use Rattle.row.specs.Logics.{logic_allowed}
use Rattle.row.specs.Texts.{text_allowed}
use Rattle.tlcp.specs.Lines.{read_line}
use Rattle.tlcp.specs.Lists.{read_list}

pub record RefusedLists : Type 0 where
  -- 3: at the `%` that begins no escape
  pub escape-short : by_numbers (read_list text_allowed 2 (codes "a|%4")) ≡ refused 3 2
  pub escape-other : by_numbers (read_list text_allowed 2 (codes "a|b%4g")) ≡ refused 3 3
  -- 4: at the caret
  pub caret-alone : by_numbers (read_list text_allowed 2 (codes "a|^")) ≡ refused 4 2
  pub caret-zeros : by_numbers (read_list text_allowed 2 (codes "^02")) ≡ refused 4 0
  pub caret-13 : by_numbers (read_list text_allowed 12 (codes "^13")) ≡ refused 4 0
  pub caret-text : by_numbers (read_list text_allowed 1 (codes "^a")) ≡ refused 4 0
  -- 7: at the list's first byte
  pub too_few : by_numbers (read_list text_allowed 2 (codes "a")) ≡ refused 7 0
  pub too_many : by_numbers (read_list text_allowed 2 (codes "a|b|c")) ≡ refused 7 0
  pub one-more : by_numbers (read_list text_allowed 2 (codes "a|b|")) ≡ refused 7 0
  pub caret-past : by_numbers (read_list text_allowed 2 (codes "a|^2")) ≡ refused 7 0
  pub no_fields : by_numbers (read_list text_allowed 0 (codes "")) ≡ refused 7 0
  pub past-12 : by_numbers (read_list text_allowed 13 (codes "^12|")) ≡ refused 7 0
  -- 8: at the value's first byte
  pub not-logic : by_numbers (read_list logic_allowed 2 (codes "0|12")) ≡ refused 8 2
  pub no_logic : by_numbers (read_list logic_allowed 2 (codes "0|$")) ≡ refused 8 2
  -- 3 before 8 in one value
  pub escape-then-long : by_numbers (read_list text_allowed 1 (replicate 33 97 ++ codes "%4"))
      ≡ refused 3 33
  -- values from left to right: what is wrong with one before those behind it, and before 7
  pub first-of-two : by_numbers (read_list text_allowed 2 (codes "^0|%4")) ≡ refused 4 0
  pub bad-then-more : by_numbers (read_list text_allowed 2 (codes "%4|b|c")) ≡ refused 3 0
  pub bad-then-less : by_numbers (read_list text_allowed 3 (codes "a|%4")) ≡ refused 3 2
  -- 7 before a value past the row is read
  pub past-bad : by_numbers (read_list text_allowed 2 (codes "a|b|%4")) ≡ refused 7 0
  pub past-run : by_numbers (read_list text_allowed 2 (codes "a|^2|%4")) ≡ refused 7 0

pub record RefusedLines : Type 0 where
  -- 16, before 5
  pub longest : is_ok (read_line (codes "CONS," ++ replicate 1167 97)) ≡ true
  pub too_long : by_numbers (read_line (codes "CONS," ++ replicate 1168 97)) ≡ refused 16 0
  pub long-unknown : by_numbers (read_line (replicate 1173 97)) ≡ refused 16 0
  -- 5
  pub unknown : by_numbers (read_line (codes "NOOP,x")) ≡ refused 5 0
  pub small-letters : by_numbers (read_line (codes "probe")) ≡ refused 5 0
  pub no_tag : by_numbers (read_line (codes "")) ≡ refused 5 0
  -- 6: what is missing, at the line's end, and before 4; what is not wanted, at its offset
  pub missing : by_numbers (read_line (codes "SUBOK,1,1")) ≡ refused 6 9
  pub all-missing : by_numbers (read_line (codes "LOOP")) ≡ refused 6 4
  pub missing-first : by_numbers (read_line (codes "SUBOK,x")) ≡ refused 6 7
  pub not-wanted : by_numbers (read_line (codes "PROBE,x")) ≡ refused 6 6
  pub not-wanted-empty : by_numbers (read_line (codes "PROBE,")) ≡ refused 6 6
  -- 4: the number's limits, and its form
  pub id-highest : is_ok (read_line (codes "UNSUB,9999")) ≡ true
  pub id-beyond : by_numbers (read_line (codes "UNSUB,10000")) ≡ refused 4 6
  pub id-zero : by_numbers (read_line (codes "UNSUB,0")) ≡ refused 4 6
  pub item-other : by_numbers (read_line (codes "U,1,2,a")) ≡ refused 4 4
  pub fields-highest : is_ok (read_line (codes "SUBOK,1,1,12")) ≡ true
  pub fields-beyond : by_numbers (read_line (codes "SUBOK,1,1,13")) ≡ refused 4 10
  pub fields-zero : by_numbers (read_line (codes "SUBOK,1,1,0")) ≡ refused 4 10
  pub count-zero : is_ok (read_line (codes "LOOP,0")) ≡ true
  pub count-highest : is_ok (read_line (codes "OV,1,1,999999999")) ≡ true
  pub count-beyond : by_numbers (read_line (codes "OV,1,1,1000000000")) ≡ refused 4 7
  pub code-lowest : is_ok (read_line (codes "ERROR,-999999,a")) ≡ true
  pub code-beyond : by_numbers (read_line (codes "ERROR,-1000000,a")) ≡ refused 4 6
  pub code-above : by_numbers (read_line (codes "END,1000000,a")) ≡ refused 4 4
  pub minus-zero : by_numbers (read_line (codes "ERROR,-0,a")) ≡ refused 4 6
  pub minus : by_numbers (read_line (codes "UNSUB,-1")) ≡ refused 4 6
  pub leading-zero : by_numbers (read_line (codes "UNSUB,01")) ≡ refused 4 6
  pub empty-number : by_numbers (read_line (codes "UNSUB,")) ≡ refused 4 6
  pub last-whole : by_numbers (read_line (codes "SYNC,1,2")) ≡ refused 4 5
  -- 3: at the `%` inside the text
  pub escape : by_numbers (read_line (codes "CONS,a%2")) ≡ refused 3 6
  pub escape-after-comma : by_numbers (read_line (codes "REQOK,a,%41%4g")) ≡ refused 3 11
  -- arguments from left to right
  pub first-number : by_numbers (read_line (codes "SUBOK,0,2,13")) ≡ refused 4 6
  pub second-number : by_numbers (read_line (codes "SUBOK,1,2,13")) ≡ refused 4 8
  pub text-then-number : by_numbers (read_line (codes "CONOK,%,x,1,a")) ≡ refused 3 6
  pub number-then-text : by_numbers (read_line (codes "CONOK,a,x,1,%")) ≡ refused 4 8
  pub code-then-text : by_numbers (read_line (codes "REQERR,a,x,%")) ≡ refused 4 9
  -- the value list of U is left unread
  pub list-unread : is_ok (read_line (codes "U,1,1,%|^0")) ≡ true

pub record RefusedTexts : Type 0 where
  pub lists : RefusedLists
  pub lines : RefusedLines
