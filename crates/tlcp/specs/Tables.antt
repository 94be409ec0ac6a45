-- The sets of bytes, how bytes are written, and the words, with every row written out.
use Rattle.std.specs.Prelude.{◌≡◌, ℕ, suc, ◌-◌, Bool, not, List, [], ◌∷◌, ◌++◌, map, length}
use Rattle.std.specs.Prelude.{replicate, Option, None, Some, codes}
use Rattle.std.specs.List.{filter, flat_map, range_with_len}
use Rattle.std.specs.Option.{option_map}
use Rattle.row.specs.Faults.{accepted, by_numbers, refused}
use Rattle.row.specs.Rows.{becomes, value}
use Rattle.tlcp.specs.Bounds.{decoded_within, extended, room_answer}
use Rattle.tlcp.specs.Dividing.{first_end}
use Rattle.tlcp.specs.Bytes.{is_alphanumeric, is_digit, is_escaped, is_escaped_first, is_hex}
use Rattle.tlcp.specs.Bytes.{is_plain, is_reserved, is_unreserved}
use Rattle.tlcp.specs.Escapes.{escaped, hex_digit, hex_value}
use Rattle.tlcp.specs.Lines.{Sort, code, list, number, sorts, tag_of, tags, text, word}
use Rattle.tlcp.specs.Lists.{text_value, written_list}
use Rattle.tlcp.specs.Parts.{same_bytes}
use Rattle.tlcp.specs.Written.{end_or, list_limit, placed_or}

-- the bytes from one to another
abbrev pub span : ℕ → ℕ → List ℕ
span first last = range_with_len first (suc last - first)

-- the bytes of which a test is true
abbrev pub bytes_that : (ℕ → Bool) → List ℕ
bytes_that is = filter is (span 0 255)

-- what a line asks for whose tag is this word, and how many arguments that are
abbrev pub shape : List ℕ → Option (List Sort)
shape w = option_map sorts (tag_of w)

abbrev pub asked : List ℕ → Option ℕ
asked w = option_map length (shape w)

pub record ByteSets : Type 0 where
  pub digits : bytes_that is_digit ≡ codes "0123456789"
  pub hex : bytes_that is_hex ≡ codes "0123456789ABCDEFabcdef"
  pub alphanumeric : bytes_that is_alphanumeric
      ≡ codes "0123456789ABCDEFGHIJKLMNOPQRSTUVWXYZabcdefghijklmnopqrstuvwxyz"
  pub unreserved : bytes_that is_unreserved
      ≡ codes "-.0123456789ABCDEFGHIJKLMNOPQRSTUVWXYZ_abcdefghijklmnopqrstuvwxyz~"
  pub plain : bytes_that is_plain
      ≡ codes "%-.0123456789ABCDEFGHIJKLMNOPQRSTUVWXYZ_abcdefghijklmnopqrstuvwxyz~"
  pub reserved : bytes_that is_reserved
      ≡ span 0 44 ++ (47 ∷ (span 58 64 ++ (span 91 94 ++ (96 ∷ (span 123 125 ++ span 127 255)))))
  pub escaped : bytes_that is_escaped ≡ span 0 31 ++ (codes "%,|" ++ span 127 255)
  pub escaped-first : bytes_that is_escaped_first ≡ span 0 31 ++ (codes "#$%,^|" ++ span 127 255)

pub record WrittenBytes : Type 0 where
  -- which bytes of content are not written as they are, as its first byte and behind another
  pub first : bytes_that (λ b. not (same_bytes (text_value (b ∷ [])) (b ∷ [])))
      ≡ span 0 31 ++ (codes "#$%,^|" ++ span 127 255)
  pub behind : bytes_that (λ b. not (same_bytes (text_value (97 ∷ b ∷ [])) (97 ∷ b ∷ [])))
      ≡ span 0 31 ++ (codes "%,|" ++ span 127 255)
  -- digits are capital in what is written, and of either case in what is read
  pub capital : map hex_digit (span 0 15) ≡ codes "0123456789ABCDEF"
  pub escapes : flat_map escaped (0 ∷ 31 ∷ 35 ∷ 127 ∷ 171 ∷ 205 ∷ 239 ∷ 255 ∷ [])
      ≡ codes "%00%1F%23%7F%AB%CD%EF%FF"
  pub values : map hex_value (codes "0123456789ABCDEFabcdef") ≡ span 0 15 ++ span 10 15
  -- memory that is just long enough is written, and none is touched that is too short
  pub room : by_numbers (end_or 1 (codes "ab") (codes "123")) ≡ accepted 3
  pub room-written : placed_or 1 (codes "ab") (codes "1234") ≡ codes "1ab4"
  pub no_room : by_numbers (end_or 2 (codes "ab") (codes "123")) ≡ refused 16 0
  pub no_room-touched : placed_or 2 (codes "ab") (codes "123") ≡ codes "123"
  pub limit : by_numbers (room_answer 3 (codes "1") (codes "ab")) ≡ accepted tt
  pub limit-held : extended 3 (codes "1") (codes "ab") ≡ codes "1ab"
  pub past-limit : by_numbers (room_answer 2 (codes "1") (codes "ab")) ≡ refused 16 0
  pub past-limit-held : extended 2 (codes "1") (codes "ab") ≡ codes "1"
  -- bytes up to a limit, from a text with escapes
  pub decoded : by_numbers (decoded_within 2 (codes "%41b")) ≡ accepted (Some (codes "Ab"))
  pub too-many : by_numbers (decoded_within 1 (codes "%41b")) ≡ accepted None
  pub too-many-bad : by_numbers (decoded_within 1 (codes "%41b%")) ≡ refused 3 4
  -- a line's end is CR LF, the first one
  pub line-end : map first_end ((97 ∷ 13 ∷ 13 ∷ 10 ∷ 13 ∷ 10 ∷ []) ∷ (10 ∷ 13 ∷ []) ∷ [])
      ≡ Some 2 ∷ None ∷ []
  -- the longest list
  pub longest : length (written_list (replicate 12 (becomes (value (replicate 32 255)))))
      ≡ list_limit

pub record TagWords : Type 0 where
  pub words : map word tags
      ≡ codes "U" ∷ codes "PROBE" ∷ codes "SYNC" ∷ codes "LOOP" ∷ codes "CONS" ∷ codes "SERVNAME"
      ∷ codes "CLIENTIP" ∷ codes "REQOK" ∷ codes "UNSUB" ∷ codes "CONERR" ∷ codes "END"
      ∷ codes "ERROR" ∷ codes "EOS" ∷ codes "SUBOK" ∷ codes "OV" ∷ codes "CONF" ∷ codes "REQERR"
      ∷ codes "CONOK" ∷ []
  pub no_argument : asked (codes "PROBE") ≡ Some 0
  pub one-argument : map asked
      (codes "SYNC" ∷ codes "LOOP" ∷ codes "CONS" ∷ codes "SERVNAME" ∷ codes "CLIENTIP"
      ∷ codes "REQOK" ∷ codes "UNSUB" ∷ [])
      ≡ replicate 7 (Some 1)
  pub two-arguments : map asked (codes "CONERR" ∷ codes "END" ∷ codes "ERROR" ∷ codes "EOS" ∷ [])
      ≡ replicate 4 (Some 2)
  pub three-arguments : map asked
      (codes "SUBOK" ∷ codes "OV" ∷ codes "CONF" ∷ codes "U" ∷ codes "REQERR" ∷ [])
      ≡ replicate 5 (Some 3)
  pub four-arguments : asked (codes "CONOK") ≡ Some 4
  -- what each is: a number from one to another, a code, a text or a value list
  pub one-count : map shape (codes "SYNC" ∷ codes "LOOP" ∷ [])
      ≡ replicate 2 (Some (number 0 999999999 ∷ []))
  pub one-text : map shape (codes "CONS" ∷ codes "SERVNAME" ∷ codes "CLIENTIP" ∷ codes "REQOK" ∷ [])
      ≡ replicate 4 (Some (text ∷ []))
  pub unsub : shape (codes "UNSUB") ≡ Some (number 1 9999 ∷ [])
  pub code-text : map shape (codes "CONERR" ∷ codes "END" ∷ codes "ERROR" ∷ [])
      ≡ replicate 3 (Some (code ∷ text ∷ []))
  pub eos : shape (codes "EOS") ≡ Some (number 1 9999 ∷ number 1 1 ∷ [])
  pub subok : shape (codes "SUBOK") ≡ Some (number 1 9999 ∷ number 1 1 ∷ number 1 12 ∷ [])
  pub ov : shape (codes "OV") ≡ Some (number 1 9999 ∷ number 1 1 ∷ number 0 999999999 ∷ [])
  pub conf : shape (codes "CONF") ≡ Some (number 1 9999 ∷ text ∷ text ∷ [])
  pub u : shape (codes "U") ≡ Some (number 1 9999 ∷ number 1 1 ∷ list ∷ [])
  pub reqerr : shape (codes "REQERR") ≡ Some (text ∷ code ∷ text ∷ [])
  pub conok : shape (codes "CONOK")
      ≡ Some (text ∷ number 0 999999999 ∷ number 0 999999999 ∷ text ∷ [])

pub record Tables : Type 0 where
  pub bytes : ByteSets
  pub written : WrittenBytes
  pub words : TagWords
