-- Lines from the emulator: tags, arguments, and which bytes say which message.
use Rattle.std.specs.Prelude.{◌≡◌, ℕ, zero, suc, ◌+◌, ◌≤◌, Bool, false, cond, List, [], ◌∷◌, ◌++◌}
use Rattle.std.specs.Prelude.{length, ℤ, Some, None, Ok, Err, codes, decimal, Option, Result}
use Rattle.std.specs.Prelude.{nat_le, ok_or, unwrap_or}
use Rattle.std.specs.Option.{option_map}
use Rattle.std.specs.Fmt.{signed_decimal}
use Rattle.row.specs.Limits.{field_limit}
use Rattle.row.specs.declared.fault.Fault.TheVariants.{Escape, Number, Unknown, Parts, Length}
use Rattle.row.specs.declared.fault.Refusal.{Refusal}
use Rattle.tlcp.specs.Escapes.{decoded, Decodes}
use Rattle.tlcp.specs.Limits.{line_limit, id_limit, count_limit}
use Rattle.row.specs.Faults.{refusal}
use Rattle.tlcp.specs.Numbers.{read_number, read_code, CodeWithin}
use Rattle.tlcp.specs.Lists.{ahead}
pub use Rattle.tlcp.specs.Parts.{same_bytes}
use Rattle.tlcp.specs.Parts.{before, behind, first_with, has, place_of, Piece}
use Rattle.tlcp.specs.declared.tag.Tag.{Tag}
use Rattle.tlcp.specs.declared.tag.Tag.TheVariants.{U, Probe, Sync, Loop, Cons, Servname, Clientip}
use Rattle.tlcp.specs.declared.tag.Tag.TheVariants.{Reqok, Unsub, Conerr, End, Error, Eos, Subok}
use Rattle.tlcp.specs.declared.tag.Tag.TheVariants.{Ov, Conf, Reqerr, Conok}

abbrev pub word : Tag → List ℕ
word U = codes "U"
word Probe = codes "PROBE"
word Sync = codes "SYNC"
word Loop = codes "LOOP"
word Cons = codes "CONS"
word Servname = codes "SERVNAME"
word Clientip = codes "CLIENTIP"
word Reqok = codes "REQOK"
word Unsub = codes "UNSUB"
word Conerr = codes "CONERR"
word End = codes "END"
word Error = codes "ERROR"
word Eos = codes "EOS"
word Subok = codes "SUBOK"
word Ov = codes "OV"
word Conf = codes "CONF"
word Reqerr = codes "REQERR"
word Conok = codes "CONOK"

abbrev pub tags : List Tag
tags =
    U ∷ Probe ∷ Sync ∷ Loop ∷ Cons ∷ Servname ∷ Clientip ∷ Reqok ∷ Unsub ∷ Conerr ∷ End ∷ Error
    ∷ Eos ∷ Subok ∷ Ov ∷ Conf ∷ Reqerr ∷ Conok ∷ []

abbrev pub tag_of : List ℕ → Option Tag
tag_of = first_with word tags

-- what an argument is
pub data Sort : Type 0 where
  number : ℕ → ℕ → Sort
  code : Sort
  text : Sort
  list : Sort

abbrev pub id : Sort
id = number 1 id_limit

abbrev pub single : Sort
single = number 1 1

abbrev pub field_count : Sort
field_count = number 1 field_limit

abbrev pub count : Sort
count = number 0 count_limit

abbrev pub sorts : Tag → List Sort
sorts U = id ∷ single ∷ list ∷ []
sorts Probe = []
sorts Sync = count ∷ []
sorts Loop = count ∷ []
sorts Cons = text ∷ []
sorts Servname = text ∷ []
sorts Clientip = text ∷ []
sorts Reqok = text ∷ []
sorts Unsub = id ∷ []
sorts Conerr = code ∷ text ∷ []
sorts End = code ∷ text ∷ []
sorts Error = code ∷ text ∷ []
sorts Eos = id ∷ single ∷ []
sorts Subok = id ∷ single ∷ field_count ∷ []
sorts Ov = id ∷ single ∷ count ∷ []
sorts Conf = id ∷ text ∷ text ∷ []
sorts Reqerr = text ∷ code ∷ text ∷ []
sorts Conok = text ∷ count ∷ count ∷ text ∷ []

-- an argument as a part of the line, with the number that it writes
pub data Argument : Type 0 where
  numbered : Piece → ℕ → Argument
  coded : Piece → ℤ → Argument
  worded : Piece → Argument
  listed : Piece → Argument

pub record Message : Type 0 where
  pub tag : Tag
  pub name : Piece
  pub args : List Argument

abbrev pub piece : List ℕ → ℕ → Piece
piece t at = record { text = t; at = at }

-- a part up to the first byte c, and the part behind that byte
abbrev pub front_at : ℕ → Piece → Piece
front_at c p = piece (before c p.text) p.at

abbrev pub rest_at : ℕ → Piece → Option Piece
rest_at c p = option_map (λ t. piece t (p.at + (place_of c p.text + 1))) (behind c p.text)

-- a part up to its first comma, and the part behind that comma
abbrev pub front : Piece → Piece
front = front_at 44

abbrev pub rest : Piece → Option Piece
rest = rest_at 44

module _ {X Y : Type 0} where
  abbrev pub and_then : Result X Refusal → (X → Result Y Refusal) → Result Y Refusal
  and_then (Ok x) f = f x
  and_then (Err r) f = Err r

-- n arguments, divided by commas: the last takes the rest of the line, commas included
abbrev pub divided : ℕ → ℕ → Option Piece → Result (List Piece) Refusal
divided zero end None = Ok []
divided zero end (Some p) = Err (refusal Parts p.at)
divided (suc n) end None = Err (refusal Parts end)
divided (suc zero) end (Some p) = Ok (p ∷ [])
divided (suc (suc n)) end (Some p) = ahead (front p ∷ []) (divided (suc n) end (rest p))

-- where the first `%` stands that begins no escape, or where the part ends
abbrev pub unsound : Piece → ℕ
unsound p = p.at + unwrap_or (decoded p.text).fault (length p.text)

abbrev pub sound_or : Piece → Option ℕ → Option Argument
sound_or p None = Some (worded p)
sound_or p (Some n) = None

-- a part as an argument of a sort, if it is one
abbrev pub argument_in : Sort → Piece → Option Argument
argument_in (number low high) p = option_map (numbered p) (read_number low high p.text)
argument_in code p = option_map (coded p) (read_code p.text)
argument_in text p = sound_or p (decoded p.text).fault
argument_in list p = Some (listed p)

-- the argument, or what is at fault in a part that is none: the number or code, or the `%`
abbrev pub read_argument : Sort → Piece → Result Argument Refusal
read_argument (number low high) p = ok_or (argument_in (number low high) p) (refusal Number p.at)
read_argument code p = ok_or (argument_in code p) (refusal Number p.at)
read_argument text p = ok_or (argument_in text p) (refusal Escape (unsound p))
read_argument list p = Ok (listed p)

abbrev pub read_arguments : List Sort → List Piece → Result (List Argument) Refusal
read_arguments [] ps = Ok []
read_arguments (s ∷ ss) [] = Ok []
read_arguments (s ∷ ss) (p ∷ ps) =
    and_then (read_argument s p) (λ a. ahead (a ∷ []) (read_arguments ss ps))

-- the arguments of a line, of the given sorts
abbrev pub arguments_of : List Sort → ℕ → Option Piece → Result (List Argument) Refusal
arguments_of ss end p = and_then (divided (length ss) end p) (read_arguments ss)

abbrev pub message_of : Tag → Piece → Result (List Argument) Refusal → Result Message Refusal
message_of t name (Ok args) = Ok (record { tag = t; name = name; args = args })
message_of t name (Err r) = Err r

abbrev pub read_tagged : List ℕ → Option Tag → Result Message Refusal
read_tagged s None = Err (refusal Unknown 0)
read_tagged s (Some t) =
    message_of t (front (piece s 0)) (arguments_of (sorts t) (length s) (rest (piece s 0)))

abbrev pub read_line : List ℕ → Result Message Refusal
read_line s =
    let read = read_tagged s (tag_of (before 44 s)) in
    cond (nat_le (length s) line_limit) read (Err (refusal Length 0))

-- which bytes an argument of a sort may be, and for what it is then taken
abbrev pub OfSort : Sort → Argument → Type 0
OfSort (number low high) (numbered p n) = (p.text ≡ decimal n) × (low ≤ n) × (n ≤ high)
OfSort (number low high) (coded p z) = ⊥
OfSort (number low high) (worded p) = ⊥
OfSort (number low high) (listed p) = ⊥
OfSort code (numbered p n) = ⊥
OfSort code (coded p z) = (p.text ≡ signed_decimal z) × CodeWithin z
OfSort code (worded p) = ⊥
OfSort code (listed p) = ⊥
OfSort text (numbered p n) = ⊥
OfSort text (coded p z) = ⊥
OfSort text (worded p) = (t : List ℕ) × Decodes p.text t
OfSort text (listed p) = ⊥
OfSort list (numbered p n) = ⊥
OfSort list (coded p z) = ⊥
OfSort list (worded p) = ⊥
OfSort list (listed p) = Unit {0}

abbrev pub piece_of : Argument → Piece
piece_of (numbered p n) = p
piece_of (coded p z) = p
piece_of (worded p) = p
piece_of (listed p) = p

abbrev pub has_comma : List ℕ → Bool
has_comma = has 44

-- arguments of some sorts stand side by side from the offset `at` on, each behind a comma; only in
-- the last one may commas stand
pub data Laid : List Sort → ℕ → List Argument → List ℕ → Type 0 where
  none : {at : ℕ} → Laid [] at [] []
  last : {k : Sort} {at : ℕ} {a : Argument} → OfSort k a → (piece_of a).at ≡ at + 1
      → Laid (k ∷ []) at (a ∷ []) (44 ∷ (piece_of a).text)
  more : {k j : Sort} {ks : List Sort} {at : ℕ} {a : Argument} {others : List Argument} {s : List ℕ}
      → OfSort k a → (piece_of a).at ≡ at + 1 → has_comma (piece_of a).text ≡ false
      → Laid (j ∷ ks) (at + (length (piece_of a).text + 1)) others s
      → Laid (k ∷ j ∷ ks) at (a ∷ others) (44 ∷ ((piece_of a).text ++ s))

-- a line says a message: it is not too long, and is the tag's word and then the arguments that the
-- tag asks for
pub record Says (s : List ℕ) (m : Message) : Type 0 where
  pub short : length s ≤ line_limit
  pub tail : List ℕ
  pub whole : s ≡ word m.tag ++ tail
  pub name : m.name ≡ piece (word m.tag) 0
  pub args : Laid (sorts m.tag) (length (word m.tag)) m.args tail

-- the reader accepts exactly the lines that say a message, and takes each for that message
abbrev pub ReadsSaid : Type 0
ReadsSaid =
    (s : List ℕ) (m : Message) → (read_line s ≡ Ok m → Says s m) × (Says s m → read_line s ≡ Ok m)
