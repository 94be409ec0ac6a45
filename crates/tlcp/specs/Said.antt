-- What the reader's answers say.
use Rattle.std.specs.Prelude.{◌≡◌, ℕ, ℤ, List, [], ◌∷◌, Option, Result}
use Rattle.std.specs.Option.{option_map}
use Rattle.std.specs.Result.{result_map_both}
use Rattle.row.specs.declared.fault.Refusal.{Refusal}
use Rattle.tlcp.specs.Lines.{Argument, numbered, coded, worded, listed, Message, arguments_of}
use Rattle.tlcp.specs.Lines.{message_of, piece, sorts}
use Rattle.tlcp.specs.Limits.{line_limit}
use Rattle.tlcp.specs.Parts.{Piece}
use Rattle.tlcp.specs.declared.argument.Valued.{Valued}
use Rattle.tlcp.specs.declared.line.Line.{Line}
use Rattle.tlcp.specs.declared.line.Notification.{Notification}
use Rattle.tlcp.specs.declared.line.Notification.TheVariants as n
use Rattle.tlcp.specs.declared.part.Placed.{Placed}
use Rattle.tlcp.specs.declared.tag.Tag.{Tag}
use Rattle.tlcp.specs.declared.tag.Tag.TheVariants as t

abbrev pub Part : Type 0
Part = Placed line_limit

abbrev pub piece_in : {limit : ℕ} → Placed limit → Piece
piece_in p = piece p.bytes.now p.at

abbrev pub numbering : Valued ℕ → Argument
numbering n = numbered (piece_in n.part) n.value

abbrev pub coding : Valued ℤ → Argument
coding c = coded (piece_in c.part) c.value

abbrev pub wording : Part → Argument
wording p = worded (piece_in p)

abbrev pub listing : Part → Argument
listing p = listed (piece_in p)

abbrev pub tag_in : Notification → Tag
tag_in (n.U id item values) = t.U
tag_in n.Probe = t.Probe
tag_in (n.Sync seconds) = t.Sync
tag_in (n.Loop delay) = t.Loop
tag_in (n.Cons p) = t.Cons
tag_in (n.Servname p) = t.Servname
tag_in (n.Clientip p) = t.Clientip
tag_in (n.Reqok p) = t.Reqok
tag_in (n.Unsub id) = t.Unsub
tag_in (n.Conerr c p) = t.Conerr
tag_in (n.End c p) = t.End
tag_in (n.Error c p) = t.Error
tag_in (n.Eos id item) = t.Eos
tag_in (n.Subok id items fields) = t.Subok
tag_in (n.Ov id item lost) = t.Ov
tag_in (n.Conf id frequency filter) = t.Conf
tag_in (n.Reqerr request c p) = t.Reqerr
tag_in (n.Conok session limit keepalive link) = t.Conok

abbrev pub arguments_in : Notification → List Argument
arguments_in (n.U id item values) = numbering id ∷ numbering item ∷ listing values ∷ []
arguments_in n.Probe = []
arguments_in (n.Sync seconds) = numbering seconds ∷ []
arguments_in (n.Loop delay) = numbering delay ∷ []
arguments_in (n.Cons p) = wording p ∷ []
arguments_in (n.Servname p) = wording p ∷ []
arguments_in (n.Clientip p) = wording p ∷ []
arguments_in (n.Reqok p) = wording p ∷ []
arguments_in (n.Unsub id) = numbering id ∷ []
arguments_in (n.Conerr c p) = coding c ∷ wording p ∷ []
arguments_in (n.End c p) = coding c ∷ wording p ∷ []
arguments_in (n.Error c p) = coding c ∷ wording p ∷ []
arguments_in (n.Eos id item) = numbering id ∷ numbering item ∷ []
arguments_in (n.Subok id items fields) = numbering id ∷ numbering items ∷ numbering fields ∷ []
arguments_in (n.Ov id item lost) = numbering id ∷ numbering item ∷ numbering lost ∷ []
arguments_in (n.Conf id frequency filter) = numbering id ∷ wording frequency ∷ wording filter ∷ []
arguments_in (n.Reqerr request c p) = wording request ∷ coding c ∷ wording p ∷ []
arguments_in (n.Conok session limit keepalive link) =
    wording session ∷ numbering limit ∷ numbering keepalive ∷ wording link ∷ []

abbrev pub message_in : Piece → Notification → Message
message_in name n = record { tag = tag_in n; name = name; args = arguments_in n }

abbrev pub said : Result Line Refusal → Result Message Refusal
said r = result_map_both (λ l. message_in (piece_in l.tag) l.says) (λ e. e) r

-- r says what a line of `end` bytes with the tag t says, behind whose tag `tail` stands
abbrev pub Tells : Tag → ℕ → Option Part → Result Notification Refusal → Type 0
Tells t end tail r =
    (name : Piece)
    → result_map_both (message_in name) (λ e. e) r
    ≡ message_of t name (arguments_of (sorts t) end (option_map piece_in tail))
