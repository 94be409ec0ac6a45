-- What each line asks.
use Rattle.std.proofs.Common.{◌≡◌, ◌≢◌, ℕ, List, [], ◌∷◌, Ok, subst, refl}
use Rattle.row.specs.Limits.{field_limit}
use Rattle.tlcp.specs.Limits.{id_limit}
use Rattle.tlcp.specs.Lines.{Message, Sort, number, list, id as line_id, single, field_count}
use Rattle.tlcp.specs.Lines.{Argument, numbered, coded, worded, listed, OfSort, Laid, none, last}
use Rattle.tlcp.specs.Lines.{more, Says, sorts, read_line}
use Rattle.tlcp.specs.Parts.{Piece}
use Rattle.tlcp.specs.declared.tag.Tag.{Tag}
use Rattle.tlcp.specs.declared.tag.Tag.TheVariants.{U, Probe, Sync, Loop, Cons, Servname, Clientip}
use Rattle.tlcp.specs.declared.tag.Tag.TheVariants.{Reqok, Unsub, Conerr, End, Error, Eos, Subok}
use Rattle.tlcp.specs.declared.tag.Tag.TheVariants.{Ov, Conf, Reqerr, Conok}
use Rattle.tlcp.proofs.Saying.{reads-said}
use Rattle.tlcp.proofs.Unescaped.{reads-escapes}
use Rattle.viewer.specs.Effects.{Effect, opens, closes, updates, nothing, effect_of}
use Rattle.viewer.specs.Laws.{Asks, message, subok, unsub, update, other, AsksOne}

-- each argument is of its sort
abbrev AllOfSort : List Sort → List Argument → Type 0
AllOfSort [] [] = Unit {0}
AllOfSort [] (a ∷ args) = ⊥
AllOfSort (k ∷ ks) [] = ⊥
AllOfSort (k ∷ ks) (a ∷ args) = OfSort k a × AllOfSort ks args

laid-kept :
    {ks : List Sort} {at : ℕ} {args : List Argument} {s : List ℕ} → Laid ks at args s
    → AllOfSort ks args
laid-kept none = tt
laid-kept (last kept is) = (kept, tt)
laid-kept (more kept is plain laid) = (kept, laid-kept laid)

-- a tag that asks nothing of a viewer
idle-tag :
    (t : Tag) (args : List Argument) → t ≢ Subok → t ≢ Unsub → t ≢ U → effect_of t args ≡ nothing
idle-tag U args a b c = absurd (c refl)
idle-tag Probe args a b c = refl
idle-tag Sync args a b c = refl
idle-tag Loop args a b c = refl
idle-tag Cons args a b c = refl
idle-tag Servname args a b c = refl
idle-tag Clientip args a b c = refl
idle-tag Reqok args a b c = refl
idle-tag Unsub args a b c = absurd (b refl)
idle-tag Conerr args a b c = refl
idle-tag End args a b c = refl
idle-tag Error args a b c = refl
idle-tag Eos args a b c = refl
idle-tag Subok args a b c = absurd (a refl)
idle-tag Ov args a b c = refl
idle-tag Conf args a b c = refl
idle-tag Reqerr args a b c = refl
idle-tag Conok args a b c = refl

-- a line that asks something is read as a message with that effect
pub record Asked (line : List ℕ) (asked : Effect) : Type 0 where
  pub message : Message
  pub read : read_line line ≡ Ok message
  pub effect : effect_of message.tag message.args ≡ asked

said-asks :
    (line : List ℕ) (m : Message) (asked : Effect) → Says line m → effect_of m.tag m.args ≡ asked
    → Asked line asked
said-asks line m asked says is = record {
  message = m;
  read = (reads-said reads-escapes line m).1 says;
  effect = is;
}

pub asks-read : (line : List ℕ) (asked : Effect) → Asks line asked → Asked line asked
asks-read line asked (subok says) = said-asks line _ _ says refl
asks-read line asked (unsub says) = said-asks line _ _ says refl
asks-read line asked (update says) = said-asks line _ _ says refl
asks-read line asked (other {m} says a b c) =
    said-asks line m nothing says (idle-tag m.tag m.args a b c)

number-from :
    (low high : ℕ) (a : Argument) → OfSort (number low high) a → (p : Piece) × (n : ℕ)
    × (a ≡ numbered p n)
number-from low high (numbered p n) kept = (p, n, refl)
number-from low high (coded p z) kept = absurd kept
number-from low high (worded p) kept = absurd kept
number-from low high (listed p) kept = absurd kept

list-from : (a : Argument) → OfSort list a → (p : Piece) × (a ≡ listed p)
list-from (numbered p n) kept = absurd kept
list-from (coded p z) kept = absurd kept
list-from (worded p) kept = absurd kept
list-from (listed p) kept = (p, refl)

one-from :
    (k : Sort) (args : List Argument) → AllOfSort (k ∷ []) args → (a : Argument) × (args ≡ a ∷ [])
    × OfSort k a
one-from k [] kept = absurd kept
one-from k (a ∷ []) kept = (a, refl, kept.0)
one-from k (a ∷ b ∷ args) kept = absurd kept.1

next-from :
    (k : Sort) (ks : List Sort) (args : List Argument) → AllOfSort (k ∷ ks) args → (a : Argument)
    × (others : List Argument) × (args ≡ a ∷ others) × OfSort k a × AllOfSort ks others
next-from k ks [] kept = absurd kept
next-from k ks (a ∷ args) kept = (a, args, refl, kept.0, kept.1)

-- what a line asks, by its tag and arguments
module _ (line : List ℕ) (name : Piece) (args : List Argument) where
  abbrev SaysThis : Tag → List Argument → Type 0
  SaysThis t xs = Says line (message t name xs)

  says-as : (t : Tag) (xs : List Argument) → SaysThis t args → args ≡ xs → SaysThis t xs
  says-as t xs says is = subst (SaysThis t) is says

  idle :
      (t : Tag) → t ≢ Subok → t ≢ Unsub → t ≢ U → SaysThis t args → (asked : Effect)
      × Asks line asked
  idle t a b c says = (nothing, other says a b c)

  asks-by :
      (t : Tag) → SaysThis t args → AllOfSort (sorts t) args → (asked : Effect) × Asks line asked
  asks-by Subok says kept =
      let (a, xs, is, first, kept) = next-from line_id (single ∷ field_count ∷ []) args kept in
      let (b, ys, is', second, kept) = next-from single (field_count ∷ []) xs kept in
      let (c, is'', third) = one-from field_count ys kept in
      let (p, id, a-is) = number-from 1 id_limit a first in
      let (q, items, b-is) = number-from 1 1 b second in
      let (r, n, c-is) = number-from 1 field_limit c third in
      let these = numbered p id ∷ numbered q items ∷ numbered r n ∷ [] in
      (opens id n, subok (says-as Subok these says (cc)))
  asks-by Unsub says kept =
      let (a, is, first) = one-from line_id args kept in
      let (p, id, a-is) = number-from 1 id_limit a first in
      (closes id, unsub (says-as Unsub (numbered p id ∷ []) says (cc)))
  asks-by U says kept =
      let (a, xs, is, first, kept) = next-from line_id (single ∷ list ∷ []) args kept in
      let (b, ys, is', second, kept) = next-from single (list ∷ []) xs kept in
      let (c, is'', third) = one-from list ys kept in
      let (p, id, a-is) = number-from 1 id_limit a first in
      let (q, item, b-is) = number-from 1 1 b second in
      let (r, c-is) = list-from c third in
      (updates id r, update (says-as U (numbered p id ∷ numbered q item ∷ listed r ∷ []) says (cc)))
  asks-by Probe says kept = idle Probe (λ e. cc) (λ e. cc) (λ e. cc) says
  asks-by Sync says kept = idle Sync (λ e. cc) (λ e. cc) (λ e. cc) says
  asks-by Loop says kept = idle Loop (λ e. cc) (λ e. cc) (λ e. cc) says
  asks-by Cons says kept = idle Cons (λ e. cc) (λ e. cc) (λ e. cc) says
  asks-by Servname says kept = idle Servname (λ e. cc) (λ e. cc) (λ e. cc) says
  asks-by Clientip says kept = idle Clientip (λ e. cc) (λ e. cc) (λ e. cc) says
  asks-by Reqok says kept = idle Reqok (λ e. cc) (λ e. cc) (λ e. cc) says
  asks-by Conerr says kept = idle Conerr (λ e. cc) (λ e. cc) (λ e. cc) says
  asks-by End says kept = idle End (λ e. cc) (λ e. cc) (λ e. cc) says
  asks-by Error says kept = idle Error (λ e. cc) (λ e. cc) (λ e. cc) says
  asks-by Eos says kept = idle Eos (λ e. cc) (λ e. cc) (λ e. cc) says
  asks-by Ov says kept = idle Ov (λ e. cc) (λ e. cc) (λ e. cc) says
  asks-by Conf says kept = idle Conf (λ e. cc) (λ e. cc) (λ e. cc) says
  asks-by Reqerr says kept = idle Reqerr (λ e. cc) (λ e. cc) (λ e. cc) says
  asks-by Conok says kept = idle Conok (λ e. cc) (λ e. cc) (λ e. cc) says

pub asks-one : AsksOne
asks-one line m read =
    let says = (reads-said reads-escapes line m).0 read in
    asks-by line m.name m.args m.tag says (laid-kept says.args)
