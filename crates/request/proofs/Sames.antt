-- A request that was read is written anew, and read again as what is shown of it.
use Rattle.std.proofs.Common.{◌≡◌, ℕ, ◌-◌, ◌<◌, ◌≤◌, true, eqb, List, [], ◌∷◌, map, length}
use Rattle.std.proofs.Common.{replicate, is_some, Some, None, Ok, codes, decimal, Option, unwrap_or}
use Rattle.std.proofs.Common.{sym, refl, ap, ◌∙◌, subst, arith, lit<, lit≤}
use Rattle.std.specs.List.{AllByRecursion}
use Rattle.std.proofs.ByRecursion.{All-weaker}
use Rattle.std.proofs.lemmas.List.{length-replicate, take_at}
use Rattle.std.proofs.lemmas.Bool.{cond_both}
use Rattle.std.proofs.lemmas.Bool.Decides.{nat_tests}
use Rattle.row.specs.Every.{all-bytes}
use Rattle.row.specs.Texts.{every, is_byte, padded}
use Rattle.tlcp.specs.Bytes.{is_hex, is_plain}
use Rattle.tlcp.specs.Escapes.{Decodes, nothing, plain, escape, hex_value}
use Rattle.tlcp.specs.Limits.{id_limit}
use Rattle.tlcp.specs.Numbers.{read_number}
use Rattle.tlcp.proofs.Numerals.{reads-decimal}
use Rattle.requests.specs.Asked.{Given, Readable, Apart, Formed, creates, binds, adds, deletes}
use Rattle.requests.specs.Asked.{rebinds, Right, found}
use Rattle.requests.specs.Limits.{request_limit, value_limit}
use Rattle.requests.specs.Names.{form_word, index_of, is_in, needs, takes}
use Rattle.requests.specs.Requests.{Request, create, bind, add, delete, rebind, request_of}
use Rattle.requests.specs.Values.{session_name}
use Rattle.requests.specs.declared.name.Form.{Form}
use Rattle.requests.specs.declared.name.Form.TheVariants.{Create, Bind, Add, Delete, ForceRebind}
use Rattle.requests.specs.declared.name.Parameter.{Parameter}
use Rattle.requests.specs.declared.name.Parameter.TheVariants.{Cid, User, Session, RequestId}
use Rattle.requests.specs.declared.name.Parameter.TheVariants.{Operation, SubscriptionId, Group}
use Rattle.requests.proofs.Asking.{reads-asked}
use Rattle.compose.specs.Composed.{composing, zeroed_or}
use Rattle.compose.specs.ReadBack.{Keeps, value_in}
use Rattle.compose.specs.Written.{Assignment, given_by, written}
use Rattle.compose.proofs.ReadingBack.{keeps-fit, reads-back, within-limit}
use Rattle.compose.proofs.Rooms.{keeps-composed}
use Rattle.request.specs.Anew.{name_for, pairs_for}
use Rattle.request.specs.Checking.{anew_text}
use Rattle.request.specs.Same.{shown, ShowsSame}
use Rattle.request.proofs.Checks.{written-text}

-- a value that the writer takes
abbrev Fine : List ℕ → Type 0
Fine t = AllByRecursion (λ b. b < 256) t × (length t ≤ value_limit)

plain-small : (b : ℕ) → is_plain b ≡ true → b < 256
plain-small b e = grind (arith, nat_tests)

hex-small : (b : ℕ) → is_hex b ≡ true → hex_value b < 16
hex-small b e = grind (arith, nat_tests)

-- what plain bytes stand for are bytes
decoded-small :
    {s t : List ℕ} → AllByRecursion (λ b. is_plain b ≡ true) s → Decodes s t
    → AllByRecursion (λ b. b < 256) t
decoded-small h nothing = tt
decoded-small h (plain {b = b} other d) = (plain-small b h.0, decoded-small h.1 d)
decoded-small h (escape {h =
    x} {l = y} high low d) = (omega (arith, hex-small x high, hex-small y low), decoded-small h.1.1.1 d)

-- the value that was read for a parameter
fine-found :
    (gs : List Given) (p : Parameter) → AllByRecursion Readable gs
    → Fine (unwrap_or (found gs p) [])
fine-found [] p h = (tt, lit≤ tt)
fine-found (g ∷ gs) p h =
    let sound = h.0 in
    cond_both (eqb (index_of p) (index_of g.parameter)) (Some g.text) (found gs p) (λ o. Fine (unwrap_or o []))
    (λ _. (decoded-small sound.plain sound.decodes, sound.short)) (λ _. fine-found gs p h.1)

-- a word that is written out
fine-word : (t : List ℕ) → every is_byte t ≡ true → length t ≤ value_limit → Fine t
fine-word t e short = (all-bytes t e, short)

-- what stands for a password
hidden : Fine (codes "redacted")
hidden = fine-word (codes "redacted") refl (lit≤ tt)

-- an ID is read as the number that it is
number-again :
    (n : ℕ) (t : List ℕ) → t ≡ decimal n → 1 ≤ n → n ≤ id_limit
    → unwrap_or (read_number 1 id_limit t) 0 ≡ n
number-again n t is low high =
    ap (λ o. unwrap_or o 0) ((reads-decimal 1 id_limit n t (lit< tt)).1 is low high)

-- what is written for a request keeps the rules of a form, and asks for what is shown of the
-- request
record Same (session : ℕ) (q : Request) : Type 0 where
  form : Form
  keeps : Keeps session (name_for q) form (pairs_for session q)
  again : request_of (value_in (pairs_for session q)) form ≡ shown q

module _ (session : ℕ) where
  module _ (q : Request) (form : Form) where
    abbrev xs : List Assignment
    xs = pairs_for session q

    abbrev look : Parameter → Option (List ℕ)
    look = value_in xs

    same_by :
        AllByRecursion (λ x. Fine x.value) xs → Apart (map given_by xs)
        → Formed (name_for q) (look Operation) form
        → AllByRecursion (λ p. is_some (look p) ≡ true) (needs form)
        → AllByRecursion (λ x. is_in x.parameter (takes form) ≡ true) xs
        → AllByRecursion (λ p. Right session p (unwrap_or (look p) [])) (needs form)
        → request_of look form ≡ shown q → Same session q
    same_by fine apart formed all only right again = record {
      form = form;
      keeps = record {
        bytes =
            All-weaker (λ x. Fine x.value) (λ x. AllByRecursion (λ b. b < 256) x.value) (λ x h. h.0) xs fine;
        short =
            All-weaker (λ x. Fine x.value) (λ x. length x.value ≤ value_limit) (λ x h. h.1) xs fine;
        apart = apart;
        formed = formed;
        all = all;
        only = only;
        right = right;
      };
      again = again;
    }

  same-create :
      (c : List ℕ) (u w : Option (List ℕ)) → Fine c → Fine (unwrap_or u [])
      → Same session (create c u w)
  same-create c None None fc fu =
      same_by (create c None None) Create (fc, tt) (refl, tt) creates (refl, tt) (refl, tt) (tt, tt) refl
  same-create c (Some u) None fc fu =
      same_by (create c (Some u) None) Create (fc, (fu, tt)) (refl, (refl, tt)) creates (refl, tt) (refl, (refl, tt)) (tt, tt) refl
  same-create c None (Some w) fc fu =
      same_by (create c None (Some w)) Create (fc, (hidden, tt)) (refl, (refl, tt)) creates (refl, tt) (refl, (refl, tt)) (tt, tt) refl
  same-create c (Some u) (Some w) fc fu =
      same_by (create c (Some u) (Some w)) Create (fc, (fu, (hidden, tt))) (refl, (refl, (refl, tt))) creates (refl, tt) (refl, (refl, (refl, tt))) (tt, tt) refl

  same-bind : Fine (session_name session) → Same session bind
  same-bind fine =
      same_by bind Bind (fine, tt) (refl, tt) binds (refl, tt) (refl, tt) (refl, tt) refl

  module _ (r : List ℕ) (ids : Right session RequestId r) (fine : Fine r) where
    same-rebind : Same session (rebind r)
    same-rebind =
        same_by (rebind r) ForceRebind
        (fine, (fine-word (form_word ForceRebind) refl (lit≤ tt), tt)) (refl, (refl, tt))
        rebinds (refl, (refl, tt)) (refl, (refl, tt)) (ids, (tt, tt)) refl

    module _ (id : ℕ) (low : 1 ≤ id) (high : id ≤ id_limit) (number : Fine (decimal id)) where
      numbered : Right session SubscriptionId (decimal id)
      numbered = (id, refl, low, high)

      same-delete : Same session (delete r id)
      same-delete =
          same_by (delete r id) Delete
          (fine, (fine-word (form_word Delete) refl (lit≤ tt), (number, tt)))
          (refl, (refl, (refl, tt))) deletes (refl, (refl, (refl, tt)))
          (refl, (refl, (refl, tt))) (ids, (tt, (numbered, tt)))
          (ap (delete r) (number-again id (decimal id) refl low high))

      same_add : (g : List ℕ) → Right session Group g → Fine g → Same session (add r id g)
      same_add g group fg =
          let op = fine-word (form_word Add) refl (lit≤ tt) in
          let schema = fine-word (codes "all") refl (lit≤ tt) in
          let mode = fine-word (codes "MERGE") refl (lit≤ tt) in
          let snapshot = fine-word (codes "true") refl (lit≤ tt) in
          same_by (add r id g) Add (fine, (op, (number, (fg, (schema, (mode, (snapshot, tt)))))))
          (refl, (refl, (refl, (refl, (refl, (refl, (refl, tt))))))) adds
          (refl, (refl, (refl, (refl, (refl, (refl, (refl, tt)))))))
          (refl, (refl, (refl, (refl, (refl, (refl, (refl, tt)))))))
          (ids, (tt, (numbered, (group, (refl, (refl, (refl, tt)))))))
          (ap (λ n. add r n g) (number-again id (decimal id) refl low high))

  -- a request that was read by these pairs
  same_read :
      (gs : List Given) → AllByRecursion Readable gs → (form : Form)
      → AllByRecursion (λ p. Right session p (unwrap_or (found gs p) [])) (needs form)
      → Same session (request_of (found gs) form)
  same_read gs sound Create right =
      same-create _ _ _ (fine-found gs Cid sound) (fine-found gs User sound)
  same_read gs sound Bind right = same-bind (subst Fine right.0 (fine-found gs Session sound))
  same_read gs sound Add right =
      let (n, is, low, high) = right.1.1.0 in
      let r = unwrap_or (found gs RequestId) [] in
      let g = unwrap_or (found gs Group) [] in
      subst (λ i. Same session (add r i g)) (sym (number-again n _ is low high))
      (same_add r right.0 (fine-found gs RequestId sound) n low high (subst Fine is (fine-found gs SubscriptionId sound)) g right.1.1.1.0 (fine-found gs Group sound))
  same_read gs sound Delete right =
      let (n, is, low, high) = right.1.1.0 in
      let r = unwrap_or (found gs RequestId) [] in
      subst (λ i. Same session (delete r i)) (sym (number-again n _ is low high))
      (same-delete r right.0 (fine-found gs RequestId sound) n low high (subst Fine is (fine-found gs SubscriptionId sound)))
  same_read gs sound ForceRebind right = same-rebind _ right.0 (fine-found gs RequestId sound)

-- a request that keeps the rules finds its room
same-written :
    (session : ℕ) (q : Request) → Same session q
    → anew_text session q ≡ Ok (written (name_for q) (pairs_for session q))
same-written session q same =
    let k = same.keeps in
    let name = name_for q in
    let xs = pairs_for session q in
    let out = replicate request_limit 0 in
    let text = written name xs in
    let room : length text ≤ length out = omega (arith, within-limit name xs (keeps-fit k), length-replicate {A = ℕ} request_limit 0) in
    let (answer, left) = keeps-composed k out room in
    sym (written-text (composing name xs out) (zeroed_or name out) (Ok (length text)) (padded (length out) text) (sym answer) (sym left))
    ∙ ap Ok (take_at text (replicate (length out - length text) 0) (length text) refl)

pub shows_same : ShowsSame
shows_same session s q read =
    let a = (reads-asked session s q).0 read in
    let same = subst (Same session) (sym a.is) (same_read session a.pairs a.sound a.form a.right) in
    (same-written session q same, reads-back reads-asked session (name_for q) same.form (pairs_for session q) same.keeps ∙ ap Ok same.again)
