-- Updates: their lines are short, and are read back.
use Rattle.std.proofs.Common.{◌≡◌, ℕ, ◌≤◌, true, eqb, List, [], ◌∷◌, map, length, take, Ok, Err}
use Rattle.std.proofs.Common.{Result, sym, ap, ◌∙◌, arith, rules}
use Rattle.std.specs.List.{AllByRecursion}
use Rattle.std.proofs.lemmas.Fmt.{length-decimal-le}
use Rattle.std.proofs.lemmas.List.{length-append, length-map, length-take-le}
use Rattle.std.proofs.lemmas.Bool.{le-leb, eq-eqb, cond-true}
use Rattle.std.proofs.lemmas.Bool.Decides.{nat_tests}
use Rattle.row.specs.Kinds.{Kind, Lawful}
use Rattle.row.specs.Limits.{field_limit}
use Rattle.row.specs.Records.{change_of, mark_of}
use Rattle.row.specs.declared.change.Change.{Change}
use Rattle.row.specs.declared.change.Mark.{Mark}
use Rattle.row.specs.declared.fault.Refusal.{Refusal}
use Rattle.tlcp.specs.Written.{end_or, no_room, placed_or}
use Rattle.tlcp.specs.Written.{changes_of, covers}
use Rattle.tlcp.proofs.Deltas as lists
use Rattle.tlcp.specs.Limits.{id_limit}
use Rattle.tlcp.specs.Limits.{line_limit}
use Rattle.tlcp.specs.Lines as lines
use Rattle.tlcp.specs.Lines.{word}
use Rattle.tlcp.specs.declared.tag.Tag.TheVariants.{U}
use Rattle.notify.specs.Given.{number, argued, is_within, line_text}
use Rattle.notify.specs.Back.{Accepted, BytesIn, FromMemory, Update, UpdateBack, UpdateShort}
use Rattle.notify.specs.Back.{UpdateUnbroken}
use Rattle.notify.specs.Composed.{composed}
use Rattle.notify.specs.Written.{update_of, update_answer, update_placed}
use Rattle.notify.proofs.Backing.{read_back, unbroken}
use Rattle.notify.proofs.Composing.{composed-is, word-short}

-- what the tests of a writer show
pub update-from :
    {R : Type 0} (k : Kind R) (id : ℕ) (delta : List (Change R)) (fields : ℕ)
    → length delta ≡ field_limit → true ≡ is_within lines.id (number id) → covers fields ≡ true
    → Update k id delta fields
update-from k id delta fields whole is covered = record {
  whole = whole;
  id-within = search rules;
  fields_within = covered;
}

module _ {R : Type 0} (k : Kind R) (law : Lawful k) where
  bytes-in : (cs : List (Change R)) → AllByRecursion BytesIn (map (change_of k) cs)
  bytes-in [] = tt
  bytes-in (c ∷ cs) = (here c.mark c.raw, bytes-in cs)
    where
      here : (m : Mark) (r : R) → BytesIn (mark_of k m r)
      here m r = search (rules, law.bytes, law.text-allowed)

  module _ (id : ℕ) (delta : List (Change R)) (fields : ℕ) where
    some : Update k id delta fields → 1 ≤ fields
    some h = grind (arith, nat_tests, h.fields_within)

    few : Update k id delta fields → fields ≤ field_limit
    few h = grind (arith, nat_tests, h.fields_within)

    id-few : Update k id delta fields → id ≤ id_limit
    id-few h = grind (arith, nat_tests, h.id-within)

    sound : Update k id delta fields → AllByRecursion FromMemory (update_of k id delta fields).given
    sound h =
        let size : length (changes_of k delta fields) ≡ fields = length-map (take fields delta) (change_of k) ∙ length-take-le fields delta (omega (arith, few h, h.whole)) in
        (tt, (tt, ((omega (arith, size, few h), bytes-in (take fields delta)), tt)))

    pub update-short : UpdateShort k id delta fields
    update-short h =
        let digits = length-decimal-le 4 id (omega arith) (omega (arith, id-few h)) (omega (arith, id-few h)) in
        let one = length-decimal-le 1 1 (omega arith) (omega arith) (omega arith) in
        let list = lists.list-short k delta fields h.whole (few h) law (some h) in
        simp length-append (omega (arith, digits, one, list))

    accepted : Update k id delta fields → Accepted (update_of k id delta fields)
    accepted h = record { numbers = h.id-within; short = update-short h }

    pub update-back : UpdateBack k id delta fields
    update-back h =
        (read_back (update_of k id delta fields) (sound h) (accepted h), lists.read_back k delta fields h.whole (few h) law (some h))

    pub update-unbroken : UpdateUnbroken k id delta fields
    update-unbroken h = unbroken (update_of k id delta fields) (sound h) (accepted h)

    -- it is composed whole
    module _ (h : Update k id delta fields) where
      composed-whole :
          composed (word U) (update_of k id delta fields).given
          ≡ Ok (line_text (update_of k id delta fields))
      composed-whole =
          let s = update_of k id delta fields in
          composed-is (word U) s.given (word-short U)
          ∙ cond-true _ (Ok (line_text s)) (Err no_room) (le-leb _ line_limit (omega (arith, update-short h, length-append (word U) (argued s.given))))

      pub update-unrefused :
          (e : Refusal) → Err e ≡ composed (word U) (update_of k id delta fields).given → ⊥
      update-unrefused e is = let z : ◌≡◌ {A = ℕ} 0 1 = cc (is ∙ composed-whole) in omega arith

      module _ (line : List ℕ) (is : Ok line ≡ composed (word U) (update_of k id delta fields).given) (at : ℕ) (xs : List ℕ) where
        same : line ≡ line_text (update_of k id delta fields)
        same = cc (is ∙ composed-whole)

        long : eqb (length delta) field_limit ≡ true
        long = eq-eqb _ field_limit h.whole

        pub update-answer :
            {r : Result ℕ Refusal} → r ≡ end_or at line xs
            → r ≡ update_answer k id delta fields at xs
        update-answer e =
            e ∙ ap (λ l. end_or at l xs) same
            ∙ sym (cond-true _ _ _ long ∙ cond-true _ _ _ h.id-within ∙ cond-true _ _ _ h.fields_within)

        pub update-placed :
            {ys : List ℕ} → ys ≡ placed_or at line xs → ys ≡ update_placed k id delta fields at xs
        update-placed e =
            e ∙ ap (λ l. placed_or at l xs) same
            ∙ sym (cond-true _ _ _ long ∙ cond-true _ _ _ h.id-within ∙ cond-true _ _ _ h.fields_within)
