-- A delta's values written one behind another, with a pipe before each.
use Rattle.std.proofs.Common.{◌≡◌, ℕ, ◌+◌, ◌*◌, ◌<◌, ◌≤◌, true, false, List, [], ◌∷◌, ◌++◌, map}
use Rattle.std.proofs.Common.{length, get_or, take, drop, Ok, sym, refl, ap, ◌∙◌, subst}
use Rattle.std.proofs.Common.{append_assoc, add-one, arith}
use Rattle.std.specs.List.{AllByRecursion}
use Rattle.std.proofs.lemmas.List.{length-append, length-map, length-take-le, drop_more}
use Rattle.std.proofs.lemmas.Bool.{false≢true}
use Rattle.std.proofs.lemmas.Grind.{flat_map-append}
use Rattle.row.specs.Kinds.{Kind, Lawful}
use Rattle.row.specs.Limits.{field_limit}
use Rattle.row.specs.Records.{change_of, is_same, mark_of}
use Rattle.row.specs.Rows as rows
use Rattle.row.specs.Rows.{same}
use Rattle.row.specs.declared.change.Change.{Change}
use Rattle.row.specs.declared.change.Mark.{Mark}
use Rattle.row.specs.declared.change.Mark.TheVariants.{Same, Null, Value}
use Rattle.tlcp.specs.Lists.{each_piped, Allowed, read_list, run_values, text_value, written_values}
use Rattle.tlcp.specs.Lists.{written_list}
use Rattle.tlcp.specs.Bounds.{bounded_text}
use Rattle.tlcp.specs.declared.bounded.Bounded.{Bounded}
use Rattle.tlcp.specs.Written.{field_room, piped_limit, values_of, changes_of}
use Rattle.tlcp.proofs.Dividing.{behind-joined}
use Rattle.tlcp.proofs.WrittenLists.{short-run, length-text, reads-written, written-some}
use Rattle.tlcp.proofs.WrittenLists.{written-short}

module _ {R : Type 0} (k : Kind R) where
  -- a change that is not same ends a run
  written-other :
      (m : Mark) (r : R) (run : ℕ) (d : List rows.Change) → is_same m ≡ false
      → written_values run (mark_of k m r ∷ d)
      ≡ run_values run ++ (values_of (mark_of k m r) ++ written_values 0 d)
  written-other Same r run d other = absurd (false≢true (sym other))
  written-other Null r run d other = refl
  written-other Value r run d other = refl

  value-short :
      Lawful k → (m : Mark) (r : R) → length (each_piped (values_of (mark_of k m r))) ≤ field_room
  value-short law Same r = omega arith
  value-short law Null r = omega arith
  value-short law Value r =
      let t = k.text r in
      omega (arith, length-append (text_value t) [], length-text t (law.short t (law.text-allowed r)))

  module _ (delta : List (Change R)) where
    abbrev changes : List (Change R) → List rows.Change
    changes cs = map (change_of k) cs

    -- the values of the first i changes stand in front, but for a run of same that has yet to be
    -- written
    pub record Before (i run : ℕ) (front : List ℕ) : Type 0 where
      pub rest :
          front ++ each_piped (written_values run (changes (drop i delta)))
          ≡ each_piped (written_values 0 (changes delta))
      pub short : length front + field_room * run ≤ field_room * i

    module _ {i run : ℕ} {front : List ℕ} (h : Before i run front) where
      front-next :
          (x : Change R) → i < length delta → x ≡ get_or delta i x
          → front ++ each_piped (written_values run (change_of k x ∷ changes (drop (i + 1) delta)))
          ≡ each_piped (written_values 0 (changes delta))
      front-next x within is =
          let here : drop i delta ≡ x ∷ drop (i + 1) delta = drop_more delta i x within ∙ ap (λ y. y ∷ drop (i + 1) delta) (sym is) in
          ap (λ cs. front ++ each_piped (written_values run (changes cs))) (sym here) ∙ h.rest

      pub before_same :
          (x : Change R) → i < length delta → x ≡ get_or delta i x → is_same x.mark ≡ true
          → Before (i + 1) (run + 1) front
      before_same x within is mark =
          let d = changes (drop (i + 1) delta) in
          record {
            rest =
                ap (λ j. front ++ each_piped (written_values j d)) (add-one run)
                ∙ ap (λ c. front ++ each_piped (written_values run (c ∷ d))) (sym (is-same x.mark x.raw mark))
                ∙ front-next x within is;
            short = omega (arith, h.short);
          }
        where
          is-same : (m : Mark) (r : R) → is_same m ≡ true → mark_of k m r ≡ same
          is-same Same r e = refl
          is-same Null r e = absurd (false≢true e)
          is-same Value r e = absurd (false≢true e)

      -- a run and then a change that is not same
      pub before-other :
          Lawful k → (x : Change R) (u v : List ℕ) → i < length delta → x ≡ get_or delta i x
          → is_same x.mark ≡ false → length front + field_room * run ≤ piped_limit
          → u ≡ front ++ each_piped (run_values run)
          → v ≡ u ++ each_piped (values_of (change_of k x)) → Before (i + 1) 0 v
      before-other law x u v within is other few run-put value-put =
          let d = changes (drop (i + 1) delta) in
          let mine = each_piped (values_of (change_of k x)) in
          let gone = each_piped (run_values run) in
          let more = each_piped (written_values 0 d) in
          let whole : v ≡ (front ++ gone) ++ mine = value-put ∙ ap (λ l. l ++ mine) run-put in
          record {
            rest =
                ap (λ l. l ++ more) whole
                ∙ append_assoc (front ++ gone) mine more
                ∙ append_assoc front gone (mine ++ more)
                ∙ ap (λ l. front ++ l)
                (ap (λ l. gone ++ l) (sym (flat_map-append (λ t. 124 ∷ t) (values_of (change_of k x)) (written_values 0 d)))
                ∙ sym (flat_map-append (λ t. 124 ∷ t) (run_values run) (values_of (change_of k x) ++ written_values 0 d))
                ∙ ap each_piped (sym (written-other x.mark x.raw run d other)))
                ∙ front-next x within is;
            short =
                omega (arith, h.short, ap length whole, length-append (front ++ gone) mine, length-append front gone, short-run run (omega (arith, few)), value-short law x.mark x.raw);
          }

  pub before-is :
      (delta : List (Change R)) {i run a N : ℕ} {list put : Bounded N} → a ≡ run → put ≡ list
      → Before delta i run (bounded_text list) → Before delta i a (bounded_text put)
  before-is delta {i} {run} {a} {N} {list} {put} p q h =
      subst (λ l. Before delta i a (bounded_text l)) (sym q) (subst (λ j. Before delta i j (bounded_text list)) (sym p) h)

  all-allowed :
      Lawful k → (cs : List (Change R)) → AllByRecursion (Allowed k.allowed) (map (change_of k) cs)
  all-allowed law [] = tt
  all-allowed law (c ∷ cs) = (allowed c.mark c.raw, all-allowed law cs)
    where
      allowed : (m : Mark) (r : R) → Allowed k.allowed (mark_of k m r)
      allowed Same r = tt
      allowed Null r = tt
      allowed Value r = law.text-allowed r

  module _ (delta : List (Change R)) (fields : ℕ) (long : length delta ≡ field_limit) (few : fields ≤ field_limit) where
    length-changes : length (changes_of k delta fields) ≡ fields
    length-changes =
        length-map (take fields delta) (change_of k) ∙ length-take-le fields delta (omega arith)

    -- a pipe stands before the first value
    pub delta-some :
        (fields ≡ 0 → ⊥) → 1 ≤ length (each_piped (written_values 0 (changes_of k delta fields)))
    delta-some some =
        rw (behind-joined 124 _ (written-some (changes_of k delta fields) 0 (omega (arith, length-changes)))) (omega arith)

    pub read_back :
        Lawful k → 1 ≤ fields
        → read_list k.allowed fields (written_list (changes_of k delta fields))
        ≡ Ok (changes_of k delta fields)
    read_back law some =
        let d = changes_of k delta fields in
        subst (λ n. read_list k.allowed n (written_list d) ≡ Ok d) length-changes
        (reads-written k.allowed law.bytes d (omega (arith, length-changes)) (omega (arith, length-changes)) (all-allowed law (take fields delta)))

    -- a row's list fits a buffer of `LIST_LIMIT` bytes
    pub list-short :
        Lawful k → 1 ≤ fields
        → length (written_list (changes_of k delta fields)) + 1 ≤ field_room * field_limit
    list-short law some =
        let d = changes_of k delta fields in
        let h = written-short k.allowed law.short d (omega (arith, length-changes)) (omega (arith, length-changes)) (all-allowed law (take fields delta)) in
        omega (arith, h, length-changes)
