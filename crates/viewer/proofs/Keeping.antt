-- Hearing keeps its laws.
use Rattle.std.proofs.Common.{◌≡◌, ◌≢◌, ℕ, ◌+◌, ◌*◌, ◌<◌, ◌≤◌, Bool, List, length, drop, Option}
use Rattle.std.proofs.Common.{Some, None}
use Rattle.std.proofs.Common.{zero, suc, [], ◌∷◌, ◌++◌, ◌-◌, replicate}
use Rattle.std.proofs.Common.{Ok, Err, Result, subst, sym, ap, ◌∙◌, refl, arith, rules}
use Rattle.std.specs.List.{AllByRecursion}
use Rattle.std.specs.Option.{option_map}
use Rattle.std.specs.Prelude.{slice_set, IsOkAnd}
use Rattle.std.proofs.lemmas.List.{length-set, get_or-set_same, get_or-set_other, get_or-take}
use Rattle.std.proofs.lemmas.List.{get_or-drop}
use Rattle.row.specs.Limits.{field_limit, tap_limit, cell_limit}
use Rattle.row.specs.Rows.{Cell, Change, null, same, blank, change_cell, changed, row_at, with_row}
use Rattle.row.specs.declared.fault.Refusal.{Refusal}
use Rattle.row.proofs.Joining.{length-over}
use Rattle.row.specs.Rows.{filled}
use Rattle.tlcp.specs.Lines.{Message, read_line}
use Rattle.tlcp.specs.Lists.{Allowed, read_list}
use Rattle.tlcp.specs.Parts.{Piece}
use Rattle.tlcp.proofs.Reading.{refused, same-from-ok}
use Rattle.tlcp.proofs.Spelling.{reads-spelled}
use Rattle.viewer.specs.Effects.{Effect, opens, closes, updates, nothing}
use Rattle.viewer.specs.Entries.{opened, closed, find_open, with_count}
use Rattle.viewer.specs.Hearing.{View, unmoved, set_entry, change_row, change_by, update}
use Rattle.viewer.specs.Hearing.{hear_effect, hear_message, hear, null_cells}
use Rattle.viewer.specs.Laws.{Asks, Fits, First, NoneFits, HoldAllowed, Stays, Sets, Unchanged}
use Rattle.viewer.specs.Laws.{KeepsLaws, entry_at, HearingLaws, RowsApart}
use Rattle.viewer.specs.declared.entry.Entry.{Entry}
use Rattle.viewer.specs.declared.hear.Heard.{Heard}
use Rattle.viewer.specs.declared.hear.Heard.TheVariants.{Taken, Passed}
use Rattle.viewer.proofs.Asking.{asks-read, asks-one}
use Rattle.viewer.proofs.Finding.{Finds, none, one, found, finds, first-found, none-found}
use Rattle.viewer.proofs.Finding.{true-some}
use Rattle.row.proofs.Places.{length-with, row-with, row-others, length-row}
use Rattle.viewer.proofs.Values.{read-allowed, filled-allowed, changed-allowed, row-allowed}
use Rattle.viewer.proofs.Values.{with-allowed}

unmoved-stays :
    {es : List Entry} {cs : List Cell} {a : Heard} → Unchanged es cs a (unmoved es cs a)
unmoved-stays = record { entries = refl; cells = refl; brought = refl; answer = refl }

-- same behind a delta changes nothing
by-sames : (row : List Cell) (n : ℕ) → changed row (replicate n same) ≡ row
by-sames [] n = refl
by-sames (c ∷ row) zero = refl
by-sames (c ∷ row) (suc n) = ap (λ l. c ∷ l) (by-sames row n)

by-filled :
    (row : List Cell) (d : List Change) (n : ℕ)
    → changed row (d ++ replicate n same) ≡ changed row d
by-filled [] d n = refl
by-filled (c ∷ row) [] n = by-sames (c ∷ row) n
by-filled (c ∷ row) (e ∷ d) n = ap (λ l. change_cell c e ∷ l) (by-filled row d n)

-- a viewer of which one row was touched
abbrev touching : List Entry → ℕ → List Cell → List Cell → List Change → View
touching es i r cs d = record {
  entries = es;
  cells = with_row i r cs;
  brought = d;
  touched = Some i;
  answer = Taken;
}

-- the row that was touched, among other cells
abbrev pub with_touched : Option ℕ → List Cell → List Cell → List Cell
with_touched None new cs = cs
with_touched (Some i) new cs = with_row i (row_at i new) cs

module _ (es : List Entry) (cs : List Cell) (eight : length es ≡ tap_limit)
    (all : length cs ≡ cell_limit) where
  room : (i : ℕ) → i < length es → field_limit * i + field_limit ≤ length cs
  room i inside = omega arith

  -- one entry and its row are set
  module _ (i : ℕ) (inside : i < length es) (r : List Cell) (whole : length r ≡ field_limit)
      (d : List Change) where
    other-rows : (j : ℕ) → j ≢ i → row_at j (with_row i r cs) ≡ row_at j cs
    other-rows = row-others i r cs whole (room i inside)

    sets-entry : (e : Entry) → Sets es cs i e r d (touching (slice_set es i e) i r cs d)
    sets-entry e = record {
      entry = get_or-set_same es i e closed inside;
      row = row-with i r cs whole (room i inside);
      brought = refl;
      taken = refl;
      others = λ j ne. (get_or-set_other es i j e closed ne, other-rows j ne);
    }

    sets-row : Sets es cs i (entry_at es i) r d (touching es i r cs d)
    sets-row = record {
      entry = refl;
      row = row-with i r cs whole (room i inside);
      brought = refl;
      taken = refl;
      others = λ j ne. (refl, other-rows j ne);
    }

  length-row-changed :
      (i : ℕ) (d : List Change) → i < length es → length (changed (row_at i cs) d) ≡ field_limit
  length-row-changed i d inside =
      length-over change_cell (row_at i cs) d ∙ length-row i cs (room i inside)

  module _ (allowed : List ℕ → Bool) (line : List ℕ) where
    abbrev heard : Result View Refusal
    heard = hear allowed es cs line

    ok-and : (v : View) (P : View → Type 0) → heard ≡ Ok v → P v → IsOkAnd heard P
    ok-and v P is p = subst (λ r. IsOkAnd r P) (sym is) p

    -- a line that asks something is heard as that
    asks-heard : (asked : Effect) → Asks line asked → heard ≡ hear_effect es cs allowed asked
    asks-heard asked a =
        let h = asks-read line asked a in
        ap (hear_message es cs allowed) h.read ∙ ap (hear_effect es cs allowed) h.effect

    set-heard :
        (e : Entry) (i : ℕ) (asked : Effect) → Asks line asked
        → hear_effect es cs allowed asked ≡ Ok (set_entry es cs e (found asked es))
        → First asked es i → IsOkAnd heard (Sets es cs i e null_cells blank)
    set-heard e i asked a is first =
        ok-and (set_entry es cs e (Some i)) (Sets es cs i e null_cells blank)
        (asks-heard asked a
        ∙ is
        ∙ ap (λ o. Ok (set_entry es cs e o)) (first-found asked es i first))
        (sets-entry i first.inside null_cells refl blank e)

    -- the open entry that an update finds
    found-open :
        (id n i : ℕ) (list : Piece) → First (updates id list) es i → (entry_at es i).fields ≡ Some n
        → find_open id es ≡ Some (i, n)
    found-open id n i list first counts =
        ap (with_count es) (first-found (updates id list) es i first)
        ∙ ap (option_map (λ (m : ℕ). (i, m))) counts

    update-heard :
        (id n i : ℕ) (list : Piece) → Asks line (updates id list) → First (updates id list) es i
        → (entry_at es i).fields ≡ Some n
        → heard ≡ change_by es cs list.at i (read_list allowed n list.text)
    update-heard id n i list a first counts =
        asks-heard (updates id list) a
        ∙ ap (update es cs allowed list) (found-open id n i list first counts)

    changes-heard :
        (id n i : ℕ) (list : Piece) (d : List Change) → Asks line (updates id list)
        → First (updates id list) es i → (entry_at es i).fields ≡ Some n
        → read_list allowed n list.text ≡ Ok d
        → IsOkAnd heard (Sets es cs i (entry_at es i) (changed (row_at i cs) d) (filled d))
    changes-heard id n i list d a first counts read =
        let r = changed (row_at i cs) (filled d) in
        let v = change_row es cs i (filled d) in
        ok-and v (Sets es cs i (entry_at es i) (changed (row_at i cs) d) (filled d))
        (update-heard id n i list a first counts ∙ ap (change_by es cs list.at i) read)
        (subst (λ q. Sets es cs i (entry_at es i) q (filled d) v) (by-filled (row_at i cs) d _)
        (sets-row i first.inside r (length-row-changed i (filled d) first.inside) (filled d)))

    -- a row that was set, with what is known of it
    record Setting (asked : Effect) (v : View) : Type 0 where
      entries : List Entry
      i : ℕ
      e : Entry
      r : List Cell
      d : List Change
      first : First asked es i
      long : length entries ≡ length es
      whole : length r ≡ field_limit
      held : HoldAllowed allowed cs → HoldAllowed allowed r
      brought : AllByRecursion (Allowed allowed) d
      sets : Sets es cs i e r d (touching entries i r cs d)
      is : v ≡ touching entries i r cs d

    -- what a line that was accepted has done
    data Done (asked : Effect) (v : View) : Type 0 where
      passed : asked ≢ nothing → NoneFits asked es → v ≡ unmoved es cs Passed → Done asked v
      idle : asked ≡ nothing → v ≡ unmoved es cs Taken → Done asked v
      set : Setting asked v → Done asked v

    -- whether an entry is found decides what is done
    by-finding :
        (asked : Effect) (F : Option ℕ → Result View Refusal) (v : View) → asked ≢ nothing
        → F None ≡ Ok (unmoved es cs Passed)
        → ((i : ℕ) → First asked es i → F (Some i) ≡ Ok v → Setting asked v)
        → F (found asked es) ≡ Ok v → Finds asked es → Done asked v
    by-finding asked F v some ends goes is (none at all) =
        passed some all (same-from-ok (sym is ∙ ap F at ∙ ends))
    by-finding asked F v some ends goes is (one {i} at first) =
        set (goes i first (ap F (sym at) ∙ is))

    null-allowed : HoldAllowed allowed null_cells
    null-allowed = search rules

    blank-allowed : AllByRecursion (Allowed allowed) blank
    blank-allowed = search rules

    set-done :
        (asked : Effect) (e : Entry) (v : View) → asked ≢ nothing
        → ◌≡◌ {A = Result View Refusal} (Ok (set_entry es cs e (found asked es))) (Ok v)
        → Done asked v
    set-done asked e v some is =
        by-finding asked (λ o. Ok (set_entry es cs e o)) v some refl setting is (finds asked es)
      where
        setting :
            (i : ℕ) → First asked es i
            → ◌≡◌ {A = Result View Refusal} (Ok (set_entry es cs e (Some i))) (Ok v)
            → Setting asked v
        setting i first eq = record {
          entries = slice_set es i e;
          i = i;
          e = e;
          r = null_cells;
          d = blank;
          first = first;
          long = length-set es i e;
          whole = refl;
          held = λ _. null-allowed;
          brought = blank-allowed;
          sets = sets-entry i first.inside null_cells refl blank e;
          is = same-from-ok (sym eq);
        }

    change-sets :
        (asked : Effect) (i at n : ℕ) (s : List ℕ) (q : Result (List Change) Refusal) (v : View)
        → First asked es i → read_list allowed n s ≡ q → change_by es cs at i q ≡ Ok v
        → Setting asked v
    change-sets asked i at n s (Err f) v first read eq = refused eq
    change-sets asked i at n s (Ok d) v first read eq =
        let row = changed (row_at i cs) (filled d) in
        let wide = length-row-changed i (filled d) first.inside in
        let values = filled-allowed allowed d (read-allowed allowed n s d read) in
        record {
          entries = es;
          i = i;
          e = entry_at es i;
          r = row;
          d = filled d;
          first = first;
          long = refl;
          whole = wide;
          held = λ all.
              let was = row-allowed allowed i cs all in
              changed-allowed allowed (row_at i cs) (filled d) was values;
          brought = values;
          sets = sets-row i first.inside row wide (filled d);
          is = same-from-ok (sym eq);
        }

    update-done :
        (id : ℕ) (list : Piece) (v : View) → update es cs allowed list (find_open id es) ≡ Ok v
        → Done (updates id list) v
    update-done id list v is =
        by-finding asked (λ o. by-count (with_count es o)) v (λ e. cc) refl setting is
        (finds asked es)
      where
        asked : Effect
        asked = updates id list

        by-count : Option (ℕ × ℕ) → Result View Refusal
        by-count = update es cs allowed list

        setting :
            (i : ℕ) → First asked es i → by-count (with_count es (Some i)) ≡ Ok v
            → Setting asked v
        setting i first eq =
            let (n, counts) = true-some (entry_at es i).fields (first.here).1 in
            change-sets asked i list.at n list.text (read_list allowed n list.text) v first refl
            (ap (λ o. by-count (option_map (λ (m : ℕ). (i, m)) o)) (sym counts) ∙ eq)

    done : (asked : Effect) (v : View) → hear_effect es cs allowed asked ≡ Ok v → Done asked v
    done (opens id n) v is = set-done (opens id n) (opened id n) v (λ e. cc) is
    done (closes id) v is = set-done (closes id) closed v (λ e. cc) is
    done (updates id list) v is = update-done id list v is
    done nothing v is = idle refl (same-from-ok (sym is))

    none-heard :
        (asked : Effect) → asked ≢ nothing → NoneFits asked es
        → hear_effect es cs allowed asked ≡ Ok (unmoved es cs Passed)
    none-heard (opens id n) some all =
        ap (λ o. Ok (set_entry es cs (opened id n) o)) (none-found (opens id n) es all)
    none-heard (closes id) some all =
        ap (λ o. Ok (set_entry es cs closed o)) (none-found (closes id) es all)
    none-heard (updates id list) some all =
        let asked = updates id list in
        ap (λ o. update es cs allowed list (with_count es o)) (none-found asked es all)
    none-heard nothing some all = absurd (some refl)

    asks-done : (asked : Effect) (v : View) → Asks line asked → heard ≡ Ok v → Done asked v
    asks-done asked v a is = done asked v (sym (asks-heard asked a) ∙ is)

    -- a line that is accepted asks something, and has done it
    heard-done : (v : View) → heard ≡ Ok v → (asked : Effect) × Done asked v
    heard-done v = by (read_line line) refl
      where
        by :
            (r : Result Message Refusal) → read_line line ≡ r → hear_message es cs allowed r ≡ Ok v
            → (asked : Effect) × Done asked v
        by (Ok m) read is =
            let (asked, a) = asks-one line m read in
            (asked, asks-done asked v a (ap (hear_message es cs allowed) read ∙ is))
        by (Err r) read is = refused is

    -- what holds of all that a line may have done
    by-doing :
        (P : View → Type 0) (asked : Effect) (v : View) → ((a : Heard) → P (unmoved es cs a))
        → ((s : Setting asked v) → P (touching s.entries s.i s.r cs s.d)) → Done asked v → P v
    by-doing P asked v f g (passed some all is) = subst P (sym is) (f Passed)
    by-doing P asked v f g (idle rests is) = subst P (sym is) (f Taken)
    by-doing P asked v f g (set s) = subst P (sym s.is) (g s)

    passed-done :
        (asked : Effect) (v : View) → Done asked v → v.answer ≡ Passed
        → (asked ≢ nothing) × NoneFits asked es
    passed-done asked v (passed some all is) e = (some, all)
    passed-done asked v (idle rests is) e =
        let taken = ap (λ (w : View). w.answer) is in absurd cc
    passed-done asked v (set s) e = let taken = ap (λ (w : View). w.answer) s.is in absurd cc

    own-done :
        (asked : Effect) (v : View) (j : ℕ) → (Fits asked (entry_at es j) → ⊥) → Done asked v
        → Stays es cs j v
    own-done asked v j not =
        by-doing (Stays es cs j) asked v (λ a. (refl, refl))
        (λ s. (s.sets).others j
        (λ eq. not (subst (λ k. Fits asked (entry_at es k)) (sym eq) (s.first).here)))

    abbrev OthersStay : View → Type 0
    OthersStay v = (i : ℕ) × ((j : ℕ) → j ≢ i → Stays es cs j v)

    one-done : (asked : Effect) (v : View) → Done asked v → OthersStay v
    one-done asked v =
        by-doing OthersStay asked v (λ a. (0, λ j ne. (refl, refl))) (λ s. (s.i, (s.sets).others))

    abbrev KeepsLengths : View → Type 0
    KeepsLengths v = (length v.entries ≡ length es) × (length v.cells ≡ length cs)

    lengths-done : (asked : Effect) (v : View) → Done asked v → KeepsLengths v
    lengths-done asked v =
        by-doing KeepsLengths asked v (λ a. (refl, refl))
        (λ s. (s.long, length-with s.i s.r cs s.whole (room s.i (s.first).inside)))

    abbrev HoldsValues : View → Type 0
    HoldsValues v = HoldAllowed allowed v.cells × AllByRecursion (Allowed allowed) v.brought

    values-done :
        (asked : Effect) (v : View) → HoldAllowed allowed cs → Done asked v → HoldsValues v
    values-done asked v all =
        by-doing HoldsValues asked v (λ a. (all, blank-allowed))
        (λ s. (with-allowed allowed s.i s.r cs all (s.held all), s.brought))

    abbrev TouchesOne : View → Type 0
    TouchesOne v = v.cells ≡ with_touched v.touched v.cells cs

    -- the cells are those that were there, but for the row that was touched
    pub touched-cells : (v : View) → heard ≡ Ok v → TouchesOne v
    touched-cells v is =
        let (asked, d) = heard-done v is in
        by-doing TouchesOne asked v (λ a. refl)
        (λ s. ap (λ x. with_row s.i x cs)
        (sym (row-with s.i s.r cs s.whole (room s.i (s.first).inside)))) d

    pub keeps : KeepsLaws es cs allowed line
    keeps = record {
      subok = λ id n i a first. set-heard (opened id n) i (opens id n) a refl first;
      unsub = λ id i a first. set-heard closed i (closes id) a refl first;
      update = λ id n i list d a first counts few spells long.
          let read = (reads-spelled allowed n list.text d few).1 spells long in
          subst
          (λ (m : ℕ).
          IsOkAnd heard
          (Sets es cs i (entry_at es i) (changed (row_at i cs) d)
          (d ++ replicate (field_limit - m) same)))
          long (changes-heard id n i list d a first counts read);
      unspelled = λ id n i list r a first counts read.
          update-heard id n i list a first counts ∙ ap (change_by es cs list.at i) read;
      passed = λ asked a some all.
          ok-and (unmoved es cs Passed) (Unchanged es cs Passed)
          (asks-heard asked a ∙ none-heard asked some all) unmoved-stays;
      passed-only = λ asked v a is passed. passed-done asked v (asks-done asked v a is) passed;
      idle = λ a.
          ok-and (unmoved es cs Taken) (Unchanged es cs Taken) (asks-heard nothing a) unmoved-stays;
      unread = λ r e. ap (hear_message es cs allowed) e;
      others = λ asked v j a is not. own-done asked v j not (asks-done asked v a is);
      one = λ v is. let (asked, d) = heard-done v is in one-done asked v d;
      lengths = λ v is. let (asked, d) = heard-done v is in lengths-done asked v d;
      values = λ v is all. let (asked, d) = heard-done v is in values-done asked v all d;
    }

pub hearing-laws : HearingLaws
hearing-laws allowed es cs line eight all = keeps es cs eight all allowed line

pub rows-apart : RowsApart
rows-apart = record {
  place = λ cs i f within.
      get_or-take field_limit (drop (field_limit * i) cs) f null within
      ∙ get_or-drop (field_limit * i) cs f null;
  apart = λ i j f g h k e. let eq : i ≡ j = omega arith in (eq, omega arith);
  set = λ cs r i all whole inside. row-with i r cs whole (omega arith);
  others = λ cs r i j all whole inside ne. row-others i r cs whole (omega arith) j ne;
}
