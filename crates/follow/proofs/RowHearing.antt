-- A printed row, heard after SUBOK.
use Rattle.std.proofs.Common.{◌≡◌, ℕ, ◌+◌, ◌-◌, ◌≤◌, List, [], ◌∷◌, ◌++◌, map, length, replicate}
use Rattle.std.proofs.Common.{Some, Ok, Err, Result, sym, refl, ap, ◌∙◌, subst, arith}
use Rattle.std.specs.Prelude.{IsOkAnd, IsSome}
use Rattle.std.proofs.lemmas.Bool.{and_from}
use Rattle.std.proofs.lemmas.Fmt.{length-decimal-le}
use Rattle.std.proofs.lemmas.List.{length-append, length-map, length-take-le}
use Rattle.row.specs.Kinds.{Kind, Lawful}
use Rattle.row.specs.Limits.{cell_limit, field_limit, tap_limit}
use Rattle.row.specs.Records.{cell_of, whole_changes}
use Rattle.row.specs.Rows.{Cell, Change, becomes, blank, changed, null, row_at, same}
use Rattle.row.specs.declared.change.Cell as records
use Rattle.row.specs.declared.fault.Refusal.{Refusal}
use Rattle.tlcp.specs.Limits.{id_limit, line_limit}
use Rattle.tlcp.specs.Lists.{Spells, written_list}
use Rattle.tlcp.specs.Parts.{Piece}
use Rattle.tlcp.specs.Written.{changes_of}
use Rattle.tlcp.proofs.Saying.{reads-said}
use Rattle.tlcp.proofs.Spelling.{reads-spelled}
use Rattle.tlcp.proofs.Unescaped.{reads-escapes}
use Rattle.tlcp.specs.declared.tag.Tag.TheVariants.{Subok}
use Rattle.notify.specs.Back.{Reads, laid}
use Rattle.notify.specs.Given.{Saying, line_text, number, saying, one_item}
use Rattle.notify.proofs.Backing.{read_back}
use Rattle.viewer.specs.Effects.{opens, updates}
use Rattle.viewer.specs.Hearing.{View, after_line, cells_after, entries_after, hear, null_cells}
use Rattle.viewer.specs.Laws.{Asks, First, Sets, entry_at, subok, update}
use Rattle.viewer.specs.declared.entry.Entry.{Entry}
use Rattle.viewer.proofs.Keeping.{hearing-laws}
use Rattle.follow.specs.Answers.{row_update}
use Rattle.follow.specs.PrintedRows.{Row, RowsHeard, fields_of, row_of, subok_line}
use Rattle.follow.proofs.RowReading.{null-changed, number-within, printed-whole}

module _ {R : Type 0} (k : Kind R) (law : Lawful k) (id n : ℕ) (row : List (records.Cell R))
    (h : Row k id n row) where
  abbrev opening : Saying
  opening = saying Subok (number id ∷ one_item ∷ number n ∷ [])

  opening-short : length (line_text opening) ≤ line_limit
  opening-short =
      let digits =
      length-decimal-le 4 id (omega arith) (omega (arith, h.high)) (omega (arith, h.high)) in
      let one = length-decimal-le 1 1 (omega arith) (omega arith) (omega arith) in
      let fields =
      length-decimal-le 2 n (omega arith) (omega (arith, h.few)) (omega (arith, h.few)) in
      simp length-append (omega (arith, digits, one, fields))

  opening-read : Reads opening
  opening-read =
      read_back opening (tt, (tt, (tt, tt))) (record {
        numbers =
            and_from _ _ (number-within 1 id_limit id h.low h.high)
            (and_from _ _ refl
            (and_from _ _ (number-within 1 field_limit n h.some h.few) refl));
        short = opening-short;
      })

  abbrev line : List ℕ
  line = line_text (row_update k id row n)

  abbrev delta : List Change
  delta = map becomes (fields_of k n row)

  opens-asked : Asks (subok_line id n) (opens id n)
  opens-asked =
      subok ((reads-said reads-escapes (subok_line id n) (laid opening)).0 opening-read.line)

  update-asked : (list : Piece) × Asks line (updates id list)
      × (list.text ≡ written_list (changes_of k (whole_changes k row) n))
  update-asked = (
    _,
    update
        ((reads-said reads-escapes line (laid (row_update k id row n))).0
        (printed-whole k law id n row h).update),
    refl,
  )

  fields-long : length (fields_of k n row) ≡ n
  fields-long =
      length-take-le n (map (cell_of k) row)
      (omega (arith, h.few, h.long, length-map row (cell_of k)))

  delta-long : length delta ≡ n
  delta-long = length-map (fields_of k n row) becomes ∙ fields-long

  abbrev brought : List Change
  brought = delta ++ replicate (field_limit - n) same

  -- the delta gives a null row the cells of the row
  null-to-row : changed null_cells delta ≡ row_of k n row
  null-to-row =
      let all : field_limit ≡ length (fields_of k n row) + (field_limit - n) =
      omega (arith, fields-long, h.few) in
      ap (λ m. changed (replicate m null) delta) all
      ∙ null-changed (fields_of k n row) (field_limit - n)

  module _ (es : List Entry) (cs : List Cell) (i : ℕ) (les : length es ≡ tap_limit)
      (lcs : length cs ≡ cell_limit) (first : First (opens id n) es i) where
    -- the entry is the first open one with its ID after SUBOK
    first-open : (v : View) → length v.entries ≡ length es
        → Sets es cs i (record { id = id; fields = Some n }) null_cells blank v → (list : Piece)
        → First (updates id list) v.entries i
    first-open v as-many sets list = record {
      inside = omega (arith, first.inside, as-many);
      here = (ap (λ e. e.id) sets.entry, subst (λ e. IsSome e.fields) (sym sets.entry) refl);
      none-before =
          λ j less fits. first.none-before j less
          (ap (λ e. e.id) (sym (sets.others j (λ e. omega (arith, e))).0) ∙ fits.0);
    }

    -- what both lines leave in the entry's row
    after-update : (v : View) → length v.entries ≡ length es → length v.cells ≡ length cs
        → Sets es cs i (record { id = id; fields = Some n }) null_cells blank v
        → (r : Result View Refusal) → hear k.allowed v.entries v.cells line ≡ r
        → row_at i (cells_after v.cells r) ≡ row_of k n row
    after-update v les' lcs' sets r is = by r is told
      where
        asked : (list : Piece) × Asks line (updates id list)
            × (list.text ≡ written_list (changes_of k (whole_changes k row) n))
        asked = update-asked

        list : Piece
        list = asked.0

        told : IsOkAnd (hear k.allowed v.entries v.cells line)
            (Sets v.entries v.cells i (entry_at v.entries i)
            (changed (row_at i v.cells) delta) brought)
        told =
            let spelled =
            ((reads-spelled k.allowed n
            (written_list (changes_of k (whole_changes k row) n)) delta h.few).0
            (printed-whole k law id n row h).cells).0 in
            (hearing-laws k.allowed v.entries v.cells line (les' ∙ les)
            (lcs' ∙ lcs)).update id n i list delta asked.1 (first-open v les' sets list)
            (ap (λ e. e.fields) sets.entry) h.few
            (subst (λ t. Spells k.allowed t delta) (sym asked.2) spelled) delta-long

        by : (r : Result View Refusal) → hear k.allowed v.entries v.cells line ≡ r
            → IsOkAnd (hear k.allowed v.entries v.cells line)
            (Sets v.entries v.cells i (entry_at v.entries i)
            (changed (row_at i v.cells) delta) brought)
            → row_at i (cells_after v.cells r) ≡ row_of k n row
        by (Ok w) e t =
            let s = subst
            (λ x. IsOkAnd x
            (Sets v.entries v.cells i (entry_at v.entries i)
            (changed (row_at i v.cells) delta) brought)) e t in
            s.row ∙ ap (λ c. changed c delta) sets.row ∙ null-to-row
        by (Err e) is t =
            absurd (subst
            (λ x. IsOkAnd x
            (Sets v.entries v.cells i (entry_at v.entries i)
            (changed (row_at i v.cells) delta) brought)) is t)

    after-both : (r : Result View Refusal) → hear k.allowed es cs (subok_line id n) ≡ r
        → row_at i (after_line k.allowed (entries_after es r, cells_after cs r) line).1
        ≡ row_of k n row
    after-both r is =
        by r is ((hearing-laws k.allowed es cs
        (subok_line id n) les lcs).subok id n i opens-asked first)
      where
        P : View → Type 0
        P = Sets es cs i (record { id = id; fields = Some n }) null_cells blank

        by : (r : Result View Refusal) → hear k.allowed es cs (subok_line id n) ≡ r
            → IsOkAnd (hear k.allowed es cs (subok_line id n)) P
            → row_at i (after_line k.allowed (entries_after es r, cells_after cs r) line).1
            ≡ row_of k n row
        by (Ok v) e t =
            let lengths = (hearing-laws k.allowed es cs (subok_line id n) les lcs).lengths v e in
            after-update v lengths.0 lengths.1 (subst (λ x. IsOkAnd x P) e t)
            (hear k.allowed v.entries v.cells line) refl
        by (Err e) is t = absurd (subst (λ x. IsOkAnd x P) is t)

pub rows-heard : {R : Type 0} (k : Kind R) → Lawful k → RowsHeard k
rows-heard k law id n row es cs i h les lcs first =
    after-both k law id n row h es cs i les lcs first (hear k.allowed es cs (subok_line id n)) refl
