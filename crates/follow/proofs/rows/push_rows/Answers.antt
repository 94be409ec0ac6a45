use Rattle.std.proofs.Common.{◌++◌, length, vec_items, sym, ap, ◌∙◌, append_assoc, rules, arith}
use Rattle.std.proofs.lemmas.List.{length-append}
use Rattle.follow.specs.Answers.{row_text, rows_text}
use Rattle.follow.proofs.RowTexts.{row-first}
use Rattle.follow.proofs.rows.push_rows.Goals as goal

pub loop-entry-preserved : goal.loop-entry-preserved
loop-entry-preserved g c =
    let k = g.V.Value.kind in
    let (entries, (sizes, (cells, long), _)) = c.in-Some.ensures.steps in
    let turn = c.loop-entry in
    let out = vec_items turn.out in
    let row = c.in-Some.row.now in
    let left = c.next.new.self in record {
      can_next = search rules;
      is_finite = search rules;
      size = sizes ∙ turn.invariant.size;
      long =
          omega (arith, turn.invariant.long, turn.invariant.size, long, ap length entries, ap length cells ∙ length-append row left.b.rest.now);
      text =
          ap (λ l. l ++ rows_text k left.a.rest.now left.b.rest.now) c.in_ok-push_entry.ensures
          ∙ append_assoc out (row_text k c.in-Some.entry.now row) _
          ∙ sym (ap (λ l. out ++ l) ((λ j. rows_text k (entries j) (cells j)) ∙ row-first k row left.b.rest.now (long ∙ turn.invariant.size) c.in-Some.entry.now left.a.rest.now))
          ∙ turn.invariant.text;
    }
