use Rattle.std.proofs.Common.{rules, ◌≡◌, ◌-◌, ◌++◌, length, take, drop, sym, ap, ◌∙◌}
use Rattle.std.proofs.lemmas.List.{take_rest}
use Rattle.std.proofs.lemmas.Bool.{eq-eqb, cond-true}
use Rattle.row.specs.Limits.{field_limit}
use Rattle.tlcp.specs.Lists.{each_piped, written_list, written_values}
use Rattle.tlcp.specs.Written.{changes_of, placed_or}
use Rattle.tlcp.proofs.Deltas.{delta-some, read_back}
use Rattle.tlcp.proofs.list_write.write_list.Goals as goal

pub slice_bounds-put-count : goal.slice_bounds-put-count
slice_bounds-put-count g c = search (rules, delta-some)

pub slice_bounds-put-start : goal.slice_bounds-put-start
slice_bounds-put-start g c = search (rules, delta-some)

pub returns-clause-bytes : goal.returns-clause-bytes
returns-clause-bytes g c =
    let delta = c.args.delta.now in
    let fields = c.args.fields in
    let long = eq-eqb _ field_limit c.if-delta-ne-FIELD_LIMIT.false in
    let text = c.text.result.now in
    let values = each_piped (written_values 0 (changes_of g.R.Value.kind delta fields)) in
    let held = c.in_ok-put_values.ensures.text ∙ ap (λ l. l ++ values) c.new-list.ensures in
    let list : take (length text - 1) (drop 1 text) ≡ written_list (changes_of g.R.Value.kind delta fields) = take_rest text 1 ∙ ap (drop 1) (c.text.ensures ∙ held) in
    c.put.ensures.bytes ∙ ap (λ t. placed_or c.args.at t c.args.out.now) list
    ∙ sym (cond-true _ _ _ (sym c.covers.ensures ∙ c.if-not-covers.false))
    ∙ sym (cond-true _ _ _ long)

pub returns-clause-read_back : goal.returns-clause-read_back
returns-clause-read_back g c =
    λ is some within. read_back g.R.Value.kind c.args.delta.now c.args.fields is within g.met.R.Value.lawful some
