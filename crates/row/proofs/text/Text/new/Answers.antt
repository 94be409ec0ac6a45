use Rattle.std.proofs.Common.{◌≡◌, true, length, drop, replicate, ◌++◌, Some, sym, ap, ◌∙◌, arith}
use Rattle.std.proofs.lemmas.List.{drop-replicate}
use Rattle.std.proofs.lemmas.Bool.{cond-true}
use Rattle.row.specs.Limits.{text_limit}
use Rattle.row.specs.Texts.{padded, text_allowed, text_sound}
use Rattle.row.specs.Every.{allowed-from, bytes-every, record-sound}
use Rattle.row.proofs.text.Text.new.Goals as goal
use Rattle.row.proofs.text.Text.new.Goals.{After-copy_from_slice}

-- the whole text has been copied
done :
    (c : After-copy_from_slice)
    → (text_allowed c.args.text.now ≡ true) × (c.copy_from_slice.new.self ++ drop (length c.args.text.now) (replicate text_limit 0) ≡ padded text_limit c.args.text.now)
done c =
    let text = c.args.text.now in (
      allowed-from text (omega arith) (bytes-every text (λ i. omega (arith, c.type_inv.text i))),
      (λ i. c.copy_from_slice.ensures.after i ++ drop-replicate (length text) text_limit 0 i),
    )

pub invariant_of-result : goal.invariant_of-result
invariant_of-result c =
    let d = done (goal.at.invariant_of-result c).After-copy_from_slice in
    record {
      sound =
          ap (λ bs. text_sound (record { bytes = bs; len = length c.args.text.now })) d.1
          ∙ record-sound c.args.text.now d.0;
    }

pub returns : goal.returns
returns c =
    let d = done (goal.at.returns c).After-copy_from_slice in
    ap (λ bs. Some (record { bytes = bs; len = length c.args.text.now })) d.1
    ∙ sym (cond-true (text_allowed c.args.text.now) _ _ d.0)
