use Rattle.std.proofs.Common.{◌≡◌, ◌≤◌, Err, ℕ, List, Option, Some, None, refl, ◌+◌, ◌-◌, ◌∷◌}
use Rattle.std.proofs.Common.{length, get_or, set, sym, ap, ◌∙◌, subst, arith, MatchOption}
use Rattle.std.specs.Option.{option_map}
use Rattle.tlcp.specs.Held.{answer_of, held_delta}
use Rattle.tlcp.specs.Lists.{values}
use Rattle.tlcp.specs.Parts.{before, behind}
use Rattle.tlcp.proofs.Filling.{Sofar, none_left, all_read, not-all, next-refused, next_past}
use Rattle.tlcp.proofs.Filling.{next-taken}
use Rattle.tlcp.proofs.Dividing.{parts_of, divided-some, divided-split}
use Rattle.tlcp.proofs.Moving.{saturated-exact}
use Rattle.tlcp.proofs.list.read_values.Given as given
use Rattle.tlcp.proofs.list.read_values.Goals as goal
use Rattle.tlcp.proofs.list.read_values.Goals.{After-split, Else-more-fields}

-- the values that are left are the first and those behind its pipe
found :
    (g : given.Over) (c : After-split g) (o : Option (List ℕ))
    → option_map (λ r. r.now) c.split.result.1 ≡ o
    → Sofar g.R.Value.kind c.args.fields c.args.list.now c.loop-covered.delta c.loop-covered.covered (length c.args.list.now - length c.loop-covered.left.now) (c.split.result.0.now ∷ parts_of 124 o)
found g c o e =
    let left = c.loop-covered.left.now in
    let cut : c.split.result.0.now ∷ parts_of 124 o ≡ before 124 left ∷ parts_of 124 (behind 124 left) = λ i. c.split.ensures.front i ∷ parts_of 124 ((sym e ∙ c.split.ensures.back) i) in
    subst (Sofar g.R.Value.kind c.args.fields c.args.list.now c.loop-covered.delta c.loop-covered.covered (length c.args.list.now - length left)) (divided-split 124 left ∙ sym cut) c.loop-covered.invariant.1

pub returns-in-Err-clause-answer : goal.returns-in-Err-clause-answer
returns-in-Err-clause-answer g c =
    let refused = next-refused g.R.Value.kind _ _ _ _ _ _ _ (found g (goal.at.returns-in-Err-clause-answer g c).After-split _ refl) c.loop-covered-test.true c.in-Err.refusal c.in-Err.ensures.answer in
    let inside : length c.args.list.now - length c.loop-covered.left.now + c.in-Err.refusal.place ≤ length c.args.list.now = omega (arith, c.in-Err.ensures.within, c.split.ensures.within, c.loop-covered.invariant.0) in
    ap Err (c.moved_by.ensures ∙ saturated-exact _ c.in-Err.refusal (omega (arith, inside)))
    ∙ sym (ap answer_of refused)

pub returns-then-more-fields-clause-answer : goal.returns-then-more-fields-clause-answer
returns-then-more-fields-clause-answer g c =
    let past = next_past g.R.Value.kind _ _ _ _ _ _ _ (found g (goal.at.returns-then-more-fields-clause-answer g c).After-split _ refl) c.loop-covered-test.true c.in-Ok.more c.in-Ok.ensures.answer c.if-more-fields.true in
    sym (ap answer_of past)

-- the value has been taken
taken :
    (g : given.Over) (c : Else-more-fields g) (o : Option (List ℕ))
    → option_map (λ r. r.now) c.split.result.1 ≡ o
    → Sofar g.R.Value.kind c.args.fields c.args.list.now (set c.loop-covered.delta c.loop-covered.covered c.read_value.new.slot) (c.loop-covered.covered + c.in-Ok.more) (length c.args.list.now - length c.loop-covered.left.now + length c.split.result.0.now + 1) (parts_of 124 o)
taken g c o e =
    next-taken g.R.Value.kind _ _ _ _ _ _ _ (found g (goal.at.Else-more-fields g c).After-split o e) c.loop-covered-test.true c.in-Ok.more c.in-Ok.ensures.answer _ _ c.requires.0 c.if-more-fields.false (ap (get_or c.loop-covered.delta c.loop-covered.covered) c.index-delta-covered.is) c.in-Ok.ensures.change

pub returns-then-covered-fields : goal.returns-then-covered-fields
returns-then-covered-fields g c =
    let last = taken g (goal.at.returns-then-covered-fields g c).Else-more-fields None (ap (option_map (λ r. r.now)) c.in_default.is) in
    let read = all_read g.R.Value.kind _ _ _ _ _ last c.if-covered-fields.true in
    record {
      answer = sym (ap answer_of read);
      changes = λ e. last.holds ∙ sym (ap (held_delta g.R.Value.kind) read);
      within = tt;
    }

pub returns-else-covered-fields-clause-answer : goal.returns-else-covered-fields-clause-answer
returns-else-covered-fields-clause-answer g c =
    let refused = not-all g.R.Value.kind _ _ _ _ _ (taken g (goal.at.returns-else-covered-fields-clause-answer g c).Else-more-fields None (ap (option_map (λ r. r.now)) c.in_default.is)) c.if-covered-fields.false in
    sym (ap answer_of refused)

pub loop-covered-preserved : goal.loop-covered-preserved
loop-covered-preserved g c =
    let sizes : length c.split.result.0.now + (length c.in-Some.rest.now + 1) ≡ length c.loop-covered.left.now = subst (λ o. MatchOption o (length c.split.result.0.now ≡ length c.loop-covered.left.now) (λ t. length c.split.result.0.now + (length t.now + 1) ≡ length c.loop-covered.left.now)) c.in-Some.is c.split.ensures.sizes in
    let shorter = c.loop-covered.invariant.0 in
    let at : length c.args.list.now - length c.loop-covered.left.now + length c.split.result.0.now + 1 ≡ length c.args.list.now - length c.in-Some.rest.now = omega arith in (
      omega arith,
      subst (λ n. Sofar g.R.Value.kind c.args.fields c.args.list.now (set c.loop-covered.delta c.loop-covered.covered c.read_value.new.slot) (c.loop-covered.covered + c.in-Ok.more) n (values c.in-Some.rest.now)) at (taken g (goal.at.loop-covered-preserved g c).Else-more-fields (Some c.in-Some.rest.now) (ap (option_map (λ r. r.now)) c.in-Some.is)),
    )

pub returns-clause-answer : goal.returns-clause-answer
returns-clause-answer g c =
    let refused = none_left g.R.Value.kind c.args.fields c.args.list.now c.loop-covered.delta c.loop-covered.covered _ (values c.loop-covered.left.now) c.loop-covered.invariant.1 c.loop-covered-test.false (divided-some 124 c.loop-covered.left.now) in
    sym (ap answer_of refused)
