use Rattle.std.proofs.Common.{◌≡◌, ℕ, ◌<◌, ◌≤◌, List, length, Err, sym, refl, ap, ◌∙◌, arith, rules}
use Rattle.std.proofs.lemmas.Result.{err_from_is_err_and}
use Rattle.tlcp.specs.Lines.{and_then}
use Rattle.compose.specs.Composed.{composing, zeroed_or}
use Rattle.compose.specs.Drafts.{bytes_or, ending, left_by, length_or}
use Rattle.compose.specs.Assignments.{assignments_in}
use Rattle.compose.specs.Writers.{draft_of}
use Rattle.compose.proofs.Rooms.{composes-all}
use Rattle.compose.proofs.Wholes.{as_many, comes-finished, comes-first, comes-next, comes-refused}
use Rattle.compose.proofs.Wholes.{finished-left, item, open-add}
use Rattle.compose.proofs.whole.compose.Goals as goal

-- the lent bytes end as the writer left them
ends : {xs ys zs : List ℕ} → ys ≡ zs → xs ≡ ys → xs ≡ zs
ends p q = q ∙ p

pub loop-pair-init : goal.loop-pair-init
loop-pair-init c = (
  comes-first c.args.name c.args.out.now _
      (assignments_in c.args.pairs.now) c.new-request.ensures.draft,
  refl,
)

pub loop-pair-preserved : goal.loop-pair-preserved
loop-pair-preserved c =
    let h = c.in_ok-add.ensures in
    let ps = c.args.pairs.now in
    let i = c.loop-pair.pair-index in
    let inside : i < length (assignments_in ps) = omega
    (arith, c.loop-pair-test.true, as_many ps) in (
      comes-next c.args.name c.args.out.now (draft_of c.loop-pair.request)
          (assignments_in ps) i _ c.loop-pair.invariant.0 inside (item ps i _ c.loop-pair-test.true)
          (draft_of c.add.new.self) h.draft h.answer,
      h.lent ∙ c.loop-pair.invariant.1,
    )

pub returns-in_err-add : goal.returns-in_err-add
returns-in_err-add c =
    let h = c.in_err-add.ensures in
    let name = c.args.name in
    let out = c.args.out.now in
    let ps = c.args.pairs.now in
    let i = c.loop-pair.pair-index in
    let d = draft_of c.loop-pair.request in
    let inside : i < length (assignments_in ps) = omega
    (arith, c.loop-pair-test.true, as_many ps) in
    let stop = comes-refused name out d (assignments_in ps) i _ c.loop-pair.invariant.0 inside
    (item ps i _ c.loop-pair-test.true) c.in_err-add.field-0.0 h.answer in
    let is : composing name (assignments_in ps) out
    ≡ Err c.in_err-add.field-0.0 = ap (λ r. and_then r ending) stop in
    let e = err_from_is_err_and c.from_residual.result c.from_residual.ensures.1 in
    let kept = ap left_by h.draft ∙ (open-add name out d _ c.loop-pair.invariant.0.here).left in
    let left = c.drop-request.ensures ∙ kept ∙ sym (ap (bytes_or (zeroed_or name out)) is) in
    record {
      answer = e.1 ∙ ap Err e.2
          ∙ sym (ap length_or is);
      bytes = ends left (search rules);
      rooms = composes-all;
    }

pub returns-in_err-finish : goal.returns-in_err-finish
returns-in_err-finish c =
    let h = c.in_err-finish.ensures in
    let name = c.args.name in
    let out = c.args.out.now in
    let ps = c.args.pairs.now in
    let d = draft_of c.loop-pair.request in
    let past : length (assignments_in ps) ≤ c.loop-pair.pair-index = omega
    (arith, c.loop-pair-test.false, as_many ps) in
    let is = comes-finished name out d
    (assignments_in ps) c.loop-pair.pair-index c.loop-pair.invariant.0 past in
    let e = err_from_is_err_and c.from_residual-in_err-finish.result c.from_residual-in_err-finish.ensures.1 in
    let left = c.finish.ensures.bytes
    ∙ finished-left name out d _ c.loop-pair.invariant.0.here is in
    record {
      answer = e.1 ∙ ap Err e.2 ∙ h.answer
          ∙ ap length_or is;
      bytes = ends left (search rules);
      rooms = composes-all;
    }

pub returns : goal.returns
returns c =
    let h = c.in_ok-finish.ensures in
    let name = c.args.name in
    let out = c.args.out.now in
    let ps = c.args.pairs.now in
    let d = draft_of c.loop-pair.request in
    let past : length (assignments_in ps) ≤ c.loop-pair.pair-index = omega
    (arith, c.loop-pair-test.false, as_many ps) in
    let is = comes-finished name out d
    (assignments_in ps) c.loop-pair.pair-index c.loop-pair.invariant.0 past in
    let left = c.finish.ensures.bytes
    ∙ finished-left name out d _ c.loop-pair.invariant.0.here is in
    record {
      answer = h.answer
          ∙ ap length_or is;
      bytes = ends left (search rules);
      rooms = composes-all;
    }
