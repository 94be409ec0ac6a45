use Rattle.std.proofs.Common.{◌≡◌, Ok, Result, arith}
use Rattle.std.proofs.lemmas.Grind.{common_steps}
use Rattle.row.specs.declared.fault.Refusal.{Refusal}
use Rattle.compose.specs.Written.{assign}
use Rattle.compose.specs.Drafts.{add_answer}
use Rattle.compose.specs.Writers.{draft_of}
use Rattle.compose.proofs.Holding.{holds_after}
use Rattle.std.proofs.Math.Logic.{∥∥₁_map}
use Rattle.std.specs.Prelude.{is_some, slice_set, true}
use Rattle.compose.specs.Drafts.{Draft, add_to}
use Rattle.compose.proofs.Holding.{tally-after}
use Rattle.std.proofs.Common.{◌<◌}
use Rattle.requests.specs.Names.{index_of, parameter_count}
use Rattle.compose.proofs.request.RequestWriter.add.Goals as goal

pub returns-clause-pairs : goal.returns-clause-pairs
returns-clause-pairs c =
    let d = draft_of c.args.self.now in
    let x = assign c.args.parameter c.args.value.now in
    let answer : ◌≡◌ {A = Result (Unit {0}) Refusal} (Ok tt) (add_answer d x) = grind
    (arith, common_steps) in
    λ xs h. holds_after d x xs h (Ok tt) _
    (omega (arith, c.index-i.ensures.value, c.index-i.ensures.bound)) answer
    (grind (arith, common_steps))

pub invariant_of-self-2 : goal.invariant_of-self-2
invariant_of-self-2 c =
    let d = draft_of c.args.self.now in
    let x = assign c.args.parameter c.args.value.now in
    let begun : is_some c.args.self.now.begun ≡ true = grind (arith, common_steps) in
    let e : Draft = record {
      bytes = c.put_pair.new.out;
      name = c.args.self.now.name;
      begun = true;
      len = c.in_ok-begun-2.field-0;
      given = slice_set c.in_ok-begun.begun.given c.index-i.result true;
      kept = c.args.self.now.kept;
    } in
    let is : e ≡ add_to d x = grind (arith, common_steps) in
    let small : index_of c.args.parameter < parameter_count =
    omega (arith, c.index-i.ensures.value, c.index-i.ensures.bound) in
    record {
      made = λ some. ∥∥₁_map (c.args.self.now.made begun)
          (λ t. tally-after d x t.0 t.1 e small is);
    }
