use Rattle.std.proofs.Common.{◌≡◌, [], rules, arith}
use Rattle.std.proofs.lemmas.Grind.{common_steps}
use Rattle.std.specs.Prelude.{is_some, false}
use Rattle.compose.specs.Drafts.{Draft, begin}
use Rattle.compose.specs.Made.{given_of, len_of}
use Rattle.compose.proofs.Holding.{begin-tally}
use Rattle.compose.proofs.Refusing.{refusals}
use Rattle.compose.proofs.request.RequestWriter.new.Goals as goal

pub invariant_of-result : goal.invariant_of-result
invariant_of-result c =
    let e : Draft = record {
      bytes = c.put_head.new.out;
      name = c.args.name;
      begun = is_some c.map-begun.result;
      len = len_of c.map-begun.result;
      given = given_of c.map-begun.result;
      kept = false;
    } in
    let is : e ≡ begin c.args.name c.args.out.now =
    first_of (search rules, grind (arith, common_steps)) in
    record { made = λ some. ∣ ([], begin-tally c.args.name c.args.out.now e is some) ∣₁ }

pub returns-clause-refusals : goal.returns-clause-refusals
returns-clause-refusals c = refusals
