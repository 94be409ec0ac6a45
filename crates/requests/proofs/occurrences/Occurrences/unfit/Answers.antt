use Rattle.std.proofs.Common.{min, sym, ◌∙◌, rules, tests}
use Rattle.std.proofs.lemmas.Iterator.{YieldsList-from_slice}
use Rattle.std.proofs.lemmas.Iterator.Consumers.{YieldsList-from_filter_map}
use Rattle.requests.specs.Read.{occurrences_in}
use Rattle.requests.specs.Requests.{parameters, unfit_of}
use Rattle.requests.proofs.Least.{reduced, unfit-least}
use Rattle.requests.proofs.occurrences.Occurrences.unfit.Goals as goal

pub returns : goal.returns
returns c =
    let taken = c.args.taken.now in
    let ps = occurrences_in c.args.self.now in
    reduced _ min _ (λ a x r q k. search (rules, tests))
    _ _ c.reduce.ensures.ran
    (YieldsList-from_filter_map _ (unfit_of taken ps)
    (YieldsList-from_slice parameters cc) c.filter_map.ensures.closure
    (λ x r q k. search (rules, tests)))
    ∙ sym (unfit-least taken ps parameters)
