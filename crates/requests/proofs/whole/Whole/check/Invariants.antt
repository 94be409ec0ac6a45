use Rattle.std.proofs.Common.{◌≡◌, false, drop}
use Rattle.requests.specs.Names.{needs}
use Rattle.requests.specs.Read.{occurrences_in}
use Rattle.requests.specs.Requests.{check_values, lacks}
use Rattle.requests.proofs.whole.Whole.check.Given as goal

-- the values before are good
abbrev pub invariant-loop-p : goal.invariant-loop-p
invariant-loop-p l = record {
  left : lacks (drop l.p-index (needs l.self.form)) (occurrences_in l.self.pairs.now) ≡ false;
  good : check_values l.session (needs l.self.form) (occurrences_in l.self.pairs.now)
      ≡ check_values l.session (drop l.p-index (needs l.self.form))
      (occurrences_in l.self.pairs.now);
}
