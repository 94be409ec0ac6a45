use Rattle.std.proofs.Common.{◌≡◌, refl, subst, rules, ◌==◌}
use Rattle.std.specs.List.{list_any}
use Rattle.std.proofs.lemmas.List.Folds.{list_any-append}
use Rattle.std.proofs.lemmas.Fn.{fold_over, slice_gives, fronts}
use Rattle.streams.specs.Ends.{line_feed}
use Rattle.streams.proofs.ends.has_end.Goals as goal

pub returns : goal.returns
returns c =
    subst (λ bytes. c.fold.result ≡ list_any (λ b. b == line_feed) bytes) c.iter.ensures.rest
    (fold_over fronts (λ b. b.now) _ (λ before any. any ≡ list_any (λ b. b == line_feed) before) _ (λ before a x b f k call. search (rules, list_any-append))
    _ _ _ _ (slice_gives c.iter.result) refl c.fold.ensures.ran)
