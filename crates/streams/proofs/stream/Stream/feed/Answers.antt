use Rattle.std.proofs.Common.{◌≡◌, vec_items, sym, refl, ap, ◌∙◌}
use Rattle.std.specs.Option.{option_map}
use Rattle.streams.specs.Feeding.{keep}
use Rattle.streams.specs.Held.{held_with}
use Rattle.streams.specs.Streams.{state_of}
use Rattle.streams.proofs.Fed.{holding, no_end, one_line}
use Rattle.streams.proofs.stream.Stream.feed.Goals as goal

pub returns-in_default : goal.returns-in_default
returns-in_default g c =
    let turn = c.loop-rest in
    let line = c.split_line.result.0.now in
    let back = sym (ap (option_map (λ r. r.now)) c.in_default.is) ∙ c.split_line.ensures.back in
    let keeps : holding (state_of turn.self) (vec_items c.hold.new.held)
    ≡ keep g.H.Hear.LIMIT g.H.Hear.hearing (state_of turn.self) line =
    ap (holding (state_of turn.self))
    (c.in_ok-hold.ensures ∙ ap
    (λ n. held_with n (vec_items turn.self.held) line) c.LIMIT.ensures) in
    let fed = no_end g.H.Hear.LIMIT g.H.Hear.hearing _ (vec_items turn.out)
    (state_of turn.self) turn.left.now turn.invariant line c.split_line.ensures.front _ keeps back in
    (sym (ap (λ s. s.state) fed), sym (ap (λ s. s.text) fed))

pub loop-rest-preserved : goal.loop-rest-preserved
loop-rest-preserved g c =
    let turn = c.loop-rest in
    let back = sym (ap (option_map (λ r. r.now)) c.in-Some.is) ∙ c.split_line.ensures.back in
    let ends = c.in_ok-end_line.ensures in
    one_line g.H.Hear.LIMIT g.H.Hear.hearing _ (vec_items turn.out)
    (state_of turn.self) turn.left.now turn.invariant c.split_line.result.0.now c.split_line.ensures.front _ refl c.in-Some.rest.now back _ ends.0 _ ends.1
