use Rattle.std.proofs.Common.{◌≡◌, ◌+◌, ◌*◌, ◌++◌, length, drop, sym, ap, ◌∙◌, rules, arith}
use Rattle.std.proofs.lemmas.List.{drop-drop, length-append}
use Rattle.std.proofs.Math.Seq.{drop-append_seam}
use Rattle.tlcp.specs.Parts.{place_of}
use Rattle.tlcp.proofs.Places.{found-at, found-nowhere}
use Rattle.streams.specs.Ends.{line_feed}
use Rattle.streams.proofs.Places.{place-within, place-behind, place-short, rest-is, is-found}
use Rattle.streams.proofs.Places.{is-nowhere}
use Rattle.streams.proofs.ends.find_end.Goals as goal

pub returns-then-has_end : goal.returns-then-has_end
returns-then-has_end c =
    let ((size, (cut, long), rem), index, counted, bound) = c.in-Some.ensures.steps in
    let turn = c.loop-i in
    let here = ap (place_of line_feed) cut ∙ place-within line_feed c.next.new.self.iter.rest.now c.in-Some.part.now (sym c.if-has_end.ensures) in
    let short = place-short line_feed c.in-Some.part.now (sym c.if-has_end.ensures) in
    is-found line_feed c.args.s.now _ (omega (arith, turn.invariant.place, index, c.end_in.ensures.value, here)) (omega (arith, index, short, c.end_in.ensures.value, turn.invariant.long, ap length cut ∙ length-append c.in-Some.part.now c.next.new.self.iter.rest.now))

pub loop-i-preserved : goal.loop-i-preserved
loop-i-preserved c =
    let ((size, (cut, long), rem), index, counted, bound) = c.in-Some.ensures.steps in
    let turn = c.loop-i in
    let s = c.args.s.now in
    let part = c.in-Some.part.now in
    let left = c.next.new.self.iter.rest.now in
    let sixteen : length part ≡ 16 = long ∙ turn.invariant.size in
    let next : 16 * turn.i-iterator.count + 16 ≡ 16 * c.next.new.self.count = omega (arith, counted) in record {
      can_next = search rules;
      is_finite = search rules;
      size = size ∙ turn.invariant.size;
      left =
          sym (drop-append_seam part left)
          ∙ ap (λ n. drop n (part ++ left)) sixteen
          ∙ ap (drop 16) (sym cut ∙ turn.invariant.left)
          ∙ drop-drop 16 (16 * turn.i-iterator.count) s
          ∙ ap (λ n. drop n s) next;
      long =
          omega (arith, turn.invariant.long, next, sixteen, ap length cut ∙ length-append part left);
      place =
          omega (arith, turn.invariant.place, next, sixteen, ap (place_of line_feed) cut ∙ place-behind line_feed left part (sym c.if-has_end.ensures));
    }

pub returns-in_err-end : goal.returns-in_err-end
returns-in_err-end c =
    let ((size, (short, same), rem), counted) = c.in-None.ensures.steps in
    let turn = c.loop-i in
    let s = c.args.s.now in
    let rest = c.remainder-rest.result.now in
    let is = rest-is s rest turn.i-iterator.iter.rest.now turn.i-iterator.count turn.invariant.long (omega (arith, turn.invariant.size, short)) turn.invariant.left (c.remainder-rest.ensures ∙ c.chunks_exact-parts.ensures.remainder) in
    let long = found-nowhere line_feed rest c.in_err-end.ensures.value in
    c.from_residual.ensures
    ∙ is-nowhere line_feed s (omega (arith, turn.invariant.place, turn.invariant.long, ap length is, ap (place_of line_feed) is))

pub returns : goal.returns
returns c =
    let ((size, (short, same), rem), counted) = c.in-None.ensures.steps in
    let turn = c.loop-i in
    let s = c.args.s.now in
    let rest = c.remainder-rest.result.now in
    let is = rest-is s rest turn.i-iterator.iter.rest.now turn.i-iterator.count turn.invariant.long (omega (arith, turn.invariant.size, short)) turn.invariant.left (c.remainder-rest.ensures ∙ c.chunks_exact-parts.ensures.remainder) in
    let (place, within) = found-at line_feed rest c.in_ok-end.end c.in_ok-end.ensures.value in
    is-found line_feed s _ (omega (arith, turn.invariant.place, turn.invariant.long, place, ap length is, ap (place_of line_feed) is)) (omega (arith, within, turn.invariant.long, ap length is))
