use Rattle.std.proofs.Common.{◌==◌, ◌/◌, ◌^◌, not, sym, ap, ◌∙◌, arith, rules, w8}
use Rattle.std.proofs.lemmas.Simd.{bitmask_splat}
use Rattle.row.specs.Every.{sound-by-zeros, zeros-by_mask}
use Rattle.row.specs.Limits.{text_limit}
use Rattle.row.proofs.text.TextRecord.is_sound.Goals as goal

pub returns-then-len-le-TEXT_LIMIT : goal.returns-then-len-le-TEXT_LIMIT
returns-then-len-le-TEXT_LIMIT c =
    let r = c.args.self in
    let mask = bitmask_splat w8 (λ a b. not (a == b)) r.bytes text_limit 0 (omega arith) (omega arith) in
    ap (λ m. m / 2 ^ r.len == 0) mask
    ∙ zeros-by_mask r.len r.bytes
    ∙ sym (sound-by-zeros r (omega arith) (search rules))
