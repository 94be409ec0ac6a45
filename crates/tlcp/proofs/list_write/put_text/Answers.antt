use Rattle.std.proofs.Common.{◌∷◌, [], ◌++◌, ap, ◌∙◌, length, get_or, take, drop, arith, ◌-◌}
use Rattle.std.proofs.Common.{append_assoc, refl}
use Rattle.std.proofs.lemmas.List.{length-append, length-drop, length-take}
use Rattle.tlcp.specs.Bytes.{is_escaped, is_escaped_first}
use Rattle.tlcp.specs.Escapes.{encoded_by}
use Rattle.tlcp.specs.Bounds.{bounded_text}
use Rattle.tlcp.proofs.Appending.{text-spelled}
use Rattle.tlcp.proofs.Unescaped.{length-by}
use Rattle.tlcp.proofs.list_write.put_text.Goals as goal

pub append_escaped-requires : goal.append_escaped-requires
append_escaped-requires c =
    let one = length-by is_escaped_first (get_or c.args.text.now 0 0 ∷ []) in
    omega (arith, one, c.requires.room)

pub append_escaped-requires-in-len1-up : goal.append_escaped-requires-in-len1-up
append_escaped-requires-in-len1-up c =
    let text = c.args.text.now in
    let s = bounded_text c.args.list.now in
    let head = get_or text 0 0 ∷ [] in
    let tail = take (length text - 1) (drop 1 text) in
    let one = length-by is_escaped_first head in
    let others = length-by is_escaped tail in
    omega (arith, c.in-len1-up.len_at_least, one, others, c.requires.room, c.requires.short, ap length c.append_escaped.ensures, length-append s (encoded_by is_escaped_first head), length-take (length text - 1) (drop 1 text), length-drop 1 text)

pub returns-in-len1-up : goal.returns-in-len1-up
returns-in-len1-up c =
    let text = c.args.text.now in
    let some = c.in-len1-up.len_at_least in
    let s = bounded_text c.args.list.now in
    let head = encoded_by is_escaped_first (get_or text 0 0 ∷ []) in
    let tail = encoded_by is_escaped (take (length text - 1) (drop 1 text)) in
    record {
      done = refl;
      text =
          c.append_escaped-in-len1-up.ensures ∙ ap (λ l. l ++ tail) c.append_escaped.ensures
          ∙ append_assoc s head tail
          ∙ ap (λ l. s ++ l) (text-spelled text some);
    }
