-- Values without escapes.
use Rattle.std.proofs.Common.{◌≡◌, ℕ, Bool, false, List, [], ◌∷◌, sym, ap, ◌==◌}
use Rattle.std.specs.List.{list_any}
use Rattle.std.proofs.lemmas.Bool.{or_parts}
use Rattle.tlcp.specs.Escapes.{Decodes, nothing, plain}
use Rattle.tlcp.specs.Lists.{read_content, read_text, text_or}
use Rattle.tlcp.proofs.Unescaped.{reads-escapes}

-- a value without `%` stands for itself
plain-decodes : (v : List ℕ) → list_any (λ b. b == 37) v ≡ false → Decodes v v
plain-decodes [] e = nothing
plain-decodes (b ∷ v) e =
    let h = or_parts (b == 37) (list_any (λ x. x == 37) v) e in
    plain h.0 (plain-decodes v h.1)

pub plain-read :
    (allowed : List ℕ → Bool) (v : List ℕ) → list_any (λ b. b == 37) v ≡ false
    → read_text allowed v ≡ read_content allowed v
plain-read allowed v none =
    sym (ap (λ d. text_or allowed d.bytes d.fault) ((reads-escapes v v).1 (plain-decodes v none)))
