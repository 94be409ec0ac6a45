-- The reader's steps.
use Rattle.std.proofs.Common.{◌≡◌, ℕ, suc, List, [], ◌∷◌, ◌++◌, length, Ok, Err, Option, Result}
use Rattle.std.proofs.Common.{refl, sym, ap, ◌∙◌, arith}
use Rattle.row.specs.declared.fault.Refusal.{Refusal}
use Rattle.tlcp.specs.Lines.{Argument, Sort, and_then, arguments_of, divided, read_argument}
use Rattle.tlcp.specs.Lines.{read_arguments}
use Rattle.tlcp.specs.Lists.{ahead}
use Rattle.tlcp.specs.Parts.{Piece}

-- what is refused is no result
pub refused : {X P : Type 0} {r : Refusal} {x : X} → Err r ≡ Ok x → P
refused e = absurd (let z : ◌≡◌ {A = ℕ} 0 1 = cc in omega arith)

pub same-from-ok : {X : Type 0} {x y : X} → ◌≡◌ {A = Result X Refusal} (Ok x) (Ok y) → x ≡ y
same-from-ok e = cc

-- what is no refusal came from what is none
pub ahead-ok : {X : Type 0} (d e : List X) (r : Result (List X) Refusal) → ahead d r ≡ Ok e
    → (f : List X) × (r ≡ Ok f) × (d ++ f ≡ e)
ahead-ok d e (Ok f) is = (f, refl, same-from-ok is)
ahead-ok d e (Err r) is = refused is

-- the first of some arguments is read, and then the others
pub first-then : (k : Sort) (ks : List Sort) (end : ℕ) (left : Option Piece) (p : Piece)
    (ps : List Piece) (a : Argument) (others : Result (List Argument) Refusal)
    → divided (suc (length ks)) end left ≡ Ok (p ∷ ps) → Ok a ≡ read_argument k p
    → others ≡ read_arguments ks ps → ahead (a ∷ []) others ≡ arguments_of (k ∷ ks) end left
first-then k ks end left p ps a others parts first rest =
    ap (ahead (a ∷ [])) rest
    ∙ ap (λ r. and_then r (λ x. ahead (x ∷ []) (read_arguments ks ps))) first
    ∙ sym (ap (λ d. and_then d (read_arguments (k ∷ ks))) parts)
