use Rattle.std.proofs.Common.{◌≡◌, List, [], ◌∷◌, Ok, Err, Result, ap, rules}
use Rattle.std.specs.Option.{ok_or, option_map}
use Rattle.row.specs.Faults.{refusal}
use Rattle.row.specs.declared.fault.Fault.TheVariants.{Escape}
use Rattle.row.specs.declared.fault.Refusal.{Refusal}
use Rattle.tlcp.specs.Lines.{Argument, arguments_of, code, divided, message_of, read_arguments}
use Rattle.tlcp.specs.Lines.{text, unsound}
use Rattle.tlcp.specs.Lists.{ahead}
use Rattle.tlcp.specs.Said.{coding, piece_in, wording}
use Rattle.tlcp.specs.declared.tag.Tag.TheVariants.{Reqerr}
use Rattle.tlcp.proofs.Reading.{first-then}
use Rattle.tlcp.proofs.arguments.Arguments.reqerr.Goals as goal
use Rattle.tlcp.proofs.arguments.Arguments.reqerr.Goals.{In-Some-text}

parts : (c : In-Some-text)
    → divided 3 c.args.self.end (option_map piece_in c.args.self.left)
    ≡ Ok (piece_in c.in-Some.request ∷ piece_in c.in-Some-next.code
    ∷ piece_in c.in-Some-left.message ∷ [])
parts c = search rules

-- the first argument is a text, and the others are read from their parts
then : (c : In-Some-text) (others : Result (List Argument) Refusal)
    → others
    ≡ read_arguments (code ∷ text ∷ [])
    (piece_in c.in-Some-next.code ∷ piece_in c.in-Some-left.message ∷ [])
    → ahead (wording c.in-Some-text.request ∷ []) others
    ≡ arguments_of (text ∷ code ∷ text ∷ []) c.args.self.end (option_map piece_in c.args.self.left)
then c others behind =
    let first =
    ap (λ o. ok_or o
    (refusal Escape (unsound (piece_in c.in-Some.request)))) c.in-Some-text.ensures in
    first-then text (code ∷ text ∷ []) c.args.self.end
    (option_map piece_in c.args.self.left) _ _ _ others (parts c) first behind

pub returns-in_default-code : goal.returns-in_default-code
returns-in_default-code c =
    λ name. ap (message_of Reqerr name)
    (then (goal.at.returns-in_default-code c).In-Some-text (Err c.at-in_default-code.result)
    (search rules))

pub returns-in_default-text-2 : goal.returns-in_default-text-2
returns-in_default-text-2 c =
    λ name. ap (message_of Reqerr name)
    (then (goal.at.returns-in_default-text-2 c).In-Some-text (Err c.at-in_default-text-2.result)
    (search rules))

pub returns : goal.returns
returns c =
    λ name. ap (message_of Reqerr name)
    (then (goal.at.returns c).In-Some-text
    (Ok (coding c.in-Some-code.code ∷ wording c.in-Some-text-2.message ∷ [])) (search rules))
