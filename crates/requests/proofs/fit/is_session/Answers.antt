use Rattle.std.proofs.Common.{◌≡◌, ℕ, ◌-◌, ◌≤◌, ◌<◌, ◌^◌, false, ◌&&◌, eqb, List, [], ◌∷◌, length}
use Rattle.std.proofs.Common.{get_or, take, drop, Some, None, decimal, Decides, Option, sym, refl}
use Rattle.std.proofs.Common.{ap, ◌∙◌, arith, rules, lit<}
use Rattle.std.specs.Bool.{one_answer}
use Rattle.std.specs.Option.{option_eq}
use Rattle.std.proofs.lemmas.Bool.{both_ways, eqb-true, eq-eqb}
use Rattle.std.proofs.lemmas.Bool.Decides.{Decides-like}
use Rattle.std.proofs.lemmas.List.{take_rest}
use Rattle.tlcp.specs.Lines.{same_bytes}
use Rattle.tlcp.specs.Numbers.{read_number}
use Rattle.tlcp.proofs.Numerals.{reads-decimal}
use Rattle.requests.specs.Values.{session_name}
use Rattle.requests.proofs.Fitting.{decides-same}
use Rattle.requests.proofs.fit.is_session.Goals as goal
use Rattle.requests.proofs.fit.is_session.Goals.{After-eq}

decides-some : (o : Option ℕ) (n : ℕ) → Decides (option_eq eqb o (Some n)) (o ≡ Some n)
decides-some None n = (λ e. absurd (both_ways false refl e), λ e. cc)
decides-some (Some m) n = (λ e. ap Some (eqb-true m n e), λ e. let same : m ≡ n = cc in eq-eqb m n same)

abbrev highest : ℕ
highest = 2 ^ 32 - 1

-- digits are read as a number of 32 bits exactly where they are its decimal text
numeral :
    (ds : List ℕ) (n : ℕ) → n < 2 ^ 32
    → option_eq eqb (read_number 0 highest ds) (Some n) ≡ same_bytes ds (decimal n)
numeral ds n small =
    let reads = reads-decimal 0 highest n ds (lit< tt) in
    one_answer _ _ (Decides-like _ (λ e. (reads.0 e).0) (λ e. reads.1 e (omega arith) (omega arith)) (decides-some (read_number 0 highest ds) n)) (decides-same ds (decimal n))

session-is :
    (t : List ℕ) (n : ℕ) → n < 2 ^ 32 → 1 ≤ length t → get_or t 0 0 ≡ 83
    → option_eq eqb (read_number 0 highest (take (length t - 1) (drop 1 t))) (Some n)
    ≡ same_bytes t (session_name n)
session-is t n small some first =
    ap (λ ds. option_eq eqb (read_number 0 highest ds) (Some n)) (take_rest t 1)
    ∙ numeral (drop 1 t) n small ∙ sym (headed t some first)
  where
    headed :
        (t : List ℕ) → 1 ≤ length t → get_or t 0 0 ≡ 83
        → same_bytes t (session_name n) ≡ same_bytes (drop 1 t) (decimal n)
    headed [] some first = absurd (omega arith)
    headed (b ∷ ds) some first = ap (λ h. h && same_bytes ds (decimal n)) (eq-eqb b 83 first)

compared : (c : After-eq) → c.eq.result ≡ same_bytes c.args.text.now (session_name c.args.session)
compared c =
    c.eq.ensures ∙ ap (λ o. option_eq eqb o (Some c.args.session)) c.read_number.ensures.value
    ∙ session-is c.args.text.now c.args.session (omega arith) c.in-83.len_at_least (omega arith)

pub returns-in-83 : goal.returns-in-83
returns-in-83 c = search (rules, compared (goal.at.returns-in-83 c).After-eq)

pub returns-in_default-2 : goal.returns-in_default-2
returns-in_default-2 c = search (rules, compared (goal.at.returns-in_default-2 c).After-eq)
