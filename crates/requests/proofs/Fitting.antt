-- The values that a parameter takes: the tests of `specs/Values` against the words of
-- `specs/Asked`.
use Rattle.std.proofs.Common.{◌≡◌, ℕ, ◌≤◌, Bool, true, false, ◌&&◌, eqb, leb, List, [], ◌∷◌, length}
use Rattle.std.proofs.Common.{is_some, Some, None, codes, Decides, Option, refl, ap, subst, arith}
use Rattle.std.proofs.Common.{lit<}
use Rattle.std.specs.List.{AllByRecursion}
use Rattle.std.proofs.lemmas.Bool.{and_from, both_ways, eq-eqb, leb-true, le-leb, not-true}
use Rattle.std.proofs.lemmas.Bool.{not_from_false}
use Rattle.std.proofs.lemmas.Bool.Decides.{Decides-and, Decides-eqb, Decides-like}
use Rattle.std.proofs.ByRecursion.{Decides-by_and}
use Rattle.row.specs.Texts.{every}
use Rattle.tlcp.specs.Bytes.{is_alphanumeric, is_digit}
use Rattle.tlcp.specs.Limits.{id_limit}
use Rattle.tlcp.specs.Numbers.{read_number}
use Rattle.tlcp.specs.Lines.{same_bytes}
use Rattle.tlcp.proofs.Numerals.{reads-decimal}
use Rattle.tlcp.proofs.Words.{same_bytes_lem}
use Rattle.requests.specs.Asked.{Numeral, Right}
use Rattle.requests.specs.Limits.{request_id_limit}
use Rattle.requests.specs.Values.{fitting, is_group, is_numeral, session_name}
use Rattle.requests.specs.declared.name.Parameter.{Parameter}
use Rattle.requests.specs.declared.name.Parameter.TheVariants.{Cid, User, Password, Session}
use Rattle.requests.specs.declared.name.Parameter.TheVariants.{RequestId, Operation, SubscriptionId}
use Rattle.requests.specs.declared.name.Parameter.TheVariants.{Group, Schema, Mode, Snapshot}

pub some_is : {X : Type 0} (o : Option X) → is_some o ≡ true → (x : X) × (o ≡ Some x)
some_is None e = absurd (both_ways false refl e)
some_is (Some x) e = (x, refl)

pub same_self : (s : List ℕ) → same_bytes s s ≡ true
same_self [] = refl
same_self (b ∷ s) = and_from (eqb b b) (same_bytes s s) (eq-eqb b b refl) (same_self s)

pub decides-same : (s t : List ℕ) → Decides (same_bytes s t) (s ≡ t)
decides-same s t = (same_bytes_lem s t, λ e. subst (λ u. same_bytes s u ≡ true) e (same_self s))

pub decides-leb : (a b : ℕ) → Decides (leb a b) (a ≤ b)
decides-leb a b = (leb-true a b, le-leb a b)

pub decides-every :
    (p : ℕ → Bool) (s : List ℕ) → Decides (every p s) (AllByRecursion (λ b. p b ≡ true) s)
decides-every p =
    Decides-by_and p (λ b. p b ≡ true) (every p) (λ b. (λ e. e, λ e. e)) refl (λ _ _. refl)

-- three tests are one, of all that they decide
decides-three :
    {P Q R : Type 0} {x y z : Bool} → Decides x P → Decides y Q → Decides z R
    → Decides (x && (y && z)) (P × Q × R)
decides-three {x =
    x} {y = y} {z = z} p q r = Decides-like _ (λ h. (h.0, h.1.0, h.1.1)) (λ h. (h.0, (h.1, h.2))) (Decides-and x (y && z) p (Decides-and y z q r))

decides-id : (t : List ℕ) → Decides (is_some (read_number 1 id_limit t)) (Right 0 SubscriptionId t)
decides-id t = (
  λ e.
      let (n, is) = some_is (read_number 1 id_limit t) e in
      let (same, low, high) = (reads-decimal 1 id_limit n t (lit< tt)).0 is in
      (n, same, low, high),
  λ h. ap is_some ((reads-decimal 1 id_limit h.0 t (lit< tt)).1 h.1 h.2 h.3),
)

no-nil : {P : Type 0} {b : ℕ} {s : List ℕ} → [] ≡ b ∷ s → P
no-nil e = absurd (let z : ◌≡◌ {A = ℕ} 0 1 = cc in omega arith)

decides-numeral : (ds : List ℕ) → Decides (is_numeral ds) (Numeral ds)
decides-numeral [] = (λ e. absurd (both_ways false refl e), λ h. no-nil h.is)
decides-numeral (b ∷ ds) =
    Decides-like _ (λ h. record { first = b; more = ds; is = refl; no_zero = h.1; digits = h.2 })
    (λ h.
    let same : h.first ≡ b = cc h.is in
    (omega arith, subst (λ c. eqb c 48 ≡ false) same h.no_zero, h.digits))
    (decides-three (decides-leb 1 (length (b ∷ ds))) (not-true (eqb b 48), not_from_false (eqb b 48)) (decides-every is_digit (b ∷ ds)))

decides-group : (t : List ℕ) → Decides (is_group t) (Right 0 Group t)
decides-group [] = (λ e. absurd (both_ways false refl e), λ h. no-nil h.1)
decides-group (b ∷ ds) =
    Decides-like _ (λ h. (ds, ap (λ c. c ∷ ds) h.1, h.2))
    (λ h.
    let first : b ≡ 116 = cc h.1 in
    let rest : h.0 ≡ ds = cc h.1 in
    (omega arith, first, subst Numeral rest h.2))
    (decides-three (decides-leb 1 (length (b ∷ ds))) (Decides-eqb b 116) (decides-numeral ds))

-- a value passes the test of its parameter exactly where it is right
pub decides-right :
    (session : ℕ) (p : Parameter) (t : List ℕ) → Decides (fitting session p t) (Right session p t)
decides-right session Cid t = (λ _. tt, λ _. refl)
decides-right session User t = (λ _. tt, λ _. refl)
decides-right session Password t = (λ _. tt, λ _. refl)
decides-right session Session t = decides-same t (session_name session)
decides-right session RequestId t =
    decides-three (decides-leb 1 (length t)) (decides-leb (length t) request_id_limit) (decides-every is_alphanumeric t)
decides-right session Operation t = (λ _. tt, λ _. refl)
decides-right session SubscriptionId t = decides-id t
decides-right session Group t = decides-group t
decides-right session Schema t = decides-same t (codes "all")
decides-right session Mode t = decides-same t (codes "MERGE")
decides-right session Snapshot t = decides-same t (codes "true")
