-- Bytes that stand in no line: those that are escaped in texts and are no sign of a line's own.
use Rattle.std.proofs.Common.{◌≡◌, ℕ, zero, suc, ◌+◌, ◌^◌, ◌<◌, ◌≤◌, Bool, true, false, not, eqb}
use Rattle.std.proofs.Common.{leb, List, [], ◌∷◌, length, drop, replicate, ℤ, nat_abs, decimal}
use Rattle.std.proofs.Common.{refl, arith, rules}
use Rattle.std.specs.Fmt.{signed_decimal}
use Rattle.std.specs.List.{AllByRecursion}
use Rattle.std.proofs.ByRecursion.{All-append}
use Rattle.std.proofs.lemmas.Bool.{and_parts, or_parts, or_from, not-true, cond_both}
use Rattle.std.proofs.lemmas.Bool.Decides.{nat_tests}
use Rattle.row.specs.Limits.{field_limit}
use Rattle.row.specs.Rows.{Change, same, becomes, null, value}
use Rattle.row.specs.Texts.{every}
use Rattle.tlcp.specs.Bytes.{is_hex, is_escaped}
use Rattle.tlcp.specs.Escapes.{encoded_by}
use Rattle.tlcp.specs.Dividing.{has}
use Rattle.tlcp.proofs.Encoded.{has-append, has-by, has-decimal, has-encode}
use Rattle.tlcp.specs.Lists.{each_piped, run_values, text_value, written_values, written_list}
use Rattle.notify.specs.Back.{Bytes, BytesIn}

abbrev pub plain : ℕ → Bool
plain b = not (is_escaped b)

pub record Apart (c : ℕ) : Type 0 where
  pub escaped : is_escaped c ≡ true
  pub digit : is_hex c ≡ false
  pub percent : eqb 37 c ≡ false
  pub pipe : eqb 124 c ≡ false

module _ (c : ℕ) (apart : Apart c) where
  other : (b : ℕ) → is_escaped b ≡ false → eqb b c ≡ false
  other b is = grind (arith, nat_tests, apart.escaped)

  -- one more byte before a text
  has_one : (b : ℕ) (s : List ℕ) → is_escaped b ≡ false → has c s ≡ false → has c (b ∷ s) ≡ false
  has_one b s is h = or_from (eqb b c) (has c s) (other b is) h

  pub has-plain : (s : List ℕ) → every plain s ≡ true → has c s ≡ false
  has-plain [] e = refl
  has-plain (b ∷ s) e = let h = and_parts (plain b) (every plain s) e in has_one b s (not-true (is_escaped b) h.0) (has-plain s h.1)

  pub has-signed : (z : ℤ) → nat_abs z < 2 ^ 64 → has c (signed_decimal z) ≡ false
  has-signed z small = search (rules, has-decimal c apart.digit apart.percent, has_one)

  pub has-text : (t : List ℕ) → Bytes t → has c (encoded_by is_escaped t) ≡ false
  has-text t bytes = has-by c apart.digit apart.percent is_escaped other t bytes

  -- value lists
  abbrev Free : List (List ℕ) → Type 0
  Free vs = AllByRecursion (λ v. has c v ≡ false) vs

  free-run : (n : ℕ) → n ≤ field_limit → Free (run_values n)
  free-run n few =
      cond_both (leb n 3) _ _ Free (λ _. empties n)
      (λ _. (has_one 94 (decimal n) refl (has-decimal c apart.digit apart.percent n (omega arith)), tt))
    where
      empties : (k : ℕ) → Free (replicate k [])
      empties zero = tt
      empties (suc k) = (refl, empties k)

  has_value : (t : List ℕ) → Bytes t → has c (text_value t) ≡ false
  has_value t bytes = search (rules, has_one, has-encode c apart.digit apart.percent other)

  free-written :
      (d : List Change) (n : ℕ) → n + length d ≤ field_limit → AllByRecursion BytesIn d
      → Free (written_values n d)
  free-written [] n few bytes = free-run n (omega arith)
  free-written (same ∷ d) n few bytes = free-written d (suc n) (omega arith) bytes.1
  free-written (becomes null ∷ d) n few bytes =
      All-append _ (run_values n) _ (free-run n (omega arith)) (has_one 35 [] refl refl, free-written d 0 (omega arith) bytes.1)
  free-written (becomes (value t) ∷ d) n few bytes =
      All-append _ (run_values n) _ (free-run n (omega arith)) (has_value t bytes.0, free-written d 0 (omega arith) bytes.1)

  has-piped : (vs : List (List ℕ)) → Free vs → has c (each_piped vs) ≡ false
  has-piped [] free = refl
  has-piped (v ∷ vs) free =
      or_from (eqb 124 c) _ apart.pipe (has-append c v (each_piped vs) free.0 (has-piped vs free.1))

  has-behind : (s : List ℕ) → has c s ≡ false → has c (drop 1 s) ≡ false
  has-behind [] h = refl
  has-behind (b ∷ s) h = search (rules, or_parts)

  pub has-list :
      (d : List Change) → length d ≤ field_limit → AllByRecursion BytesIn d
      → has c (written_list d) ≡ false
  has-list d few bytes =
      has-behind (each_piped (written_values 0 d)) (has-piped (written_values 0 d) (free-written d 0 (omega arith) bytes))
