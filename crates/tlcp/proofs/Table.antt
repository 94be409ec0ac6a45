-- The rule of the table of classes: a test that antt computes at each of its 256 entries, and a
-- lemma that carries it to each byte.
use Rattle.std.proofs.Common.{◌≡◌, ℕ, ◌<◌, Bool, true, not, eqb, List, [], ◌∷◌, get_or, refl, ◌∙◌}
use Rattle.std.proofs.Common.{subst, zero-add, lit<}
use lib.Bits.{bit_and}
use Rattle.std.specs.Bool.{beq}
use Rattle.std.specs.Cmp.{booleans_Decides}
use Rattle.std.specs.List.{list_all, range_with_len}
use Rattle.std.proofs.lemmas.List.FromFn.{get_or-range_with_len}
use Rattle.std.proofs.lemmas.List.Sums.{AllPass-from_list_all}
use Rattle.tlcp.specs.Bytes.{bit_of, in_class}
use Rattle.tlcp.specs.declared.class.Class.{Class}
use Rattle.tlcp.specs.declared.class.Class.TheVariants.{Digit, Hex, Escaped, EscapedFirst, Reserved}
use Rattle.tlcp.specs.declared.class.Class.TheVariants.{Alphanumeric, Plain}

abbrev pub has : ℕ → Class → Bool
has x class = not (eqb (bit_and x (bit_of class)) 0)

abbrev pub classes : List Class
classes = Digit ∷ Hex ∷ Escaped ∷ EscapedFirst ∷ Reserved ∷ Alphanumeric ∷ Plain ∷ []

each : (f : Class → Bool) → list_all f classes ≡ true → (class : Class) → f class ≡ true
each f e Digit = AllPass-from_list_all f classes e 0 Digit (lit< tt)
each f e Hex = AllPass-from_list_all f classes e 1 Digit (lit< tt)
each f e Escaped = AllPass-from_list_all f classes e 2 Digit (lit< tt)
each f e EscapedFirst = AllPass-from_list_all f classes e 3 Digit (lit< tt)
each f e Reserved = AllPass-from_list_all f classes e 4 Digit (lit< tt)
each f e Alphanumeric = AllPass-from_list_all f classes e 5 Digit (lit< tt)
each f e Plain = AllPass-from_list_all f classes e 6 Digit (lit< tt)

-- an entry has just the bits of the classes that its byte is of
abbrev pub right : ℕ → ℕ → Bool
right b x = list_all (λ class. beq (has x class) (in_class class b)) classes

pub has-class : (b x : ℕ) → right b x ≡ true → (class : Class) → has x class ≡ in_class class b
has-class b x e class = (booleans_Decides _ _).0 (each (λ k. beq (has x k) (in_class k b)) e class)

abbrev pub table : List ℕ
table =
    28 ∷ 28 ∷ 28 ∷ 28 ∷ 28 ∷ 28 ∷ 28 ∷ 28 ∷ 28 ∷ 28 ∷ 28 ∷ 28 ∷ 28 ∷ 28 ∷ 28 ∷ 28 ∷ 28 ∷ 28 ∷ 28 ∷ 28 ∷ 28 ∷ 28 ∷ 28 ∷ 28 ∷ 28 ∷ 28 ∷ 28 ∷ 28 ∷ 28 ∷ 28 ∷ 28 ∷ 28
    ∷ 16 ∷ 16 ∷ 16 ∷ 24 ∷ 24 ∷ 92 ∷ 16 ∷ 16 ∷ 16 ∷ 16 ∷ 16 ∷ 16 ∷ 28 ∷ 64 ∷ 64 ∷ 16 ∷ 99 ∷ 99 ∷ 99 ∷ 99 ∷ 99 ∷ 99 ∷ 99 ∷ 99 ∷ 99 ∷ 99 ∷ 16 ∷ 16 ∷ 16 ∷ 16 ∷ 16 ∷ 16
    ∷ 16 ∷ 98 ∷ 98 ∷ 98 ∷ 98 ∷ 98 ∷ 98 ∷ 96 ∷ 96 ∷ 96 ∷ 96 ∷ 96 ∷ 96 ∷ 96 ∷ 96 ∷ 96 ∷ 96 ∷ 96 ∷ 96 ∷ 96 ∷ 96 ∷ 96 ∷ 96 ∷ 96 ∷ 96 ∷ 96 ∷ 96 ∷ 16 ∷ 16 ∷ 16 ∷ 24 ∷ 64
    ∷ 16 ∷ 98 ∷ 98 ∷ 98 ∷ 98 ∷ 98 ∷ 98 ∷ 96 ∷ 96 ∷ 96 ∷ 96 ∷ 96 ∷ 96 ∷ 96 ∷ 96 ∷ 96 ∷ 96 ∷ 96 ∷ 96 ∷ 96 ∷ 96 ∷ 96 ∷ 96 ∷ 96 ∷ 96 ∷ 96 ∷ 96 ∷ 16 ∷ 28 ∷ 16 ∷ 64 ∷ 28
    ∷ 28 ∷ 28 ∷ 28 ∷ 28 ∷ 28 ∷ 28 ∷ 28 ∷ 28 ∷ 28 ∷ 28 ∷ 28 ∷ 28 ∷ 28 ∷ 28 ∷ 28 ∷ 28 ∷ 28 ∷ 28 ∷ 28 ∷ 28 ∷ 28 ∷ 28 ∷ 28 ∷ 28 ∷ 28 ∷ 28 ∷ 28 ∷ 28 ∷ 28 ∷ 28 ∷ 28 ∷ 28
    ∷ 28 ∷ 28 ∷ 28 ∷ 28 ∷ 28 ∷ 28 ∷ 28 ∷ 28 ∷ 28 ∷ 28 ∷ 28 ∷ 28 ∷ 28 ∷ 28 ∷ 28 ∷ 28 ∷ 28 ∷ 28 ∷ 28 ∷ 28 ∷ 28 ∷ 28 ∷ 28 ∷ 28 ∷ 28 ∷ 28 ∷ 28 ∷ 28 ∷ 28 ∷ 28 ∷ 28 ∷ 28
    ∷ 28 ∷ 28 ∷ 28 ∷ 28 ∷ 28 ∷ 28 ∷ 28 ∷ 28 ∷ 28 ∷ 28 ∷ 28 ∷ 28 ∷ 28 ∷ 28 ∷ 28 ∷ 28 ∷ 28 ∷ 28 ∷ 28 ∷ 28 ∷ 28 ∷ 28 ∷ 28 ∷ 28 ∷ 28 ∷ 28 ∷ 28 ∷ 28 ∷ 28 ∷ 28 ∷ 28 ∷ 28
    ∷ 28 ∷ 28 ∷ 28 ∷ 28 ∷ 28 ∷ 28 ∷ 28 ∷ 28 ∷ 28 ∷ 28 ∷ 28 ∷ 28 ∷ 28 ∷ 28 ∷ 28 ∷ 28 ∷ 28 ∷ 28 ∷ 28 ∷ 28 ∷ 28 ∷ 28 ∷ 28 ∷ 28 ∷ 28 ∷ 28 ∷ 28 ∷ 28 ∷ 28 ∷ 28 ∷ 28 ∷ 28 ∷ []

pub rule : (b : ℕ) (class : Class) → b < 256 → has (get_or table b 0) class ≡ in_class class b
rule b class h =
    let there : get_or (range_with_len 0 256) b 0 ≡ b = get_or-range_with_len 0 256 b 0 h ∙ zero-add b in
    has-class b (get_or table b 0) (subst (λ i. right i (get_or table i 0) ≡ true) there (AllPass-from_list_all (λ i. right i (get_or table i 0)) (range_with_len 0 256) refl b 0 h)) class
