-- Bytes that a reader has and a writer holds, over several reads and writes.
use Rattle.std.proofs.Common.{◌≡◌, ◌+◌, ◌-◌, ◌^◌, ◌<◌, ◌≤◌, List, [], ◌++◌, ℕ, length, Some, None}
use Rattle.std.proofs.Common.{Option, IfSome, sym, ap}
use Rattle.std.proofs.Common.{◌∙◌, append_assoc, subst, arith, inl, inr, ◌⊎◌}
use Rattle.std.specs.Io.KnownBytes.{Appends, Consumes, IsAtEnd, Keeps}
use Rattle.std.proofs.lemmas.List.{append-nil, length-append}

pub appends-more : (a b c : Option (List ℕ)) (s t : List ℕ) → Appends a b s → Appends b c t
    → Appends a c (s ++ t)
appends-more None b c s t p q = tt
appends-more (Some xs) None c s t p q = absurd p
appends-more (Some xs) (Some ys) None s t p q = absurd q
appends-more (Some xs) (Some ys) (Some zs) s t p q = q ∙ ap (λ l. l ++ t) p ∙ append_assoc xs s t

-- what holds of all that was seen holds of the input, if that has ended or is too long
pub seen-all : (r left : Option (List ℕ)) (seen : List ℕ) (P : List ℕ → Type 0)
    → Consumes r left seen → IsAtEnd left ⊎ (2 ^ 64 - 1 ≤ length seen)
    → (length seen < 2 ^ 64 → P seen) → IfSome r (λ s. length s + 1 < 2 ^ 64 → P s)
seen-all None left seen P read ends holds = tt
seen-all (Some xs) None seen P read ends holds = absurd read
seen-all (Some xs) (Some ys) seen P read (inl ended) holds = λ few.
    let all : xs ≡ seen = read ∙ ap (λ l. seen ++ l) ended ∙ append-nil seen in
    subst P (sym all) (holds (omega (arith, ap length all)))
seen-all (Some xs) (Some ys) seen P read (inr long) holds =
    λ few. absurd (omega (arith, ap length read, length-append seen ys))

-- who is at the end after a read of nothing was there before
pub at-end : (a b : Option (List ℕ)) (s : List ℕ) → s ≡ [] → Consumes a b s → IsAtEnd b → IsAtEnd a
at-end None b s none read ended = tt
at-end (Some xs) None s none read ended = absurd read
at-end (Some xs) (Some ys) s none read ended = read ∙ (λ i. none i ++ ended i)

-- a read that failed took nothing
pub consumes-kept : (a b c : Option (List ℕ)) (s : List ℕ) → Consumes a b s → Keeps b c
    → Consumes a c s
consumes-kept None b c s p q = tt
consumes-kept (Some xs) None c s p q = absurd p
consumes-kept (Some xs) (Some ys) None s p q = absurd q
consumes-kept (Some xs) (Some ys) (Some zs) s p q = p ∙ ap (λ l. s ++ l) (sym q)
