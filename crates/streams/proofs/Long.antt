-- Of a line that is too long, the first bytes are too long too.
use Rattle.std.proofs.Common.{ℕ, ◌+◌, ◌-◌, ◌<◌, ◌≤◌, List, length, take, refl, arith, inl, inr, ◌⊎◌}
use Rattle.std.proofs.Common.{sym, subst}
use Rattle.std.proofs.lemmas.List.{length-take-le, take_all}
use Rattle.std.proofs.lemmas.Bool.{cases_lt, cond_both}
use Rattle.streams.specs.Answers.{Hearing, HeardAlike}
use Rattle.streams.specs.Lines.{bare, ends_in_cr}
use Rattle.streams.specs.Long.{LongAlike, EnoughBeyond}

-- one byte at most is dropped
bare-long : (s : List ℕ) (n : ℕ) → n + 2 ≤ length s → n < length (bare s)
bare-long s n long =
    cond_both (ends_in_cr s) (take (length s - 1) s) s (λ t. n < length t)
    (λ _. omega (arith, length-take-le (length s - 1) s (omega arith))) (λ _. omega arith)

module _ {A : Type 0} (h : Hearing A) (most : ℕ) (alike : LongAlike h most) (limit : ℕ)
    (more : most + 2 ≤ limit) where
  -- a line f of what is heard, which drops one byte at most
  front-tells : (f : List ℕ → List ℕ) → ((s : List ℕ) → most + 2 ≤ length s → most < length (f s))
      → (a : A) (line : List ℕ) → HeardAlike h a (f (take limit line)) (f line)
  front-tells f drops a line = by (cases_lt limit (length line))
    where
      by : (limit < length line) ⊎ (length line ≤ limit)
          → HeardAlike h a (f (take limit line)) (f line)
      by (inl long) =
          alike a (f (take limit line)) (f line)
          (drops (take limit line) (omega (arith, length-take-le limit line (omega arith))))
          (drops line (omega arith))
      by (inr short) =
          subst (λ t. HeardAlike h a (f t) (f line)) (sym (take_all limit line short)) (refl, refl)

pub enough_beyond : {A : Type 0} (h : Hearing A) (most : ℕ) → EnoughBeyond h most
enough_beyond h most alike limit more = record {
  some = omega arith;
  ended = front-tells h most alike limit more bare (λ s long. bare-long s most long);
  unended = front-tells h most alike limit more (λ s. s) (λ s long. omega arith);
}
