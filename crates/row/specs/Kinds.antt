-- What a kind of value is: how its plain records in memory stand for texts.
use Rattle.std.specs.Prelude.{◌≡◌, ℕ, ◌<◌, ◌≤◌, Bool, true, false, List, length}
use Rattle.std.specs.List.{AllByRecursion}
use Rattle.row.specs.Limits.{text_limit}

pub record Kind (R : Type 0) : Type 0 where
  -- the texts of this kind's values
  pub allowed : List ℕ → Bool
  -- the text of the rest value, which fills every place that holds no value
  pub rest : List ℕ
  -- the text that a record means; a record that is not sound means the rest value
  pub text : R → List ℕ
  -- the sound record of an allowed text
  pub raw : List ℕ → R

pub record Lawful {R : Type 0} (k : Kind R) : Type 0 where
  pub rest-allowed : k.allowed k.rest ≡ true
  pub text-allowed : (r : R) → k.allowed (k.text r) ≡ true
  pub text-raw : (t : List ℕ) → k.allowed t ≡ true → k.text (k.raw t) ≡ t
  -- an allowed text is a short list of bytes
  pub short : (t : List ℕ) → k.allowed t ≡ true → length t ≤ text_limit
  pub bytes : (t : List ℕ) → k.allowed t ≡ true → AllByRecursion (λ b. b < 256) t

abbrev pub rest_record : {R : Type 0} → Kind R → R
rest_record k = k.raw k.rest

-- how records stand for values, where `sound` says which records hold one and `whole` which of
-- these memory can hold
pub record Represents {R : Type 0} (k : Kind R) (sound whole : R → Bool) : Type 0 where
  -- a text's own record holds it
  pub raw-whole : (t : List ℕ) → k.allowed t ≡ true → whole (k.raw t) ≡ true
  -- a record that holds no value means the rest value
  pub unsound : (r : R) → sound r ≡ false → k.text r ≡ k.rest
  -- no two values share a text
  pub apart : (r s : R) → whole r ≡ true → whole s ≡ true → k.text r ≡ k.text s → r ≡ s
