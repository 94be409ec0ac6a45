-- The refusals of the request writer, by their numbers, and which of two is told. All of them are
-- at place 0.
use Rattle.std.specs.Prelude.{◌≡◌, ℕ, List, [], replicate}
use Rattle.row.specs.Faults.{Answer, accepted, by_numbers, refused}
use Rattle.requests.specs.declared.name.Name.TheVariants.{CreateSession, Control}
use Rattle.requests.specs.declared.name.Parameter.TheVariants.{Cid, User, Session}
use Rattle.compose.specs.Drafts.{Draft, add_answer, add_to, begin, ending, length_or}
use Rattle.compose.specs.Written.{Assignment, assign}

-- a writer of create_session over n zeros: the name and CR LF take 16
abbrev create_in : ℕ → Draft
create_in n = begin CreateSession (replicate n 0)

-- so many bytes `a`
abbrev value : ℕ → List ℕ
value n = replicate n 97

abbrev added : Draft → Assignment → Answer (Unit {0})
added d x = by_numbers (add_answer d x)

abbrev finished : Draft → Answer ℕ
finished d = by_numbers (length_or (ending d))

-- with LS_cid=a behind the name, 8 bytes more
abbrev with_cid : Draft → Draft
with_cid d = add_to d (assign Cid (value 1))

pub record Refusals : Type 0 where
  -- bytes too few for the name: 16 to each pair, whatever its parameter and value, and to finishing
  pub no_name : (x : Assignment) → added (create_in 15) x ≡ refused 16 0
  pub no_name_finished : finished (create_in 15) ≡ refused 16 0
  pub no_bytes : (x : Assignment) → added (begin Control []) x ≡ refused 16 0
  -- a parameter that is none of the name's, or was added before: 6
  pub unknown : added (create_in 80) (assign Session (value 1)) ≡ refused 6 0
  pub repeated : added (with_cid (create_in 80)) (assign Cid (value 1)) ≡ refused 6 0
  -- a value of more than 64 bytes: 16
  pub long : added (create_in 200) (assign Cid (value 65)) ≡ refused 16 0
  -- a pair that does not fit: 16
  pub no_room : added (create_in 23) (assign Cid (value 1)) ≡ refused 16 0
  -- 6 before 16, but 16 for want of the name before all
  pub unknown_before_long : added (create_in 80) (assign Session (value 65)) ≡ refused 6 0
  pub repeated_before_long : added (with_cid (create_in 80)) (assign Cid (value 65)) ≡ refused 6 0
  pub unknown_before_room : added (create_in 16) (assign Session (value 1)) ≡ refused 6 0
  -- no pair: 6, also where the one that was tried was refused
  pub no_pair : finished (create_in 80) ≡ refused 6 0
  pub no_pair_taken : finished (add_to (create_in 80) (assign Session (value 1))) ≡ refused 6 0
  -- and what stands at the limits is accepted
  pub longest : added (create_in 200) (assign Cid (value 64)) ≡ accepted tt
  pub fits : added (create_in 24) (assign Cid (value 1)) ≡ accepted tt
  pub another : added (with_cid (create_in 80)) (assign User (value 1)) ≡ accepted tt
  pub whole : finished (with_cid (create_in 24)) ≡ accepted 24
