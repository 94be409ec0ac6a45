-- What is shown of a request is that request again.
use Rattle.std.specs.Prelude.{◌≡◌, ℕ, List, Ok}
use Rattle.requests.specs.Requests.{Request, create, bind, add, delete, rebind, read_request}
use Rattle.compose.specs.Written.{written}
use Rattle.request.specs.Anew.{name_for, pairs_for, redacted}
use Rattle.request.specs.Checking.{anew_text}

-- a request as it is shown: without its password
abbrev pub shown : Request → Request
shown (create c u w) = create c u (redacted w)
shown bind = bind
shown (add r id g) = add r id g
shown (delete r id) = delete r id
shown (rebind r) = rebind r

-- what is shown of a request that was read is that request, written by the request writer, and is
-- read as it again
abbrev pub ShowsSame : Type 0
ShowsSame =
    (session : ℕ) (s : List ℕ) (q : Request) → read_request session s ≡ Ok q
    → (anew_text session q ≡ Ok (written (name_for q) (pairs_for session q)))
    × (read_request session (written (name_for q) (pairs_for session q)) ≡ Ok (shown q))
