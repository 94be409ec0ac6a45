-- The limits of requests.
use Rattle.std.specs.Prelude.{ℕ}

-- the bytes of a request
abbrev pub request_limit : ℕ
request_limit = 2048

-- the bytes of a parameter's value, decoded
abbrev pub value_limit : ℕ
value_limit = 64

-- the characters of a request's ID
abbrev pub request_id_limit : ℕ
request_id_limit = 8
