-- What a request that was read means.
use Rattle.std.specs.Option.{option_map}
use Rattle.std.specs.Prelude.{Result}
use Rattle.std.specs.Result.{result_map_both}
use Rattle.row.specs.declared.fault.Refusal.{Refusal}
use Rattle.requests.specs.Read.{word_text}
use Rattle.requests.specs.Requests as asks
use Rattle.requests.specs.Requests.{create, bind, add, delete, rebind}
use Rattle.requests.specs.declared.request.Request.{Request}
use Rattle.requests.specs.declared.request.Request.TheVariants.{Create, Bind, Add, Delete}
use Rattle.requests.specs.declared.request.Request.TheVariants.{ForceRebind}

abbrev pub request_in : Request → asks.Request
request_in (Create cid user password) =
    create (word_text cid) (option_map word_text user) (option_map word_text password)
request_in Bind = bind
request_in (Add request id group) = add (word_text request) id (word_text group)
request_in (Delete request id) = delete (word_text request) id
request_in (ForceRebind request) = rebind (word_text request)

abbrev pub asked : Result Request Refusal → Result asks.Request Refusal
asked = result_map_both request_in (λ e. e)
