-- The names of requests and of their parameters.
use Rattle.std.specs.Prelude.{ℕ, Bool, List, [], ◌∷◌, codes, Option, ◌==◌}
use Rattle.std.specs.List.{list_any}
use Rattle.tlcp.specs.Dividing.{first_with}
use Rattle.requests.specs.declared.name.Name.{Name}
use Rattle.requests.specs.declared.name.Name.TheVariants.{CreateSession, BindSession, Control}
use Rattle.requests.specs.declared.name.Parameter.{Parameter}
use Rattle.requests.specs.declared.name.Parameter.TheVariants.{Cid, User, Password, Session}
use Rattle.requests.specs.declared.name.Parameter.TheVariants.{RequestId, Operation, SubscriptionId}
use Rattle.requests.specs.declared.name.Parameter.TheVariants.{Group, Schema, Mode, Snapshot}
use Rattle.requests.specs.declared.name.Form.{Form}
use Rattle.requests.specs.declared.name.Form.TheVariants.{Create, Bind, Add, Delete, ForceRebind}

abbrev pub name_word : Name → List ℕ
name_word CreateSession = codes "create_session"
name_word BindSession = codes "bind_session"
name_word Control = codes "control"

abbrev pub parameter_word : Parameter → List ℕ
parameter_word Cid = codes "LS_cid"
parameter_word User = codes "LS_user"
parameter_word Password = codes "LS_password"
parameter_word Session = codes "LS_session"
parameter_word RequestId = codes "LS_reqId"
parameter_word Operation = codes "LS_op"
parameter_word SubscriptionId = codes "LS_subId"
parameter_word Group = codes "LS_group"
parameter_word Schema = codes "LS_schema"
parameter_word Mode = codes "LS_mode"
parameter_word Snapshot = codes "LS_snapshot"

-- the place of a parameter among all
abbrev pub index_of : Parameter → ℕ
index_of Cid = 0
index_of User = 1
index_of Password = 2
index_of Session = 3
index_of RequestId = 4
index_of Operation = 5
index_of SubscriptionId = 6
index_of Group = 7
index_of Schema = 8
index_of Mode = 9
index_of Snapshot = 10

-- how many there are
abbrev pub parameter_count : ℕ
parameter_count = 11

abbrev pub parameters_of : Name → List Parameter
parameters_of CreateSession = Cid ∷ User ∷ Password ∷ []
parameters_of BindSession = Session ∷ []
parameters_of Control =
    RequestId ∷ Operation ∷ SubscriptionId ∷ Group ∷ Schema ∷ Mode ∷ Snapshot ∷ []

abbrev pub is_in : Parameter → List Parameter → Bool
is_in p qs = list_any (λ q. index_of p == index_of q) qs

abbrev pub names : List Name
names = CreateSession ∷ BindSession ∷ Control ∷ []

abbrev pub name_of : List ℕ → Option Name
name_of = first_with name_word names

abbrev pub parameter_of : Name → List ℕ → Option Parameter
parameter_of n = first_with parameter_word (parameters_of n)

-- what has to be there for any request of a name
abbrev pub first_needs : Name → List Parameter
first_needs CreateSession = Cid ∷ []
first_needs BindSession = Session ∷ []
first_needs Control = RequestId ∷ Operation ∷ []

-- the word by which a request asks for a form: its operation's, or its name's where that has one
-- form only
abbrev pub form_word : Form → List ℕ
form_word Create = name_word CreateSession
form_word Bind = name_word BindSession
form_word Add = codes "add"
form_word Delete = codes "delete"
form_word ForceRebind = codes "force_rebind"

abbrev pub operations : List Form
operations = Add ∷ Delete ∷ ForceRebind ∷ []

-- the operation of a control request, by the value of LS_op
abbrev pub operation_of : List ℕ → Option Form
operation_of = first_with form_word operations

-- the parameters that a form of request needs, in the order in which they are checked
abbrev pub needs : Form → List Parameter
needs Create = Cid ∷ []
needs Bind = Session ∷ []
needs Add = RequestId ∷ Operation ∷ SubscriptionId ∷ Group ∷ Schema ∷ Mode ∷ Snapshot ∷ []
needs Delete = RequestId ∷ Operation ∷ SubscriptionId ∷ []
needs ForceRebind = RequestId ∷ Operation ∷ []

-- those that it may have
abbrev pub takes : Form → List Parameter
takes Create = Cid ∷ User ∷ Password ∷ []
takes Bind = Session ∷ []
takes Add = needs Add
takes Delete = needs Delete
takes ForceRebind = needs ForceRebind
