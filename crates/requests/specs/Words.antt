-- The words of requests as lists of bytes, and which parameters each request needs and may have.
use Rattle.std.specs.Prelude.{◌≡◌, ◌↔◌, ℕ, true, List, [], ◌∷◌, map, Some, Option}
use Rattle.requests.specs.Names.{name_of, needs, operation_of, parameter_of, parameter_word, takes}
use Rattle.requests.specs.Values.{fitting}
use Rattle.requests.specs.declared.name.Form.TheVariants.{Create, Bind, Add, Delete, ForceRebind}
use Rattle.requests.specs.declared.name.Name.TheVariants.{CreateSession, BindSession, Control}
use Rattle.requests.specs.declared.name.Parameter.TheVariants.{Cid, User, Password, Session}
use Rattle.requests.specs.declared.name.Parameter.TheVariants.{RequestId, Operation, SubscriptionId}
use Rattle.requests.specs.declared.name.Parameter.TheVariants.{Group, Schema, Mode, Snapshot}

-- create_session
abbrev pub create_session_bytes : List ℕ
create_session_bytes =
    99 ∷ 114 ∷ 101 ∷ 97 ∷ 116 ∷ 101 ∷ 95
    ∷ 115 ∷ 101 ∷ 115 ∷ 115 ∷ 105 ∷ 111 ∷ 110 ∷ []

-- bind_session
abbrev pub bind_session_bytes : List ℕ
bind_session_bytes = 98 ∷ 105 ∷ 110 ∷ 100 ∷ 95 ∷ 115 ∷ 101 ∷ 115 ∷ 115 ∷ 105 ∷ 111 ∷ 110 ∷ []

-- control
abbrev pub control_bytes : List ℕ
control_bytes = 99 ∷ 111 ∷ 110 ∷ 116 ∷ 114 ∷ 111 ∷ 108 ∷ []

-- LS_cid
abbrev pub ls_cid_bytes : List ℕ
ls_cid_bytes = 76 ∷ 83 ∷ 95 ∷ 99 ∷ 105 ∷ 100 ∷ []

-- LS_user
abbrev pub ls_user_bytes : List ℕ
ls_user_bytes = 76 ∷ 83 ∷ 95 ∷ 117 ∷ 115 ∷ 101 ∷ 114 ∷ []

-- LS_password
abbrev pub ls_password_bytes : List ℕ
ls_password_bytes = 76 ∷ 83 ∷ 95 ∷ 112 ∷ 97 ∷ 115 ∷ 115 ∷ 119 ∷ 111 ∷ 114 ∷ 100 ∷ []

-- LS_session
abbrev pub ls_session_bytes : List ℕ
ls_session_bytes = 76 ∷ 83 ∷ 95 ∷ 115 ∷ 101 ∷ 115 ∷ 115 ∷ 105 ∷ 111 ∷ 110 ∷ []

-- LS_reqId
abbrev pub ls_reqid_bytes : List ℕ
ls_reqid_bytes = 76 ∷ 83 ∷ 95 ∷ 114 ∷ 101 ∷ 113 ∷ 73 ∷ 100 ∷ []

-- LS_op
abbrev pub ls_op_bytes : List ℕ
ls_op_bytes = 76 ∷ 83 ∷ 95 ∷ 111 ∷ 112 ∷ []

-- LS_subId
abbrev pub ls_subid_bytes : List ℕ
ls_subid_bytes = 76 ∷ 83 ∷ 95 ∷ 115 ∷ 117 ∷ 98 ∷ 73 ∷ 100 ∷ []

-- LS_group
abbrev pub ls_group_bytes : List ℕ
ls_group_bytes = 76 ∷ 83 ∷ 95 ∷ 103 ∷ 114 ∷ 111 ∷ 117 ∷ 112 ∷ []

-- LS_schema
abbrev pub ls_schema_bytes : List ℕ
ls_schema_bytes = 76 ∷ 83 ∷ 95 ∷ 115 ∷ 99 ∷ 104 ∷ 101 ∷ 109 ∷ 97 ∷ []

-- LS_mode
abbrev pub ls_mode_bytes : List ℕ
ls_mode_bytes = 76 ∷ 83 ∷ 95 ∷ 109 ∷ 111 ∷ 100 ∷ 101 ∷ []

-- LS_snapshot
abbrev pub ls_snapshot_bytes : List ℕ
ls_snapshot_bytes = 76 ∷ 83 ∷ 95 ∷ 115 ∷ 110 ∷ 97 ∷ 112 ∷ 115 ∷ 104 ∷ 111 ∷ 116 ∷ []

-- add
abbrev pub add_bytes : List ℕ
add_bytes = 97 ∷ 100 ∷ 100 ∷ []

-- delete
abbrev pub delete_bytes : List ℕ
delete_bytes = 100 ∷ 101 ∷ 108 ∷ 101 ∷ 116 ∷ 101 ∷ []

-- force_rebind
abbrev pub force_rebind_bytes : List ℕ
force_rebind_bytes = 102 ∷ 111 ∷ 114 ∷ 99 ∷ 101 ∷ 95 ∷ 114 ∷ 101 ∷ 98 ∷ 105 ∷ 110 ∷ 100 ∷ []

-- all
abbrev pub all_bytes : List ℕ
all_bytes = 97 ∷ 108 ∷ 108 ∷ []

-- MERGE
abbrev pub merge_bytes : List ℕ
merge_bytes = 77 ∷ 69 ∷ 82 ∷ 71 ∷ 69 ∷ []

-- true
abbrev pub true_bytes : List ℕ
true_bytes = 116 ∷ 114 ∷ 117 ∷ 101 ∷ []

abbrev pub create_words : List (List ℕ)
create_words = ls_cid_bytes ∷ ls_user_bytes ∷ ls_password_bytes ∷ []

abbrev pub delete_words : List (List ℕ)
delete_words = ls_reqid_bytes ∷ ls_op_bytes ∷ ls_subid_bytes ∷ []

abbrev pub add_words : List (List ℕ)
add_words =
    ls_reqid_bytes ∷ ls_op_bytes ∷ ls_subid_bytes ∷ ls_group_bytes ∷ ls_schema_bytes
    ∷ ls_mode_bytes ∷ ls_snapshot_bytes ∷ []

-- x is found by this word and by no other
abbrev pub Only : {X : Type 0} → (List ℕ → Option X) → X → List ℕ → Type 0
Only of x word = (t : List ℕ) → of t ≡ Some x ↔ t ≡ word

pub record Words : Type 0 where
  -- the names
  pub name_create_session : Only name_of CreateSession create_session_bytes
  pub name_bind_session : Only name_of BindSession bind_session_bytes
  pub name_control : Only name_of Control control_bytes
  -- the parameters of each name
  pub parameter_cid : Only (parameter_of CreateSession) Cid ls_cid_bytes
  pub parameter_user : Only (parameter_of CreateSession) User ls_user_bytes
  pub parameter_password : Only (parameter_of CreateSession) Password ls_password_bytes
  pub parameter_session : Only (parameter_of BindSession) Session ls_session_bytes
  pub parameter_request_id : Only (parameter_of Control) RequestId ls_reqid_bytes
  pub parameter_operation : Only (parameter_of Control) Operation ls_op_bytes
  pub parameter_subscription_id : Only (parameter_of Control) SubscriptionId ls_subid_bytes
  pub parameter_group : Only (parameter_of Control) Group ls_group_bytes
  pub parameter_schema : Only (parameter_of Control) Schema ls_schema_bytes
  pub parameter_mode : Only (parameter_of Control) Mode ls_mode_bytes
  pub parameter_snapshot : Only (parameter_of Control) Snapshot ls_snapshot_bytes
  -- the operations
  pub operation_add : Only operation_of Add add_bytes
  pub operation_delete : Only operation_of Delete delete_bytes
  pub operation_force_rebind : Only operation_of ForceRebind force_rebind_bytes
  -- the values of which there is one
  pub value_schema : (session : ℕ) (t : List ℕ)
      → fitting session Schema t ≡ true ↔ t ≡ all_bytes
  pub value_mode : (session : ℕ) (t : List ℕ)
      → fitting session Mode t ≡ true ↔ t ≡ merge_bytes
  pub value_snapshot : (session : ℕ) (t : List ℕ)
      → fitting session Snapshot t ≡ true ↔ t ≡ true_bytes
  -- what each needs, and what each may have
  pub create_needs : map parameter_word (needs Create) ≡ ls_cid_bytes ∷ []
  pub create_takes : map parameter_word (takes Create) ≡ create_words
  pub bind_needs : map parameter_word (needs Bind) ≡ ls_session_bytes ∷ []
  pub bind_takes : map parameter_word (takes Bind) ≡ ls_session_bytes ∷ []
  pub add_needs : map parameter_word (needs Add) ≡ add_words
  pub add_takes : map parameter_word (takes Add) ≡ add_words
  pub delete_needs : map parameter_word (needs Delete) ≡ delete_words
  pub delete_takes : map parameter_word (takes Delete) ≡ delete_words
  pub rebind_needs : map parameter_word (needs ForceRebind) ≡ ls_reqid_bytes ∷ ls_op_bytes ∷ []
  pub rebind_takes : map parameter_word (takes ForceRebind) ≡ ls_reqid_bytes ∷ ls_op_bytes ∷ []
