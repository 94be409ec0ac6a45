-- The words of requests, by what the reader finds.
use Rattle.std.proofs.Common.{◌≡◌, ℕ, List, Some, refl, ap, ◌∙◌}
use Rattle.tlcp.specs.Dividing.{first_with}
use Rattle.tlcp.proofs.Words.{first_word}
use Rattle.requests.specs.Names.{form_word, name_word, names, operations, parameter_word}
use Rattle.requests.specs.Names.{parameters_of}
use Rattle.requests.specs.Words.{Words}
use Rattle.requests.specs.declared.name.Name.TheVariants.{CreateSession, BindSession, Control}
use Rattle.requests.proofs.Fitting.{decides-same}

-- a word is that of one thing
only : {X : Type 0} (word : X → List ℕ) (xs : List X) (x : X) → first_with word xs (word x) ≡ Some x
    → (t : List ℕ)
    → (first_with word xs t ≡ Some x → t ≡ word x) × (t ≡ word x → first_with word xs t ≡ Some x)
only word xs x found t = (first_word word xs t x, λ e. ap (first_with word xs) e ∙ found)

pub words : Words
words = record {
  name_create_session = only name_word names _ refl;
  name_bind_session = only name_word names _ refl;
  name_control = only name_word names _ refl;
  parameter_cid = only parameter_word (parameters_of CreateSession) _ refl;
  parameter_user = only parameter_word (parameters_of CreateSession) _ refl;
  parameter_password = only parameter_word (parameters_of CreateSession) _ refl;
  parameter_session = only parameter_word (parameters_of BindSession) _ refl;
  parameter_request_id = only parameter_word (parameters_of Control) _ refl;
  parameter_operation = only parameter_word (parameters_of Control) _ refl;
  parameter_subscription_id = only parameter_word (parameters_of Control) _ refl;
  parameter_group = only parameter_word (parameters_of Control) _ refl;
  parameter_schema = only parameter_word (parameters_of Control) _ refl;
  parameter_mode = only parameter_word (parameters_of Control) _ refl;
  parameter_snapshot = only parameter_word (parameters_of Control) _ refl;
  operation_add = only form_word operations _ refl;
  operation_delete = only form_word operations _ refl;
  operation_force_rebind = only form_word operations _ refl;
  value_schema = λ session t. decides-same t _;
  value_mode = λ session t. decides-same t _;
  value_snapshot = λ session t. decides-same t _;
  create_needs = refl;
  create_takes = refl;
  bind_needs = refl;
  bind_takes = refl;
  add_needs = refl;
  add_takes = refl;
  delete_needs = refl;
  delete_takes = refl;
  rebind_needs = refl;
  rebind_takes = refl;
}
