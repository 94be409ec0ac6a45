use Rattle.tlcp.proofs.Spelling.{reads-spelled}
use Rattle.tlcp.proofs.list.read_list.Goals as goal

pub returns-then-delta-ne-FIELD_LIMIT-clause-spelled :
    goal.returns-then-delta-ne-FIELD_LIMIT-clause-spelled
returns-then-delta-ne-FIELD_LIMIT-clause-spelled g c = reads-spelled

pub returns-then-fields-gt-FIELD_LIMIT-clause-spelled :
    goal.returns-then-fields-gt-FIELD_LIMIT-clause-spelled
returns-then-fields-gt-FIELD_LIMIT-clause-spelled g c = reads-spelled

pub returns-then-is_err-clause-spelled : goal.returns-then-is_err-clause-spelled
returns-then-is_err-clause-spelled g c = reads-spelled

pub returns-else-is_err-clause-spelled : goal.returns-else-is_err-clause-spelled
returns-else-is_err-clause-spelled g c = reads-spelled
