use Rattle.aa_explain.proofs.AttachmentLemmas.{attached-child, attached-profile, told-attached}
use Rattle.aa_explain.proofs.laws.which_is_attached.Goals as goal

pub returns-clause-told : goal.returns-clause-told
returns-clause-told c = told-attached

pub returns-clause-profile : goal.returns-clause-profile
returns-clause-profile c = attached-profile

pub returns-clause-child : goal.returns-clause-child
returns-clause-child c = attached-child
