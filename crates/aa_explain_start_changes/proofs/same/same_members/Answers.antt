use Rattle.std.proofs.Common.{◌∙◌}
use Rattle.aa_explain_start_changes.proofs.MemberLemmas.{members-test}
use Rattle.aa_explain_start_changes.proofs.same.same_members.Goals as goal

pub returns : goal.returns
returns c = c.eq.ensures ∙ members-test c.args.one.now c.args.other.now
