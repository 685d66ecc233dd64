use Rattle.aatry_transcripts.proofs.MeetLemmas.{asked_is_met, met_is_asked, same-are_same, same-is, same-met, whole_lines}
use Rattle.aatry_transcripts.proofs.laws.what_a_comparison_says.Goals as goal

pub returns-clause-asked : goal.returns-clause-asked
returns-clause-asked c wanted told met = met_is_asked wanted told met

pub returns-clause-met : goal.returns-clause-met
returns-clause-met c wanted told asked = asked_is_met wanted told asked

pub returns-clause-whole : goal.returns-clause-whole
returns-clause-whole c wanted told none = whole_lines wanted told none

pub returns-clause-itself : goal.returns-clause-itself
returns-clause-itself c lines = same-met lines

pub returns-clause-passed : goal.returns-clause-passed
returns-clause-passed c told wanted same = same-is told wanted same

pub returns-clause-same : goal.returns-clause-same
returns-clause-same c lines = same-are_same lines
