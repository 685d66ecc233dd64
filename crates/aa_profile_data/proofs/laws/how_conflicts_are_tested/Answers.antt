use Rattle.aa_profile_data.proofs.ConflictLemmas.{agree-none, conflict-tested}
use Rattle.aa_profile_data.proofs.laws.how_conflicts_are_tested.Goals as goal

pub returns-clause-conflict_is_exact : goal.returns-clause-conflict_is_exact
returns-clause-conflict_is_exact c = conflict-tested c.how_overlaps_are_tested.ensures

pub returns-clause-agree_is_exact : goal.returns-clause-agree_is_exact
returns-clause-agree_is_exact c = agree-none c.how_overlaps_are_tested.ensures
