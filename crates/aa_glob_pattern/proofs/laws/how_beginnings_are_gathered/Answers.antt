use Rattle.aa_glob_pattern.proofs.GatheringLemmas.{begun-first, begun-known, begun-new, begun-next, begun-whole}
use Rattle.aa_glob_pattern.proofs.laws.how_beginnings_are_gathered.Goals as goal

pub returns-clause-first_text_is_begun : goal.returns-clause-first_text_is_begun
returns-clause-first_text_is_begun c = begun-first

pub returns-clause-next_text_is_begun : goal.returns-clause-next_text_is_begun
returns-clause-next_text_is_begun c = begun-next

pub returns-clause-known_trail_is_met : goal.returns-clause-known_trail_is_met
returns-clause-known_trail_is_met c = begun-known

pub returns-clause-new_trail_is_added : goal.returns-clause-new_trail_is_added
returns-clause-new_trail_is_added c = begun-new

pub returns-clause-whole_text_is_there : goal.returns-clause-whole_text_is_there
returns-clause-whole_text_is_there c = begun-whole
