use Rattle.aa_glob_pattern.proofs.GroupLemmas.{length-behind}
use Rattle.aa_glob_pattern.proofs.StandLemmas.{may_stand-of}
use Rattle.aa_glob_pattern.proofs.laws.which_elements_stand.Goals as goal

pub returns-clause-whole_texts_stand : goal.returns-clause-whole_texts_stand
returns-clause-whole_texts_stand c = may_stand-of

pub returns-clause-depth_is_of_elements : goal.returns-clause-depth_is_of_elements
returns-clause-depth_is_of_elements c = length-behind
