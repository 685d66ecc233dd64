use Rattle.aatry_path_changes.proofs.LawLemmas.{same-alike}
use Rattle.aatry_path_changes.proofs.laws.what_is_the_same_answers_alike.Goals as goal

pub returns : goal.returns
returns c = same-alike c.no_change_is_hidden.ensures.hidden c.letters_decide_sets.ensures c.no_start_change_is_hidden.ensures
