use Rattle.aatry_changes.proofs.FoldLemmas.{new-told, old-told, own-told}
use Rattle.aatry_changes.proofs.laws.what_is_folded_is_told.Goals as goal
use Rattle.aatry_changes.specs.Folded.{all_havings}

pub returns-clause-of_the_old : goal.returns-clause-of_the_old
returns-clause-of_the_old c changes part other less more feature there =
    old-told c.what_is_shared_is_told_once.ensures.each changes part other less more feature there

pub returns-clause-of_the_new : goal.returns-clause-of_the_new
returns-clause-of_the_new c changes part other less more feature there =
    new-told c.what_is_shared_is_told_once.ensures.each changes part other less more feature there

pub returns-clause-no_other_below : goal.returns-clause-no_other_below
returns-clause-no_other_below c = own-told

pub returns-clause-no_other_shared : goal.returns-clause-no_other_shared
returns-clause-no_other_shared c changes = c.what_is_shared_is_told_once.ensures.no_other (all_havings changes)

pub returns-clause-of_several : goal.returns-clause-of_several
returns-clause-of_several c changes = c.what_is_shared_is_told_once.ensures.of_several (all_havings changes)
