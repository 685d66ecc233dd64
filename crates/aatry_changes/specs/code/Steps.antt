-- What is gathered of changes, one part after the other.
use Rattle.std.specs.Prelude.{List, [], ◌∷◌}
use Rattle.aatry_changes.specs.Folded.{havings_in}
use Rattle.aatry_changes.specs.PartChanges.{PartChange}
use Rattle.aatry_shared.specs.Sharing.{Group, gathered_behind}

-- what changes of some parts, as far as other parts may share it, after what is gathered
abbrev pub gathered_changes : List Group → List PartChange → List Group
gathered_changes groups [] = groups
gathered_changes groups (change ∷ changes) = gathered_changes (gathered_behind groups (havings_in change)) changes
