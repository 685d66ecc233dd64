use Rattle.std.proofs.Common.{◌≡◌, ◌++◌, map, drop}
use Rattle.aa_set_manager.specs.Changes.{mode_of, modes_of}
use Rattle.aa_set_manager.proofs.modes.modes_of.Given as goal

-- the modes so far, and those of the children that are left, are all
abbrev pub invariant-loop-child : goal.invariant-loop-child
invariant-loop-child l = l.modes.items ++ map (λ child. mode_of l.set child.mode) (drop l.child-index l.children) ≡ modes_of l.set l.profile
