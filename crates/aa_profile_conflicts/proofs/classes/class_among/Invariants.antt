use Rattle.std.proofs.Common.{◌≡◌, ◌<◌, ℕ, false}
use Rattle.aa_profile_conflicts.specs.Classes.{is_class_of, seen_transitions}
use Rattle.aa_profile_conflicts.proofs.classes.class_among.Given as goal

-- the transition is none of those so far
abbrev pub invariant-loop-class : goal.invariant-loop-class
invariant-loop-class l = (k : ℕ) → k < l.class → is_class_of (seen_transitions l.transitions) k l.transition ≡ false
