use Rattle.std.proofs.Common.{◌≡◌, [], length}
use Rattle.aa_glob_syntax.specs.Classes.{members}
use Rattle.aa_glob_syntax.specs.Symbols.{symbols}
use Rattle.aa_glob_syntax.proofs.members.listed_ranges.Given as goal

-- the members so far, and those in what is left, are those of the class
abbrev pub invariant-loop-range : goal.invariant-loop-range
invariant-loop-range l = members [] (symbols l.text) ≡ members l.listed.items (symbols l.rest)

abbrev pub decreases-loop-range : goal.decreases-loop-range
decreases-loop-range l = length l.rest
