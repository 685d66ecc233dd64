use Rattle.std.proofs.Common.{◌≡◌, List, [], length}
use Rattle.aa_bytes.specs.ByteSets.{is_listed}
use Rattle.aa_bytes.specs.declared.byte_set.ByteRange.{ByteRange}
use Rattle.aa_glob_syntax.specs.Classes.{members}
use Rattle.aa_glob_syntax.specs.Symbols.{symbols}
use Rattle.aa_glob_syntax.proofs.members.lists_byte.Given as goal

-- whether the members so far list the byte
abbrev pub invariant-loop-range : goal.invariant-loop-range
invariant-loop-range l =
    (before : List ByteRange) × (members [] (symbols l.text) ≡ members before (symbols l.rest)) × (is_listed l.byte before ≡ l.found)

abbrev pub decreases-loop-range : goal.decreases-loop-range
decreases-loop-range l = length l.rest
