use Rattle.std.proofs.Common.{◌≡◌, ◌≤◌, List, [], length}
use Rattle.aa_bytes.specs.Texts.{is_empty}
use Rattle.aa_bytes.specs.declared.byte_set.ByteRange.{ByteRange}
use Rattle.aa_glob_syntax.specs.Classes.{members}
use Rattle.aa_glob_syntax.specs.Elements.{behind_class}
use Rattle.aa_glob_syntax.specs.Symbols.{symbols}
use Rattle.aa_glob_syntax.proofs.members.pass_members.Given as goal

-- the members so far, and those in what is left, are those of the class
abbrev pub invariant-loop-after : goal.invariant-loop-after
invariant-loop-after l =
    ((before : List ByteRange) × (members [] (symbols l.text) ≡ members before (symbols l.rest)) × (is_empty before ≡ l.none))
    × (behind_class (symbols l.text) ≡ behind_class (symbols l.rest))
    × (length l.rest ≤ length l.text)

abbrev pub decreases-loop-after : goal.decreases-loop-after
decreases-loop-after l = length l.rest
