use Rattle.std.proofs.Common.{◌≡◌}
use Rattle.std.specs.List.{list_all}
use Rattle.aa_glob_syntax.specs.Cursor.{left}
use Rattle.aa_glob_syntax.specs.Elements.{elements}
use Rattle.aa_glob_syntax.specs.Symbols.{symbols}
use Rattle.aa_profile.specs.Plainness.{is_plain, is_plain_element}
use Rattle.aa_profile.proofs.plainness.is_plain.Given as goal

-- the rest decides
abbrev pub invariant-loop-next : goal.invariant-loop-next
invariant-loop-next l = list_all is_plain_element (elements l.context (symbols l.rest)) ≡ is_plain l.text

abbrev pub decreases-loop-next : goal.decreases-loop-next
decreases-loop-next l = left l.context l.rest
