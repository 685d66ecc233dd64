use Rattle.std.proofs.Common.{◌+◌, ◌*◌, ◌≤◌, length}
use Rattle.aa_glob_syntax.specs.Cursor.{left}
use Rattle.aa_glob_syntax.specs.Elements.{elements}
use Rattle.aa_glob_syntax.specs.Faults.{spelled}
use Rattle.aa_glob_syntax.specs.Symbols.{symbols}
use Rattle.aa_glob_syntax.proofs.FaultLemmas.{AreKnown}
use Rattle.aa_glob_syntax.proofs.check.check_elements.Given as goal

-- what is known from the elements so far, and from those that are left
abbrev pub invariant-loop-next : goal.invariant-loop-next
invariant-loop-next l =
    AreKnown (spelled l.text) l.facts l.groups.commas (elements l.at.context (symbols l.at.rest.now))
    × (l.facts.prefix + left l.at.context l.at.rest.now ≤ 2 * length l.text)

abbrev pub decreases-loop-next : goal.decreases-loop-next
decreases-loop-next l = left l.at.context l.at.rest.now
