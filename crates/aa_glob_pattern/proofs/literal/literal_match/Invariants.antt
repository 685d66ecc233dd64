use Rattle.std.proofs.Common.{length}
use Rattle.aa_glob_pattern.specs.code.Literals.{AreLeft, StandFor}
use Rattle.aa_glob_pattern.proofs.LiteralLemmas.{IsShort}
use Rattle.aa_glob_pattern.proofs.literal.literal_match.Given as goal

-- what is left of the path is to be matched by what is left of the text, from here and from the last segment's slash
abbrev pub invariant-loop-here : goal.invariant-loop-here
invariant-loop-here l =
    AreLeft l.text l.path l.here.text.now l.here.path.now
    × IsShort l.here.text.now
    × StandFor l.text l.path l.segment.text.now l.segment.path.now

abbrev pub decreases-loop-here : goal.decreases-loop-here
decreases-loop-here l = length l.here.text.now
