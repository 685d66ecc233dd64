use Rattle.std.proofs.Common.{take}
use Rattle.std.specs.Prelude.{Contains}
use Rattle.aa_glob_nfa.specs.declared.state.End.{End}
use Rattle.aa_glob_pairs.specs.Below.{Covers}
use Rattle.aa_glob_pairs.specs.Graphs.{class_at}
use Rattle.aa_glob_pairs.proofs.belows.of_ends.Given as goal

abbrev pub invariant-loop-end : goal.invariant-loop-end
invariant-loop-end l = (e : End) → Contains (take l.end-index l.ends) e → Covers l.below (class_at l.classes e.pattern)
