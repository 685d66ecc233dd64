use Rattle.aa_glob_nfa.specs.OfTables.{graph_of}
use Rattle.aa_glob_paths.specs.code.AllTexts.{AreOutcomesBefore}
use Rattle.aa_glob_paths.specs.code.Kept.{kept_outcomes}
use Rattle.aa_glob_paths.proofs.of_sets.outcomes_of.Given as goal

abbrev pub invariant-loop-number : goal.invariant-loop-number
invariant-loop-number l = AreOutcomesBefore (graph_of l.tables) l.classes l.sets l.number (kept_outcomes l.kept.entries)
