use Rattle.std.proofs.Common.{◌≡◌, ◌++◌, List, length}
use Rattle.aa_glob_paths.specs.Laws.{paths_of}
use Rattle.aa_glob_paths.specs.declared.outcome.Outcome.{Outcome}
use Rattle.aa_explain_start_changes.specs.Starters.{seen_starters}
use Rattle.aa_explain_start_changes.specs.code.Telling.{AreChangesBy}
use Rattle.aa_explain_start_changes.proofs.asking.changes_by.Given as goal

-- the starts so far are those by the first outcomes
abbrev pub invariant-loop-rest : goal.invariant-loop-rest
invariant-loop-rest l =
    (done : List Outcome) × (done ++ l.rest ≡ l.outcomes) × AreChangesBy (seen_starters l.ready) (paths_of done) l.changes.items

abbrev pub decreases-loop-rest : goal.decreases-loop-rest
decreases-loop-rest l = length l.rest
