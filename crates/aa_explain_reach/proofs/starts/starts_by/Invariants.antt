use Rattle.std.proofs.Common.{◌≡◌, ◌++◌, List, length}
use Rattle.std.specs.Option.{option_map}
use Rattle.aa_decide.specs.SeenExec.{seen_asker}
use Rattle.aa_glob_paths.specs.Laws.{paths_of}
use Rattle.aa_glob_paths.specs.declared.outcome.Outcome.{Outcome}
use Rattle.aa_explain_reach.specs.code.Telling.{AreStartsBy}
use Rattle.aa_explain_reach.proofs.starts.starts_by.Given as goal

-- the starts so far are those by the first outcomes
abbrev pub invariant-loop-rest : goal.invariant-loop-rest
invariant-loop-rest l =
    (done : List Outcome) × (done ++ l.rest ≡ l.outcomes) × AreStartsBy l.slots (option_map seen_asker l.ready) (paths_of done) l.starts.items

abbrev pub decreases-loop-rest : goal.decreases-loop-rest
decreases-loop-rest l = length l.rest
