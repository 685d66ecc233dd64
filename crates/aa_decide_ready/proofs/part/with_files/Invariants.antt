use Rattle.std.proofs.Common.{List, ℕ, take, ◌++◌}
use Rattle.aa_glob.specs.Built.{IsBuilt}
use Rattle.aa_profile_data.specs.FileRules.{file_patterns}
use Rattle.aa_decide_ready.proofs.part.with_files.Given as goal

-- the patterns so far were added
abbrev pub invariant-loop-rule : goal.invariant-loop-rule
invariant-loop-rule l = (patterns : List (List ℕ)) → IsBuilt l.initial.added patterns → IsBuilt l.added (patterns ++ file_patterns (take l.rule-index l.rules))
