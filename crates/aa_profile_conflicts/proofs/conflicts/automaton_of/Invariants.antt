use Rattle.std.proofs.Common.{take}
use Rattle.aa_glob.specs.Built.{IsBuilt}
use Rattle.aa_profile_conflicts.specs.Leads.{patterns_by}
use Rattle.aa_profile_conflicts.proofs.conflicts.automaton_of.Given as goal

-- the patterns so far are built
abbrev pub invariant-loop-rule : goal.invariant-loop-rule
invariant-loop-rule l = IsBuilt l.builder (patterns_by l.rank (take l.rule-index l.rules))
