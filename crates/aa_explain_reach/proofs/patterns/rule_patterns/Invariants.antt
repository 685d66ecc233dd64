use Rattle.std.proofs.Common.{◌≡◌, ◌++◌, length}
use Rattle.aa_profile_data.specs.FileRules.{file_patterns}
use Rattle.aa_explain_reach.proofs.patterns.rule_patterns.Given as goal

-- the patterns so far, with those of the rules that are left, are all
abbrev pub invariant-loop-rest : goal.invariant-loop-rest
invariant-loop-rest l = l.patterns.items ++ file_patterns l.rest ≡ file_patterns l.rules

abbrev pub decreases-loop-rest : goal.decreases-loop-rest
decreases-loop-rest l = length l.rest
