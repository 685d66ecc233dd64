use Rattle.std.proofs.Common.{◌≡◌, ◌≤◌, ◌+◌, length}
use Rattle.aa_profile_data.specs.FileRules.{file_patterns}
use Rattle.aa_explain_paths.proofs.patterns.file_count.Given as goal

-- the count so far and the others are all, and they are no more than the rules
abbrev pub invariant-loop-rest : goal.invariant-loop-rest
invariant-loop-rest l = record {
  all : l.count + length (file_patterns l.rest) ≡ length (file_patterns l.rules);
  few : l.count + length l.rest ≤ length l.rules;
}

abbrev pub decreases-loop-rest : goal.decreases-loop-rest
decreases-loop-rest l = length l.rest
