use Rattle.std.proofs.Common.{◌≡◌, ◌++◌, length}
use Rattle.aa_glob.specs.Laws.{quoted}
use Rattle.aa_explain_rules.proofs.missing.quoted.Given as goal

-- the text so far, and what the rest of the path becomes, are all
abbrev pub invariant-loop-rest : goal.invariant-loop-rest
invariant-loop-rest l = record {
  all : l.text.items ++ quoted l.rest ≡ quoted l.path;
}

abbrev pub decreases-loop-rest : goal.decreases-loop-rest
decreases-loop-rest l = length l.rest
