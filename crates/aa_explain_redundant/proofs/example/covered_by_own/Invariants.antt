use Rattle.std.proofs.Common.{◌≡◌, map, length}
use Rattle.std.specs.Prelude.{fold}
use Rattle.aa_explain_redundant.specs.Examples.{covered_by_own, with_own}
use Rattle.aa_explain_redundant.specs.Seen.{seen_numbered}
use Rattle.aa_explain_redundant.proofs.example.covered_by_own.Given as goal

-- what the rules so far cover, with what those that are left do, is all
abbrev pub invariant-loop-rest : goal.invariant-loop-rest
invariant-loop-rest l = fold (with_own l.path l.number) l.letters.0 (map seen_numbered l.rest) ≡ covered_by_own l.path l.number (map seen_numbered l.rules)

abbrev pub decreases-loop-rest : goal.decreases-loop-rest
decreases-loop-rest l = length l.rest
