-- Claims by words, and paths that break them.
use Rattle.std.specs.Prelude.{Option, None, Some}
use Rattle.aa_explain_paths.specs.Answers.{Breaking, seen_breaking}
use Rattle.aa_explain_paths.specs.declared.question.Claim.{Claim}
use Rattle.aa_explain_paths.specs.declared.question.PathAnswer.TheVariants.{Fails, Holds, TooMany}
use Rattle.aatry_claims.specs.Words.{PathWords}
use Rattle.aatry_claims.specs.declared.found.Finding.{Finding}
use Rattle.aatry_claims.specs.declared.found.Finding.TheVariants.{Absent, ByRules}

-- a claim, by its words
pub record Claimed : Type 0 where
  pub claim : Claim
  pub words : PathWords

-- the path that breaks the claim, where one is found: with what `IsFound` promises of it (`breaking_by`)
abbrev pub breaking_of : Finding → Option Breaking
breaking_of (ByRules (Fails breaking)) = Some (seen_breaking breaking)
breaking_of (ByRules (Holds count)) = None
breaking_of (ByRules TooMany) = None
breaking_of Absent = None
