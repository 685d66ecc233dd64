use Rattle.std.proofs.Common.{◌≡◌, drop}
use Rattle.aa_profile.specs.Assignments.{first_undefined}
use Rattle.aa_profile_parsing.specs.SeenTokens.{seen_tokens}
use Rattle.aa_profile.proofs.assignments.first_undefined.Given as goal

-- the first is none of the tokens so far
abbrev pub invariant-loop-spliced : goal.invariant-loop-spliced
invariant-loop-spliced l = first_undefined l.variables (seen_tokens (drop l.spliced-index l.tokens)) ≡ first_undefined l.variables (seen_tokens l.tokens)
