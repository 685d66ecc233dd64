use Rattle.std.proofs.Common.{◌≡◌, [], length}
use Rattle.std.specs.Prelude.{fold}
use Rattle.aa_profile_parsing.specs.SeenTokens.{seen_tokens}
use Rattle.aa_profile.specs.Profiles.{with_token}
use Rattle.aa_profile.proofs.kept_rules.kept_text.Given as goal

-- the text so far, with the tokens of the rest, is all
abbrev pub invariant-loop-rest : goal.invariant-loop-rest
invariant-loop-rest l = fold with_token l.text.items (seen_tokens l.rest) ≡ fold with_token [] (seen_tokens l.tokens)

abbrev pub decreases-loop-rest : goal.decreases-loop-rest
decreases-loop-rest l = length l.rest
