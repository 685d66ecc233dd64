use Rattle.std.proofs.Common.{◌≡◌, ◌++◌, length, map}
use Rattle.aa_profile_grammar.specs.SeenFiles.{seen_member}
use Rattle.aa_profile_parsing.specs.SeenTokens.{seen_tokens}
use Rattle.aa_profile_grammar.specs.PatternTokens.{of_members}
use Rattle.aa_profile_grammar.proofs.tokens.push_members.Given as goal

-- the tokens so far, and those of the rest, are all
abbrev pub invariant-loop-rest : goal.invariant-loop-rest
invariant-loop-rest l = seen_tokens l.tokens.items ++ of_members (map seen_member l.rest) ≡ seen_tokens l.initial.tokens.items ++ of_members (map seen_member l.members)

abbrev pub decreases-loop-rest : goal.decreases-loop-rest
decreases-loop-rest l = length l.rest
