use Rattle.std.proofs.Common.{◌≡◌, length, map}
use Rattle.aa_text_tokens.specs.SeenTokens.{seen}
use Rattle.aatry_refusal_words.specs.TokensAt.{text_from}
use Rattle.aatry_refusal_words.proofs.tokens.text_from.Given as goal

-- the tokens that are left decide
abbrev pub invariant-loop-rest : goal.invariant-loop-rest
invariant-loop-rest l = text_from (map seen l.rest) l.at ≡ text_from (map seen l.tokens) l.at

abbrev pub decreases-loop-rest : goal.decreases-loop-rest
decreases-loop-rest l = length l.rest
