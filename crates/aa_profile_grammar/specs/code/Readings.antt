-- What the code returns for what comes next in a list of parts.
use Rattle.std.specs.Prelude.{◌≡◌, List, Ok}
use Rattle.aa_text_tokens.specs.Splicing.{Placed}
use Rattle.aa_profile_parsing.specs.Parts.{Part}
use Rattle.aa_profile_parsing.specs.SeenTokens.{seen_tokens}
use Rattle.aa_profile_grammar.specs.code.Seen.{seen_next}
use Rattle.aa_profile_grammar.specs.declared.sequence.Next.{Next}
use Rattle.aa_profile_grammar.specs.declared.sequence.Rest.{Rest}

-- what was read, as the definitions see it, and the tokens after it are what a part reads next in a rest
abbrev pub IsNext : {A B : Type 0} → (A → B) → (List Placed → Part (Next B)) → Rest → Next A × Rest → Type 0
IsNext seen part rest read = part (seen_tokens rest.tokens.now) ≡ Ok (seen_next seen read.0, seen_tokens read.1.tokens.now)
