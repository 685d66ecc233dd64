-- The pattern of a rule that lets all is one, whatever the variables are.
use Rattle.std.proofs.Common.{◌≡◌, [], ◌∷◌, List, None, refl}
use Rattle.aa_text_tokens.specs.Splicing.{Placed}
use Rattle.aa_text_variables.specs.Variables.{Variable}
use Rattle.aa_profile_grammar.specs.Patterns.{first_bad}
use Rattle.aa_profile_rules.specs.Rules.{all_files}

-- so its tokens are fine
pub all_fine : (variables : List Variable) (word : Placed) → first_bad variables (all_files word ∷ all_files word ∷ []) ≡ None
all_fine variables word = refl
