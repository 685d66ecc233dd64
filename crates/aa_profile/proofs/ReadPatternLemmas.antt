-- The patterns of the rules of a file that is read.
use Rattle.std.proofs.Common.{◌≡◌, List, [], ◌∷◌, map, Option, None, Some, Ok, refl}
use Rattle.std.specs.List.{All}
use Rattle.std.proofs.lemmas.List.Elements.{All-cons, All-nil}
use Rattle.aa_profile_parsing.specs.declared.profile_error.ProfileError.{ProfileError}
use Rattle.aa_profile_grammar.specs.Blocks.{Profile as WrittenProfile}
use Rattle.aa_profile_grammar.specs.Files.{File, file}
use Rattle.aa_profile_parsing.specs.declared.language.Language.{Language}
use Rattle.aa_profile_grammar.specs.PatternTokens.{of_profiles}
use Rattle.aa_profile_grammar.specs.Patterns.{first_bad, over_limit}
use Rattle.aa_text_tokens.specs.Splicing.{Placed}
use Rattle.aa_text_variables.specs.Variables.{Variable}
use Rattle.aa_profile.specs.FileReading.{refusal_of_patterns, refusal_of_rules}
use Rattle.aa_profile.specs.Profiles.{profile_of}
use Rattle.aa_profile.specs.ReadPatterns.{HasReadPatterns}
use Rattle.aa_profile.proofs.ReadLemmas.{children-read, members-fine, members-read}

-- where no token is refused, those of all profiles read
profiles-read : (language : Language) (variables : List Variable) (profiles : List WrittenProfile) → first_bad variables (of_profiles profiles) ≡ None
    → All HasReadPatterns (map (profile_of language variables) profiles)
profiles-read language variables [] fine = All-nil HasReadPatterns
profiles-read language variables (profile ∷ profiles) fine =
    let (own, others) = members-fine language variables profile profiles fine in
    All-cons HasReadPatterns (profile_of language variables profile) (map (profile_of language variables) profiles)
    (members-read language variables profile.members own, children-read language variables profile.members own) (profiles-read language variables profiles others)

-- and so they do where no rule is refused
pub read-patterns : (language : Language) (variables : List Variable) (tokens : List Placed) (written : File) → file language tokens ≡ Ok written
    → refusal_of_rules language variables written.profiles ≡ None
    → All HasReadPatterns (map (profile_of language variables) written.profiles)
read-patterns language variables tokens written is fine =
    profiles-read language variables written.profiles (good (over_limit variables (of_profiles written.profiles)) refl (patterns (refusal_of_patterns variables (of_profiles written.profiles)) refl))
  where
    patterns : (refusal : Option ProfileError) → refusal_of_patterns variables (of_profiles written.profiles) ≡ refusal
        → refusal_of_patterns variables (of_profiles written.profiles) ≡ None
    patterns (Some refusal) e = let wrong : Some refusal ≡ None = rw (refusal_of_rules, e) at fine in absurd (cc)
    patterns None e = e

    good : (many : Option ProfileError) → over_limit variables (of_profiles written.profiles) ≡ many
        → refusal_of_patterns variables (of_profiles written.profiles) ≡ None → first_bad variables (of_profiles written.profiles) ≡ None
    good None e none = rw (refusal_of_patterns, e) at none
    good (Some error) e none = let wrong : Some error ≡ None = rw (refusal_of_patterns, e) at none in absurd (cc)
