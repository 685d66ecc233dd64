-- Reading a profile's file, in phases each of which goes over the whole file: its text, its grammar, its variables, how many patterns it
-- makes, these patterns, how many states the exec rules of a block have, and conflicts of rules (docs/policy.md, "Files"). The first phase that
-- refuses decides.
use Rattle.std.specs.Prelude.{ℕ, List, map, Option, None, Some, Result, Ok, Err}
use Rattle.aa_text_files.specs.Files.{File as HandedIn}
use Rattle.aa_profile_grammar.specs.Blocks.{Profile as WrittenProfile}
use Rattle.aa_profile_grammar.specs.Files.{File, file}
use Rattle.aa_profile_parsing.specs.declared.language.Language.TheVariants.{Three}
use Rattle.aa_profile_parsing.specs.declared.language.Language.{Language}
use Rattle.aa_text_tokens.specs.Splicing.{Placed, spliced}
use Rattle.aa_text_variables.specs.Variables.{Variable}
use Rattle.aa_profile_data.specs.declared.profile.Profile.{Profile}
use Rattle.aa_profile.specs.Assignments.{variables_of}
use Rattle.aa_profile.specs.Conflicts.{refusal_of_conflicts}
use Rattle.aa_profile.specs.States.{refusal_of_states}
use Rattle.aa_profile_grammar.specs.PatternTokens.{of_profiles}
use Rattle.aa_profile_grammar.specs.Patterns.{first_bad, over_limit}
use Rattle.aa_profile_parsing.specs.ProfileError.{error_of_grammar, refusal_of_text}
use Rattle.aa_profile.specs.Profiles.{profile_of}
use Rattle.aa_profile_parsing.specs.declared.profile_error.ProfileError.{ProfileError}

-- the refusal of patterns: there are too many, or some text is no pattern
abbrev pub refusal_of_patterns : List Variable → List Placed → Option ProfileError
refusal_of_patterns variables patterns = elim (over_limit variables patterns) [ Some refusal ↦ Some refusal | None ↦ first_bad variables patterns ]

-- the refusal of a file's blocks: the exec rules of one have too many states, or rules of one conflict
abbrev pub refusal_of_blocks : Language → List Variable → List WrittenProfile → Option ProfileError
refusal_of_blocks language variables profiles = elim (refusal_of_states language variables profiles) [
  | Some refusal ↦ Some refusal
  | None ↦ refusal_of_conflicts language variables profiles
]

-- the refusal of a file's rules: some of its patterns are refused, or its blocks are
abbrev pub refusal_of_rules : Language → List Variable → List WrittenProfile → Option ProfileError
refusal_of_rules language variables profiles = elim (refusal_of_patterns variables (of_profiles profiles)) [
  | Some refusal ↦ Some refusal
  | None ↦ refusal_of_blocks language variables profiles
]

-- the profiles of a file, with its variables
abbrev pub profiles_with : Language → List Variable → File → Result (List Profile) ProfileError
profiles_with language variables file = elim (refusal_of_rules language variables file.profiles) [
  | Some refusal ↦ Err refusal
  | None ↦ Ok (map (profile_of language variables) file.profiles)
]

-- the profiles of a file
abbrev pub profiles_in : Language → File → Result (List Profile) ProfileError
profiles_in language file = elim (variables_of file.assignments (of_profiles file.profiles)) [
  | Err refusal ↦ Err refusal
  | Ok variables ↦ profiles_with language variables file
]

-- the profiles of tokens
abbrev pub profiles_of : Language → List Placed → Result (List Profile) ProfileError
profiles_of language tokens = elim (file language tokens) [ Err error ↦ Err (error_of_grammar error) | Ok file ↦ profiles_in language file ]

-- the profiles of a file among the files, read by a language, in its order
abbrev pub file_profiles_in : Language → List HandedIn → List ℕ → Result (List Profile) ProfileError
file_profiles_in language files name = elim (spliced files name) [
  | Err fault ↦ Err (record { refusal = refusal_of_text fault.0; place = fault.1 })
  | Ok tokens ↦ profiles_of language tokens
]

-- the profiles of a file, read by language 3
abbrev pub file_profiles : List HandedIn → List ℕ → Result (List Profile) ProfileError
file_profiles files name = file_profiles_in Three files name
