-- Definitions for the law on conflicts.
use Rattle.std.specs.Prelude.{◌≡◌, ◌↔◌, List, map, None}
use Rattle.std.specs.List.{All}
use Rattle.aa_profile_data.specs.ConflictLaws.{NoneConflict}
use Rattle.aa_profile_data.specs.declared.profile.Child.{Child}
use Rattle.aa_profile_data.specs.declared.profile.Profile.{Profile}
use Rattle.aa_profile_grammar.specs.Blocks.{Profile as WrittenProfile}
use Rattle.aa_profile_parsing.specs.declared.language.Language.{Language}
use Rattle.aa_text_variables.specs.Variables.{Variable}
use Rattle.aa_profile.specs.Conflicts.{refusal_of_conflicts}
use Rattle.aa_profile.specs.FileReading.{refusal_of_patterns}
use Rattle.aa_profile_grammar.specs.PatternTokens.{of_profiles}
use Rattle.aa_profile.specs.Profiles.{profile_of}

-- no rule of a child or a hat conflicts with an earlier one
abbrev pub ChildHasNoConflict : Child → Type 0
ChildHasNoConflict child = NoneConflict child.rules

-- no rule of a profile, or of its children and hats, conflicts with an earlier one
abbrev pub HasNoConflict : Profile → Type 0
HasNoConflict profile = NoneConflict profile.rules × All ChildHasNoConflict profile.children

-- Where the patterns of a file's profiles are fine, the profiles aren't refused for a conflict exactly where none of their rules conflicts with an
-- earlier one.
abbrev pub ConflictsAreRefused : Type 0
ConflictsAreRefused =
    (language : Language) (variables : List Variable) (profiles : List WrittenProfile)
    → refusal_of_patterns variables (of_profiles profiles) ≡ None
    → (refusal_of_conflicts language variables profiles ≡ None ↔ All HasNoConflict (map (profile_of language variables) profiles))
