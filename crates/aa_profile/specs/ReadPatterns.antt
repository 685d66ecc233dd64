-- Definitions for the law on patterns: rules whose patterns read.
use Rattle.std.specs.List.{All}
use Rattle.aa_profile_data.specs.ConflictLaws.{HasReadPattern}
use Rattle.aa_profile_data.specs.declared.profile.Child.{Child}
use Rattle.aa_profile_data.specs.declared.profile.Profile.{Profile}

-- the patterns of the rules of a child or a hat read
abbrev pub ChildHasReadPatterns : Child → Type 0
ChildHasReadPatterns child = All HasReadPattern child.rules

-- the patterns of the rules of a profile, and of its children and hats, read
abbrev pub HasReadPatterns : Profile → Type 0
HasReadPatterns profile = All HasReadPattern profile.rules × All ChildHasReadPatterns profile.children
