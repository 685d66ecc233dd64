-- Profiles as language 3 has them (docs/policy.md, "Languages").
use Rattle.std.specs.Prelude.{◌≡◌, ◌≢◌, ◌&&◌, IfSome, None, Option, if◌then◌else◌, is_some}
use Rattle.std.specs.List.{All}
use Rattle.aa_glob_syntax.specs.Exactness.{is_exact}
use Rattle.aa_glob_syntax.specs.Reading.{items_of}
use Rattle.aa_profile_data.specs.Stacks.{stack_of}
use Rattle.aa_profile_data.specs.declared.profile.Child.{Child}
use Rattle.aa_profile_data.specs.declared.profile.FileRule.{FileRule}
use Rattle.aa_profile_data.specs.declared.profile.Mode.TheVariants.{Unconfined}
use Rattle.aa_profile_data.specs.declared.profile.Profile.{Profile}
use Rattle.aa_profile_data.specs.declared.profile.Rank.{Rank}
use Rattle.aa_profile_data.specs.declared.profile.Rank.TheVariants.{Loose, Plain}
use Rattle.aa_profile_data.specs.declared.profile.Rule.{Rule}
use Rattle.aa_profile_data.specs.declared.profile.Rule.TheVariants.{Cap, File, Net, Other}
use Rattle.aa_profile_data.specs.declared.profile.Transition.{Transition}

-- a transition, if there is one, names no stack
abbrev pub NamesNoStack : Option Transition → Type 0
NamesNoStack exec = IfSome exec (λ transition. IfSome transition.target (λ target. stack_of target ≡ None))

-- the rank of a rule by its own pattern: plain where it has an exec word and its pattern is exact, never the last
abbrev pub own_rank : FileRule → Rank
own_rank rule = if is_some rule.exec && is_exact (items_of rule.pattern) then Plain else Loose

-- the rank of a rule is that of its own pattern, and it names no stack
abbrev pub IsNarrowRule : Rule → Type 0
IsNarrowRule (File rule) = (rule.rank ≡ own_rank rule) × NamesNoStack rule.exec
IsNarrowRule (Cap rule) = Unit
IsNarrowRule (Net rule) = Unit
IsNarrowRule (Other rule) = Unit

-- a child or a hat isn't in the mode unconfined, and all its rules are narrow
abbrev pub IsNarrowChild : Child → Type 0
IsNarrowChild child = (child.mode ≢ Unconfined) × All IsNarrowRule child.rules

-- a profile isn't in the mode unconfined, and all its rules and its children and hats are narrow
abbrev pub IsNarrow : Profile → Type 0
IsNarrow profile = (profile.mode ≢ Unconfined) × All IsNarrowRule profile.rules × All IsNarrowChild profile.children
