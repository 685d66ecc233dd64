-- The law that ties the full names that `list` prints to those in questions and in `show` (docs/commands.md, "Full names").
use Rattle.std.specs.Prelude.{◌≡◌, ℕ, true, List, Option, None, Some, slice_get}
use Rattle.std.specs.List.{Contains}
use Rattle.aa_decide.specs.Exec.{Asker, named_asker}
use Rattle.aa_decide_ready.specs.Named.{have_distinct_names}
use Rattle.aa_decide_ready.specs.Entries.{Loaded}
use Rattle.aa_profile_data.specs.Profile.{are_distinct_children}
use Rattle.aa_profile_data.specs.declared.profile.Child.{Child}
use Rattle.aa_profile_data.specs.declared.profile.Profile.{Profile}
use Rattle.aa_profile_data.specs.FullNames.{full_name}
use Rattle.aa_profile_data.specs.Names.{is_top_name}
use Rattle.aa_set_answers.specs.ProfileNames.{full_name_at}
use Rattle.aa_set_answers.specs.Askers.{asker}

-- a profile has a child or a hat at an index; without an index it is the profile itself
abbrev pub StandsAt : Profile → Option ℕ → Type 0
StandsAt profile None = Unit {0}
StandsAt profile (Some place) = (child : Child) × (slice_get profile.children place ≡ Some child)

-- `list` has a line of a profile, or of its child or hat at an index
abbrev pub IsListed : List Loaded → Asker → Type 0
IsListed entries who = Contains entries who.entry × StandsAt who.entry.profile who.child

-- a profile has a name as the grammar says, and no two of its children and hats have one name
abbrev pub HasFileNames : Profile → Type 0
HasFileNames profile = (is_top_name profile.name ≡ true) × (are_distinct_children profile.children ≡ true)

-- In a policy set without two profiles of one name a full name that `list` prints leads back, in a question and in `show`, to the profile, child or
-- hat that it was printed for. The names of each file's profiles are such (`how_profiles_are_named` of `aa_profile`).
abbrev pub ListedNamesLeadBack : Type 0
ListedNamesLeadBack =
    (entries : List Loaded) (who : Asker)
    → have_distinct_names entries ≡ true
    → HasFileNames who.entry.profile
    → IsListed entries who
    → let name = full_name_at who.entry.profile who.child in
    (asker entries name ≡ Some (Some who)) × (named_asker entries (full_name name) ≡ Some who)
