-- The first block of a file, in language 4, whose exec rules have more states than the limit: a profile, or a child or hat (docs/commands.md,
-- "Limits").
use Rattle.std.specs.Prelude.{if◌then◌else◌, List, [], ◌∷◌, map, Option, None, Some}
use Rattle.std.specs.Option.{option_map}
use Rattle.aa_text_tokens.specs.Splicing.{Placed}
use Rattle.aa_text_variables.specs.Variables.{Variable}
use Rattle.aa_profile_conflicts.specs.States.{has_many_states}
use Rattle.aa_profile_data.specs.declared.profile.Child.{Child}
use Rattle.aa_profile_data.specs.declared.profile.Profile.{Profile}
use Rattle.aa_profile_grammar.specs.Blocks.{OfChild, OfRule, Member, Profile as WrittenProfile}
use Rattle.aa_profile_parsing.specs.declared.language.Language.{Language}
use Rattle.aa_profile_parsing.specs.declared.language.Language.TheVariants.{Four, Three}
use Rattle.aa_profile_parsing.specs.Tokens.{place_of}
use Rattle.aa_profile.specs.Profiles.{profile_of}
use Rattle.aa_profile_parsing.specs.ProfileError.{placed}
use Rattle.aa_profile_parsing.specs.declared.profile_error.ProfileError.{ProfileError}
use Rattle.aa_profile_parsing.specs.declared.profile_error.ProfileRefusal.TheVariants.{ManyStates}

-- the token that names the first such child or hat among the members of a block, which make these children
abbrev pub many_in_members : List Member → List Child → Option Placed
many_in_members [] children = None
many_in_members (OfRule rule ∷ members) children = many_in_members members children
many_in_members (OfChild written ∷ members) [] = None
many_in_members (OfChild written ∷ members) (child ∷ children) =
    if has_many_states child.rules then Some written.head.token else many_in_members members children

-- the token that names the first such block of a profile: its own, or that of a child or hat
abbrev pub many_in_profile : WrittenProfile → Profile → Option Placed
many_in_profile written profile = if has_many_states profile.rules then Some written.head.token else many_in_members written.members profile.children

-- the first such token of profiles, each of which makes one of these
abbrev pub many_in_profiles : List WrittenProfile → List Profile → Option Placed
many_in_profiles [] profiles = None
many_in_profiles (written ∷ rest) [] = None
many_in_profiles (written ∷ rest) (profile ∷ profiles) = elim (many_in_profile written profile) [
  | Some token ↦ Some token
  | None ↦ many_in_profiles rest profiles
]

-- the refusal of that token, with its place; language 3 has no such limit
abbrev pub refusal_of_many : Language → List WrittenProfile → List Profile → Option ProfileError
refusal_of_many Three written profiles = None
refusal_of_many Four written profiles = option_map (λ token. placed ManyStates (place_of token)) (many_in_profiles written profiles)

-- the refusal of the profiles that a file writes
abbrev pub refusal_of_states : Language → List Variable → List WrittenProfile → Option ProfileError
refusal_of_states language variables written = refusal_of_many language written (map (profile_of language variables) written)
