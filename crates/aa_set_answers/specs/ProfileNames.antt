-- The full names of profiles, children and hats (docs/commands.md, "Full names").
use Rattle.std.specs.Prelude.{ℕ, List, [], ◌++◌, Option, None, Some, codes, slice_get}
use Rattle.aa_profile_data.specs.declared.profile.Child.{Child}
use Rattle.aa_profile_data.specs.declared.profile.Profile.{Profile}

-- the name of a child or a hat, after that of its profile
abbrev pub behind_profile : Option Child → List ℕ
behind_profile None = []
behind_profile (Some child) = codes "//" ++ child.name

-- the full name of a profile, or of its child or hat at an index
abbrev pub full_name_at : Profile → Option ℕ → List ℕ
full_name_at profile None = profile.name
full_name_at profile (Some place) = profile.name ++ behind_profile (slice_get profile.children place)
