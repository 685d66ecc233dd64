-- What is known of the names in each profile of a file (docs/policy.md, "Names").
use Rattle.std.specs.Prelude.{Bool, ◌&&◌}
use Rattle.std.specs.List.{list_all}
use Rattle.aa_profile_data.specs.Profile.{are_distinct_children}
use Rattle.aa_profile_data.specs.declared.profile.Child.{Child}
use Rattle.aa_profile_data.specs.declared.profile.Profile.{Profile}
use Rattle.aa_profile_data.specs.Names.{is_name, is_top_name}

-- a child or a hat has a name that the grammar accepts
abbrev pub is_child_named_well : Child → Bool
is_child_named_well child = is_name child.name

-- A profile has a name that the grammar accepts for one that isn't within another, and so have its children and hats.
abbrev pub is_named_well : Profile → Bool
is_named_well profile = is_top_name profile.name && list_all is_child_named_well profile.children

-- no two children or hats of a profile have one name
abbrev pub has_distinct_children : Profile → Bool
has_distinct_children profile = are_distinct_children profile.children
